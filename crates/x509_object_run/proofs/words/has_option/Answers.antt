use Rattle.std.proofs.Common.{bytes_eq, ◌∙◌, sym}
use Rattle.x509_object_run.proofs.SplitWords.{list_any-map}
use Rattle.x509_object_run.proofs.words.has_option.Goals as goal

pub returns : goal.returns
returns c = c.contains.ensures.value ∙ sym (list_any-map (λ other. bytes_eq other c.args.option.now) (λ other. other.now) c.args.options.now)
