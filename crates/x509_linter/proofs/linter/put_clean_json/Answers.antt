use Rattle.std.proofs.Common.{◌∙◌, subst}
use Rattle.x509_linter.specs.Linter.{IsPut}
use Rattle.x509_linter.proofs.linter.put_clean_json.Goals as goal

pub returns-in-Ok : goal.returns-in-Ok
returns-in-Ok g c =
    subst (λ text. IsPut g.W.Sink.takes c.args.writer.now text c.put.new.writer c.put.result) (c.as_bytes.ensures.value ∙ c.as_str.ensures.value ∙ c.in-Ok.ensures) c.put.ensures
