use Rattle.std.proofs.Common.{◌∙◌, sym}
use Rattle.x509_object_run.proofs.shown.do_one.Goals as goal

pub returns-then-is_standard : goal.returns-then-is_standard
returns-then-is_standard g c = rw (sym c.is_standard.ensures ∙ c.if-is_standard.true) (rw c.label_of-label.ensures at c.do_source.ensures)
