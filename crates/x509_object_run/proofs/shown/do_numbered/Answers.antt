use Rattle.std.proofs.Common.{inl, ◌∙◌}
use Rattle.x509_object_run.proofs.shown.do_numbered.Goals as goal

pub returns-in-Ok : goal.returns-in-Ok
returns-in-Ok g c = inl (rw (c.as_str.ensures.value ∙ c.in-Ok.ensures, c.headed-headed.ensures) at c.do_item.ensures)
