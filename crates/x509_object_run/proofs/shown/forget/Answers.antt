use Rattle.x509_object_run.proofs.shown.forget.Goals as goal

pub returns : goal.returns
returns g c = rw (c.name.ensures, c.as_bytes.ensures.value) at c.complain_of.ensures
