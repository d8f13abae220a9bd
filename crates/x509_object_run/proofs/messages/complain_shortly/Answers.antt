use Rattle.x509_object_run.proofs.messages.complain_shortly.Goals as goal

pub returns : goal.returns
returns g c = rw c.name.ensures at c.tell_texts.ensures
