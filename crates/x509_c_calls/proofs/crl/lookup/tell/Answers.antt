use Rattle.std.proofs.Common.{refl}
use Rattle.x509_c_calls.specs.Revoked.{Tells}
use Rattle.x509_c_calls.proofs.crl.lookup.tell.Goals as goal

pub returns-in-Ok-clause-tells : goal.returns-in-Ok-clause-tells
unfolding Tells
returns-in-Ok-clause-tells c = λ list number finds. (record { entry = _; first = rw c.in-Some.is at finds }, c.in-Ok.ensures)

pub returns-in-Err-clause-tells : goal.returns-in-Err-clause-tells
unfolding Tells
returns-in-Err-clause-tells c = λ list number finds. rw c.into.ensures (record { entry = _; first = rw c.in-Some.is at finds }, c.in-Err.e, refl, c.in-Err.ensures, refl)
