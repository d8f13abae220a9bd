-- What was passed has another type.
use Rattle.std.proofs.Common.{◌≡◌, length}
use Rattle.x509_cert.specs.AttributeLookUp.{with_type}
use Rattle.x509_cert.proofs.request.look_up.split_first_with.Given as goal

abbrev pub invariant-loop-first : goal.invariant-loop-first
invariant-loop-first l = with_type l.oid l.rest ≡ with_type l.oid l.attributes

abbrev pub decreases-loop-first : goal.decreases-loop-first
decreases-loop-first l = length l.rest
