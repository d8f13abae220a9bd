use Rattle.std.proofs.Common.{◌≡◌, length}
use Rattle.x509_lint.specs.Request.{has_faulty_password}
use Rattle.x509_lint.proofs.request.passwords.has_faulty_password.Given as goal

abbrev pub invariant-loop-attributes : goal.invariant-loop-attributes
invariant-loop-attributes l = has_faulty_password l.fault l.attributes ≡ has_faulty_password l.fault l.initial.attributes

abbrev pub decreases-loop-attributes : goal.decreases-loop-attributes
decreases-loop-attributes l = length l.attributes
