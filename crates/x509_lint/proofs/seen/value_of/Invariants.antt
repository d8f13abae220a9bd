use Rattle.std.proofs.Common.{◌≡◌, length}
use Rattle.x509_ext.specs.LookUp.{with_oid}
use Rattle.x509_lint.proofs.seen.value_of.Given as goal

-- what was passed has another OID
abbrev pub invariant-loop-extensions : goal.invariant-loop-extensions
invariant-loop-extensions l = with_oid l.oid l.extensions ≡ with_oid l.oid l.initial.extensions

abbrev pub decreases-loop-extensions : goal.decreases-loop-extensions
decreases-loop-extensions l = length l.extensions
