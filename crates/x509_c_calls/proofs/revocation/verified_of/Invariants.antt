use Rattle.std.proofs.Common.{◌≡◌, ◌++◌, drop}
use Rattle.x509_c_calls.proofs.revocation.verified_of.Given as goal
use Rattle.x509_c_calls.specs.RevocationStatus.{verified, verified_from}

-- those so far, and those of what is left
abbrev pub invariant-loop-place : goal.invariant-loop-place
invariant-loop-place l = l.found.items ++ verified_from l.place (drop l.place l.crls) ≡ verified l.crls
