use Rattle.std.proofs.Common.{take}
use Rattle.x509_c_calls.proofs.RevocationCrls.{IsLentFrom}
use Rattle.x509_c_calls.proofs.revocation.lent_crls.Given as goal
use Rattle.x509_c_calls.specs.RevocationStatus.{AllPairs}

abbrev pub invariant-loop-one : goal.invariant-loop-one
invariant-loop-one l = AllPairs IsLentFrom l.lent.items (take l.one-index l.opened)
