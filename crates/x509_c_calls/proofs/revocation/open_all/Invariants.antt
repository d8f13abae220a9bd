use Rattle.std.proofs.Common.{List, take}
use Rattle.x509_c_calls.proofs.revocation.open_all.Given as goal
use Rattle.x509_c_calls.specs.OpenedCrls.{IsOpened}
use Rattle.x509_c_calls.specs.RevocationStatus.{AllPairs, AreGiven}
use Rattle.x509_revocation.specs.Says.{GivenCrl}

abbrev pub invariant-loop-it : goal.invariant-loop-it
invariant-loop-it l = (given : List GivenCrl) × AreGiven l.bytes (take l.it-index l.found) given × AllPairs IsOpened l.opened.items given
