use Rattle.std.proofs.Common.{◌≤◌, List, length}
use Rattle.x509_cert.specs.declared.crl.revoked_cert.RevokedCert.{RevokedCert}
use Rattle.x509_check.proofs.CheckedEntries.{AreLeft}
use Rattle.x509_check.specs.CrlRefs.{entries_in}
use Rattle.x509_check.specs.contracts.lent.revoked.find_in_checked.{P-type}
use Rattle.x509_check.proofs.lent.revoked.find_in_checked.Given as goal

-- none of those that were passed has the number
abbrev pub invariant-loop-rest : goal.invariant-loop-rest
invariant-loop-rest g l = record {
  within : length l.rest ≤ length l.octets;
  left : (left : List (RevokedCert (P-type g.row.P))) × AreLeft {P = P-type g.row.P} g.P.Profile.serial_check l.serial_number (entries_in g.P.Profile.serial_check l.octets) l.rest left;
}

abbrev pub decreases-loop-rest : goal.decreases-loop-rest
decreases-loop-rest g l = length l.rest
