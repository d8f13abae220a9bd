use Rattle.std.proofs.Common.{◌≡◌, ◌≤◌, ◌+◌, List, length}
use Rattle.std.specs.List.{list_any}
use Rattle.x509_cert.specs.RevokedCert.{revoked_cert}
use Rattle.x509_cert.specs.declared.crl.revoked_cert.RevokedCert.{RevokedCert}
use Rattle.x509_check.specs.CrlRefs.{FindsEntry, is_marked}
use Rattle.x509_check.specs.contracts.lent.revoked.find_in_entries.{P-type}
use Rattle.x509_der.specs.List.{list_reading, with_front}
use Rattle.x509_check.proofs.lent.revoked.find_in_entries.Given as goal

-- what was found among those that were passed
abbrev pub invariant-loop-rest : goal.invariant-loop-rest
invariant-loop-rest g l = record {
  within : l.count + length l.rest ≤ length l.octets;
  passed : (front : List (RevokedCert (P-type g.row.P))) × (with_front front (list_reading (revoked_cert {P = P-type g.row.P} g.P.Profile.serial_check).reading l.rest) ≡ list_reading (revoked_cert {P = P-type g.row.P} g.P.Profile.serial_check).reading l.octets) × FindsEntry l.serial_number front l.found × (l.count ≡ length front) × (l.has_marked ≡ list_any is_marked front);
}

abbrev pub decreases-loop-rest : goal.decreases-loop-rest
decreases-loop-rest g l = length l.rest
