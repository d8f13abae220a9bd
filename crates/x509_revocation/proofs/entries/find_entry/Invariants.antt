use Rattle.std.proofs.Common.{length, option_map}
use Rattle.x509_base.specs.Profiles.{rfc5280_serial_number}
use Rattle.x509_base.specs.declared.profile.Rfc5280.{Rfc5280}
use Rattle.x509_check.specs.CrlRefs.{entries_in, lent_entry}
use Rattle.x509_path.specs.Certificates.{Certificate}
use Rattle.x509_path.specs.Lent.{Lends}
use Rattle.x509_revocation.specs.Crls.{Crl, entries_of}
use Rattle.x509_revocation.specs.Entries.{IsUsable}
use Rattle.x509_revocation.specs.Lent.{LendsCrl}
use Rattle.x509_revocation.proofs.Looks.{StandsFor}
use Rattle.x509_revocation.proofs.Seeks.{Seeks}
use Rattle.x509_revocation.proofs.entries.find_entry.Given as goal

-- the entries that are left stand for all, and that of the certificate was found or is among them
abbrev pub invariant-loop-entry : goal.invariant-loop-entry
invariant-loop-entry l = (certificate : Certificate) (list : Crl) → Lends l.certificate.bytes.now certificate → LendsCrl l.crl.bytes.now list
    → StandsFor (IsUsable l.is_indirect) (entries_in {P = Rfc5280} rfc5280_serial_number l.entries.rest.now) (entries_of list)
    × Seeks certificate list l.is_issuer (entries_in {P = Rfc5280} rfc5280_serial_number l.entries.rest.now) (option_map lent_entry l.found)

abbrev pub decreases-loop-entry : goal.decreases-loop-entry
decreases-loop-entry l = length (entries_in {P = Rfc5280} rfc5280_serial_number l.entries.rest.now)
