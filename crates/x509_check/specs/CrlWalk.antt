-- A walk over a CRL, which lends its fields and looks for a serial number.
use Rattle.std.specs.List.{list_any}
use Rattle.std.specs.Prelude.{◌≡◌, ℕ, List, length, Option, Some, option_copied, option_map, Result}
use Rattle.x509_cert.specs.Revoked.{entries}
use Rattle.x509_cert.specs.declared.crl.certificate_list.CertificateList.{CertificateList}
use Rattle.x509_cert.specs.declared.crl.revoked_cert.RevokedCert.{RevokedCert}
use Rattle.x509_cert.specs.declared.crl.tbs_cert_list.TbsCertList.{TbsCertList}
use Rattle.x509_check.specs.CrlRefs.{FindsEntry, FindsInList, entry_list, field_spellings, is_marked, lent_fields, lent_parts, list_spellings}
use Rattle.x509_check.specs.declared.lent.revoked.PassedEntries.{PassedEntries}
use Rattle.x509_check.specs.declared.lent.revoked.Walked.{Walked}
use Rattle.x509_check.specs.declared.lent.revoked.WalkedEntries.{WalkedEntries}
use Rattle.x509_check.specs.declared.lent.revoked.WalkedPart.{WalkedPart}
use Rattle.x509_der.specs.Form.{spelling}
use Rattle.x509_der.specs.declared.error.ErrorKind.{ErrorKind}

-- how many entries there are, what was found among them, and whether one is marked
abbrev pub PassesEntries : {P : Type 0} → List ℕ → List (RevokedCert P) → PassedEntries → Type 0
PassesEntries number revoked passed = FindsEntry number revoked passed.found × (passed.count ≡ length revoked) × (passed.has_marked ≡ list_any is_marked revoked)

-- the same of a list of entries, which may be left out, and its element
abbrev pub WalksAmong : {P : Type 0} → (List ℕ → Result Unit ErrorKind) → List ℕ → Option (List (RevokedCert P)) → WalkedEntries → Type 0
WalksAmong check number revoked walked =
    FindsEntry number (entries revoked) walked.found
    × (option_copied walked.element ≡ option_map (spelling (entry_list check)) revoked)
    × (walked.count ≡ length (entries revoked))
    × (walked.has_marked ≡ list_any is_marked (entries revoked))

abbrev pub WalksEntries : {P : Type 0} → (List ℕ → Result Unit ErrorKind) → List ℕ → List (RevokedCert P) → WalkedEntries → Type 0
WalksEntries check number revoked walked = WalksAmong check number (Some revoked) walked

-- the same of the signed part of a CRL, with its fields, and of a CRL
abbrev pub WalksPart : {P : Type 0} → (List ℕ → Result Unit ErrorKind) → List ℕ → TbsCertList P → WalkedPart → Type 0
WalksPart check number part walked = FindsEntry number (entries part.revoked_certificates) walked.found × (lent_fields walked.fields ≡ field_spellings check part)

abbrev pub WalksList : {P : Type 0} → (List ℕ → Result Unit ErrorKind) → List ℕ → CertificateList P → Walked → Type 0
WalksList check number list walked = FindsInList number list walked.found × (lent_parts walked.parts ≡ list_spellings check list)
