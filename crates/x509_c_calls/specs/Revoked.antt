-- What a CRL says of a revoked certificate (RFC 5280 5.3).
use Rattle.std.specs.Prelude.{◌≡◌, ◌⊎◌, ℕ, ℤ, pos, negsuc, Bool, List, [], Option, Some, None, Result, Ok, Err}
use Rattle.x509_base.specs.CivilTime.{unix_seconds}
use Rattle.x509_base.specs.Time.{date_time_of}
use Rattle.x509_c_calls.specs.declared.crl.lookup.Revocation.{Revocation}
use Rattle.x509_types.specs.Reencoding.{IsRefused}
use Rattle.x509_c_calls.specs.declared.status.status.Status.{Status}
use Rattle.x509_c_calls.specs.declared.status.status.Status.TheVariants.{Done, NoRoom, Absent, Repeated, Faulty, Limit, Refused}
use Rattle.x509_cert.specs.Revoked.{IsFirstWith, entries, with_serial}
use Rattle.x509_cert.specs.declared.crl.certificate_list.CertificateList.{CertificateList}
use Rattle.x509_cert.specs.declared.crl.revoked_cert.RevokedCert.{RevokedCert}
use Rattle.x509_der.specs.declared.error.Error.{Error}
use Rattle.x509_der.specs.declared.error.ErrorKind.{ErrorKind}
use Rattle.x509_der.specs.Form.{Form, Spells}
use Rattle.x509_ext.specs.CrlReason.{crl_reason_number}
use Rattle.x509_ext.specs.declared.pkix.crl_reason.CrlReason.{CrlReason}

-- the number of the reason that was found; -1 where there is none
abbrev pub reason_number : Option (Bool × CrlReason) → ℤ
reason_number None = negsuc 0
reason_number (Some found) = pos (crl_reason_number found.1)

-- what a look-up of the reason may answer on an entry
abbrev pub Finding : Type 0 → Type 1
Finding P = RevokedCert P → Result (Option (Bool × CrlReason)) Error → Type 0

-- What an entry says: its date, and the reason that is found; or the refusal of finding it.
abbrev pub Revokes : {P : Type 0} → Finding P → RevokedCert P → Result Revocation Error → Type 0
Revokes finds entry (Ok revocation) =
    (found : Option (Bool × CrlReason)) × finds entry (Ok found) × (revocation.reason ≡ reason_number found) × (revocation.date ≡ unix_seconds (date_time_of entry.revocation_date))
Revokes finds entry (Err e) = finds entry (Err e)

-- bytes that spell a list, and bytes that spell a serial number
pub record Asked {P : Type 0} (list_form : Form (CertificateList P)) (serial_form : Form (List ℕ)) (list_bytes serial_bytes : List ℕ) : Type 0 where
  pub list : CertificateList P
  pub number : List ℕ
  pub list_spelled : Spells list_form list list_bytes
  pub number_spelled : Spells serial_form number serial_bytes

-- the first entry of the list with the number
pub record FirstEntry {P : Type 0} (number : List ℕ) (list : List (RevokedCert P)) : Type 0 where
  pub entry : RevokedCert P
  pub first : IsFirstWith number list entry

-- What a list says of a number. Done: what the first entry with the number says. Absent: there is none. A refusal is that of the entry's reason. What
-- isn't filled in stays as it was.
unfoldable pub Tells : {P : Type 0} → Finding P → List (RevokedCert P) → List ℕ → Revocation → Revocation → Status → Type 0
Tells finds list number was is Done = (found : FirstEntry number list) × Revokes finds found.entry (Ok is)
Tells finds list number was is Absent = (with_serial number list ≡ []) × (is ≡ was)
Tells finds list number was is (Refused e) = (found : FirstEntry number list) × (why : Error) × (why.kind ≡ e) × Revokes finds found.entry (Err why) × (is ≡ was)
Tells finds list number was is NoRoom = ⊥
Tells finds list number was is Repeated = ⊥
Tells finds list number was is Faulty = ⊥
Tells finds list number was is Limit = ⊥

-- What a call leaves that asks bytes for bytes: what the list says of the number that are spelled; or the list is
-- refused; or, where there is a list, the number is.
unfoldable pub LooksUp : {P : Type 0} → Form (CertificateList P) → (ErrorKind → Type 0) → Form (List ℕ) → (ErrorKind → Type 0) → Finding P → List ℕ → List ℕ → Revocation → Revocation → Status → Type 0
LooksUp {P} list_form list_refuses serial_form serial_refuses finds list_bytes serial_bytes was is status =
    ((asked : Asked list_form serial_form list_bytes serial_bytes) × Tells finds (entries asked.list.tbs_cert_list.revoked_certificates) asked.number was is status)
    ⊎ ((e : ErrorKind) × (status ≡ Refused e) × (is ≡ was) × (IsRefused list_form list_refuses list_bytes e ⊎ (((list : CertificateList P) × Spells list_form list list_bytes) × IsRefused serial_form serial_refuses serial_bytes e)))
