-- The first entry of a list of them with a serial number, by its place (RFC 5280 5.3). The list isn't checked: what is said holds of bytes that spell one.
use Rattle.std.specs.Prelude.{◌≡◌, ◌<◌, ◌≤◌, ◌⊎◌, ℕ, List, [], length}
use Rattle.x509_base.specs.Profiles.{rfc5280_serial_number}
use Rattle.x509_base.specs.declared.profile.Rfc5280.{Rfc5280}
use Rattle.x509_c_calls.specs.CrlEntries.{IsEntry}
use Rattle.x509_c_calls.specs.declared.crl.entry.CrlEntryView.{CrlEntryView}
use Rattle.x509_c_calls.specs.declared.status.status.Status.{Status}
use Rattle.x509_c_calls.specs.declared.status.status.Status.TheVariants.{Done, NoRoom, Absent, Repeated, Faulty, Limit, Refused}
use Rattle.x509_cert.specs.Revoked.{IsFirstWith, with_serial}
use Rattle.x509_cert.specs.RevokedCert.{revoked_cert}
use Rattle.x509_cert.specs.declared.crl.revoked_cert.RevokedCert.{RevokedCert}
use Rattle.x509_check.specs.CrlRefs.{entry_list}
use Rattle.x509_der.specs.Element.{limit}
use Rattle.x509_der.specs.Form.{Form, Spells, spelling}
use Rattle.x509_der.specs.List.{joined}
use Rattle.x509_der.specs.declared.error.ErrorKind.{ErrorKind}
use Rattle.x509_der.specs.declared.error.ErrorKind.TheVariants.{Memory, Overlength, Malformed}
use Rattle.x509_types.specs.Reencoding.{IsRefused}

-- the elements of entries, one after the other
abbrev pub entry_octets : List (RevokedCert Rfc5280) → List ℕ
entry_octets values = joined (spelling (revoked_cert rfc5280_serial_number)) values

-- the bytes are a list of these entries
abbrev pub IsList : List (RevokedCert Rfc5280) → List ℕ → Type 0
IsList values bytes = Spells (entry_list {P = Rfc5280} rfc5280_serial_number) values bytes

-- why bytes are refused: memory; they are too long; or they are no list, as Malformed or as an entry's own refusal
abbrev pub IsNoList : (ErrorKind → Type 0) → List ℕ → ErrorKind → Type 0
IsNoList refuses bytes e =
    (e ≡ Memory)
    ⊎ (((limit < length bytes) × (e ≡ Overlength))
    ⊎ ((length bytes ≤ limit) × ((e ≡ Malformed) ⊎ refuses e) × ((values : List (RevokedCert Rfc5280)) → IsList values bytes → ⊥)))

-- What a call leaves that asks bytes for the first entry with a number. Done: an entry stands there, and of a list it is the first with the number. Absent: of
-- a list none has it. A refusal is never that of a list, apart from memory. What isn't filled in stays as it was.
unfoldable pub FindsEntry : (ErrorKind → Type 0) → List ℕ → List ℕ → CrlEntryView → CrlEntryView → Status → Type 0
FindsEntry refuses number bytes was is Done =
    (entry : RevokedCert Rfc5280) × (behind : List ℕ) × IsEntry bytes entry behind is × ((values : List (RevokedCert Rfc5280)) → IsList values bytes → IsFirstWith number values entry)
FindsEntry refuses number bytes was is Absent = ((values : List (RevokedCert Rfc5280)) → IsList values bytes → with_serial number values ≡ []) × (is ≡ was)
FindsEntry refuses number bytes was is (Refused e) = IsNoList refuses bytes e × (is ≡ was)
FindsEntry refuses number bytes was is NoRoom = ⊥
FindsEntry refuses number bytes was is Repeated = ⊥
FindsEntry refuses number bytes was is Faulty = ⊥
FindsEntry refuses number bytes was is Limit = ⊥

-- the same, where the number is that which bytes spell; or these are refused
unfoldable pub LooksUpEntry : Form (List ℕ) → (ErrorKind → Type 0) → (ErrorKind → Type 0) → List ℕ → List ℕ → CrlEntryView → CrlEntryView → Status → Type 0
LooksUpEntry serial_form serial_refuses refuses bytes serial_bytes was is status =
    ((number : List ℕ) × Spells serial_form number serial_bytes × FindsEntry refuses number bytes was is status)
    ⊎ ((e : ErrorKind) × (status ≡ Refused e) × (is ≡ was) × IsRefused serial_form serial_refuses serial_bytes e)
