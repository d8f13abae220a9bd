-- The index of a list of entries, and the first entry with a serial number by one (RFC 5280 5.1.2.6, 5.3).
use Rattle.std.specs.Prelude.{◌≡◌, ◌<◌, ◌≤◌, ◌⊎◌, ℕ, List, [], length, take}
use Rattle.x509_base.specs.Profiles.{rfc5280_serial_number}
use Rattle.x509_base.specs.declared.profile.Rfc5280.{Rfc5280}
use Rattle.x509_c_calls.specs.CrlEntries.{IsEntry}
use Rattle.x509_c_calls.specs.FoundEntry.{IsList, entry_octets}
use Rattle.x509_c_calls.specs.declared.crl.entry.CrlEntryView.{CrlEntryView}
use Rattle.x509_c_calls.specs.declared.status.status.Status.{Status}
use Rattle.x509_c_calls.specs.declared.status.status.Status.TheVariants.{Done, NoRoom, Absent, Repeated, Faulty, Limit, Refused}
use Rattle.x509_cert.specs.Revoked.{IsFirstWith, with_serial}
use Rattle.x509_cert.specs.declared.crl.revoked_cert.RevokedCert.{RevokedCert}
use Rattle.x509_check.specs.CrlRefs.{entry_list}
use Rattle.x509_crl_index.specs.Places.{IsIndex}
use Rattle.x509_der.specs.Element.{limit}
use Rattle.x509_der.specs.Form.{Form, Spells}
use Rattle.x509_der.specs.declared.error.ErrorKind.{ErrorKind}
use Rattle.x509_der.specs.declared.error.ErrorKind.TheVariants.{Memory, Overlength, Malformed}
use Rattle.x509_types.specs.Reencoding.{IsRefused}

-- the bytes are a list of these entries, and the index is that of their octets
abbrev pub IsIndexed : List (RevokedCert Rfc5280) → List ℕ → List ℕ → Type 0
IsIndexed values bytes index = IsList values bytes × IsIndex (entry_octets values) index

-- What a call leaves that makes an index, by a buffer before and after it, and by a number before and after it. Done: the buffer begins with the index of the
-- list that the bytes are, and the number is how many entries it has. NoRoom: the list has more entries than the buffer has room for, and the number is how
-- many. Refused: the bytes are no list. The buffer is as it was but on Done.
unfoldable pub Indexes : (ErrorKind → Type 0) → List ℕ → List ℕ → List ℕ → ℕ → ℕ → Status → Type 0
Indexes refuses bytes room filled was written Done =
    (values : List (RevokedCert Rfc5280)) × IsIndexed values bytes (take written filled) × (written ≡ length values) × (written ≤ length filled)
Indexes refuses bytes room filled was written NoRoom =
    (values : List (RevokedCert Rfc5280)) × IsList values bytes × (written ≡ length values) × (length room < written) × (filled ≡ room)
Indexes refuses bytes room filled was written (Refused e) =
    IsRefused (entry_list {P = Rfc5280} rfc5280_serial_number) refuses bytes e × (written ≡ was) × (filled ≡ room)
Indexes refuses bytes room filled was written Absent = ⊥
Indexes refuses bytes room filled was written Repeated = ⊥
Indexes refuses bytes room filled was written Faulty = ⊥
Indexes refuses bytes room filled was written Limit = ⊥

-- why a look-up is refused: memory; the bytes are too long; or they are no list with that index, as Malformed or as an entry's own refusal
abbrev pub IsUnindexed : (ErrorKind → Type 0) → List ℕ → List ℕ → ErrorKind → Type 0
IsUnindexed refuses bytes index e =
    (e ≡ Memory)
    ⊎ (((limit < length bytes) × (e ≡ Overlength))
    ⊎ ((length bytes ≤ limit) × ((e ≡ Malformed) ⊎ refuses e) × ((values : List (RevokedCert Rfc5280)) → IsIndexed values bytes index → ⊥)))

-- What a call leaves that asks bytes by an index for the first entry with a number, neither of which is checked. Done: an entry with that number stands there,
-- whatever the index is, and of a list with its index it is the first. Absent: of such a list none has it. A refusal is never that of such a list, apart from
-- memory. What isn't filled in stays as it was.
unfoldable pub FindsByIndex : (ErrorKind → Type 0) → List ℕ → List ℕ → List ℕ → CrlEntryView → CrlEntryView → Status → Type 0
FindsByIndex refuses number bytes index was is Done =
    (entry : RevokedCert Rfc5280) × (behind : List ℕ) × IsEntry bytes entry behind is × (entry.serial_number ≡ number)
    × ((values : List (RevokedCert Rfc5280)) → IsIndexed values bytes index → IsFirstWith number values entry)
FindsByIndex refuses number bytes index was is Absent =
    ((values : List (RevokedCert Rfc5280)) → IsIndexed values bytes index → with_serial number values ≡ []) × (is ≡ was)
FindsByIndex refuses number bytes index was is (Refused e) = IsUnindexed refuses bytes index e × (is ≡ was)
FindsByIndex refuses number bytes index was is NoRoom = ⊥
FindsByIndex refuses number bytes index was is Repeated = ⊥
FindsByIndex refuses number bytes index was is Faulty = ⊥
FindsByIndex refuses number bytes index was is Limit = ⊥

-- the same, where the number is that which bytes spell; or these are refused
unfoldable pub LooksUpByIndex : Form (List ℕ) → (ErrorKind → Type 0) → (ErrorKind → Type 0) → List ℕ → List ℕ → List ℕ → CrlEntryView → CrlEntryView → Status → Type 0
LooksUpByIndex serial_form serial_refuses refuses bytes index serial_bytes was is status =
    ((number : List ℕ) × Spells serial_form number serial_bytes × FindsByIndex refuses number bytes index was is status)
    ⊎ ((e : ErrorKind) × (status ≡ Refused e) × (is ≡ was) × IsRefused serial_form serial_refuses serial_bytes e)
