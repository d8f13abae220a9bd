-- The first entry with a serial number, by an index.
use Rattle.std.proofs.Common.{◌<◌, true, false, ◌≡◌, ◌≤◌, ◌∙◌, ◌⊎◌, ℕ, List, [], ◌∷◌, length, drop, Result, Ok, Err, Some, None, refl, sym, ap, subst, inl, inr}
use Rattle.std.proofs.lemmas.Bool.{cases_lt, true≢false}
use Rattle.std.specs.Prelude.{IsOk}
use Rattle.x509_base.specs.Checked.{CheckRefuses}
use Rattle.x509_base.specs.Profiles.{rfc5280_serial_number}
use Rattle.x509_base.specs.declared.profile.Rfc5280.{Rfc5280}
use Rattle.x509_c_calls.proofs.EntryCounts.{entry_form}
use Rattle.x509_c_calls.proofs.FoundEntries.{list_left, octets_are}
use Rattle.x509_c_calls.proofs.Parts.{is_sequence}
use Rattle.x509_c_calls.specs.CrlIndexes.{IsIndexed, IsUnindexed}
use Rattle.x509_c_calls.specs.Cursor.{IsLeft, IsNowhere}
use Rattle.x509_c_calls.specs.FoundEntry.{IsList, entry_octets}
use Rattle.x509_cert.specs.Revoked.{IsFirstWith, with_serial}
use Rattle.x509_cert.specs.RevokedCert.{revoked_cert_lawful}
use Rattle.x509_cert.specs.declared.crl.revoked_cert.RevokedCert.{RevokedCert}
use Rattle.x509_check.proofs.LentLists.{is_list}
use Rattle.x509_check.specs.CrlRefs.{entries_in}
use Rattle.x509_crl_index.proofs.Entries.{as_many_places, first_with, none_with, number_first}
use Rattle.x509_crl_index.specs.Places.{FindsPlace, IsIndex, content_of, front_content, number_at, places_in}
use Rattle.x509_der.specs.ElementLaws.{piece_at-element}
use Rattle.x509_der.specs.ElementReading.{Piece}
use Rattle.x509_der.specs.Element.{limit}
use Rattle.x509_der.specs.Form.{Form, IsForm, Spells, whole_reading}
use Rattle.x509_der.specs.FrameLaws.{field_refused, field_sound}
use Rattle.x509_der.specs.Frames.{field_at}
use Rattle.x509_der.specs.List.{list_reading}
use Rattle.x509_der.specs.ListLaws.{list_lawful}
use Rattle.x509_der.specs.Outcome.{IsRefusal}
use Rattle.x509_der.specs.OutcomeLaws.{not_refused, ok_is}
use Rattle.x509_der.specs.declared.error.ErrorKind.{ErrorKind}
use Rattle.x509_der.specs.declared.error.ErrorKind.TheVariants as errors
use Rattle.x509_types.specs.Reencoding.{IsRefused}

abbrev Entry : Type 0
Entry = RevokedCert Rfc5280

lawful : IsForm (CheckRefuses rfc5280_serial_number) entry_form
lawful = revoked_cert_lawful rfc5280_serial_number

-- where the bytes can't be a list there is no index of one
pub nowhere_indexed : (R : ErrorKind → Type 0) (bytes index : List ℕ) (e : ErrorKind) → IsNowhere 48 bytes 0 e → IsUnindexed R bytes index e
nowhere_indexed R bytes index e (inl over) = inr (inl over)
nowhere_indexed R bytes index e (inr none) = inr (inr (none.0, inl none.1, λ values indexed. none.2 (entry_octets values) (list_left values bytes none.0 indexed.0)))

-- an entry that is read where the number stands has the number
pub number_is : (octets number more : List ℕ) (place : ℕ) (entry : Entry) → number_at octets place ≡ number → field_at entry_form.reading (drop place octets) ≡ Ok (entry, more) → entry.serial_number ≡ number
number_is octets number more place entry has read =
    let s = field_sound entry_form lawful (drop place octets) entry more read in
    let content : front_content (drop place octets) ≡ entry_form.content entry =
    ap front_content s.1 ∙ ap (λ (found : Result Piece ErrorKind). content_of found) (piece_at-element 48 (entry_form.content entry) more is_sequence) in
    sym (number_first Rfc5280 rfc5280_serial_number entry s.0) ∙ sym (ap front_content content) ∙ has

-- the octets of a list are read as its entries
pub are_read : (octets bytes : List ℕ) (values : List Entry) → octets ≡ entry_octets values → IsList values bytes → IsOk (list_reading entry_form.reading octets) × (entries_in {P = Rfc5280} rfc5280_serial_number octets ≡ values)
are_read octets bytes values is spells =
    is_list (list_reading entry_form.reading octets) values
    (ap (list_reading entry_form.reading) is ∙ (list_lawful entry_form lawful).complete values spells.0)

-- they have as many places as entries
pub as_many : (octets bytes : List ℕ) (values : List Entry) → octets ≡ entry_octets values → IsList values bytes → length (places_in octets) ≡ length values
as_many octets bytes values is spells =
    let read = are_read octets bytes values is spells in
    as_many_places Rfc5280 rfc5280_serial_number octets read.0 [] ∙ ap length read.1

module _ (octets bytes : List ℕ) (l : IsLeft 48 bytes 0 octets) (index : List ℕ) (values : List Entry) (indexed : IsIndexed values bytes index) where
  -- the index is that of the octets
  pub index_is : IsIndex octets index
  index_is = subst (λ content. IsIndex content index) (sym (octets_are bytes octets l values indexed.0)) indexed.1

  read : IsOk (list_reading entry_form.reading octets) × (entries_in {P = Rfc5280} rfc5280_serial_number octets ≡ values)
  read = are_read octets bytes values (octets_are bytes octets l values indexed.0) indexed.0

  pub none_indexed : (number : List ℕ) → FindsPlace octets number (places_in octets) None → with_serial number values ≡ []
  none_indexed number none = ap (with_serial number) (sym read.1) ∙ none_with Rfc5280 rfc5280_serial_number octets read.0 number none

  module _ (number : List ℕ) (place : ℕ) (finds : FindsPlace octets number (places_in octets) (Some place)) where
    -- what stands at the place is the first entry with the number
    pub first_indexed : (entry : Entry) (more : List ℕ) → field_at entry_form.reading (drop place octets) ≡ Ok (entry, more) → IsFirstWith number values entry
    first_indexed entry more here =
        let found = first_with Rfc5280 rfc5280_serial_number octets read.0 number place finds in
        let same : found.value ≡ entry = ap (λ (x : Entry × List ℕ). x.0) (ok_is (found.value, found.rest) (entry, more) (sym found.read ∙ here)) in
        (found.others, ap (with_serial number) (sym read.1) ∙ found.first ∙ ap (λ e. e ∷ found.others) same)

    pub some_indexed : (e : ErrorKind) → field_at entry_form.reading (drop place octets) ≡ Err e → ⊥
    some_indexed e refused =
        let found = first_with Rfc5280 rfc5280_serial_number octets read.0 number place finds in
        not_refused (found.value, found.rest) e (sym found.read ∙ refused)

-- why no entry is read: memory; or none stands there
pub unread : (rest : List ℕ) (e : ErrorKind) → IsRefusal e (field_at entry_form.reading rest) → (e ≡ errors.Memory) ⊎ (((e ≡ errors.Malformed) ⊎ CheckRefuses rfc5280_serial_number e) × (field_at entry_form.reading rest ≡ Err e))
unread rest errors.Memory which = inl refl
unread rest errors.Overlength which = inr (field_refused entry_form lawful rest errors.Overlength which, which)
unread rest errors.Malformed which = inr (field_refused entry_form lawful rest errors.Malformed which, which)
unread rest errors.Failed which = inr (field_refused entry_form lawful rest errors.Failed which, which)
unread rest errors.SetDuplicate which = inr (field_refused entry_form lawful rest errors.SetDuplicate which, which)
unread rest errors.Value which = inr (field_refused entry_form lawful rest errors.Value which, which)

-- ---- a list that is refused

is_refusal : {X : Type 0} (reading : Result X ErrorKind) (e : ErrorKind) → reading ≡ Err e → IsRefusal e reading
is_refusal reading errors.Memory is = tt
is_refusal reading errors.Overlength is = is
is_refusal reading errors.Malformed is = is
is_refusal reading errors.Failed is = is
is_refusal reading errors.SetDuplicate is = is
is_refusal reading errors.Value is = is

-- what a check says of bytes that it refuses
pub refused_by : {X : Type 0} (R : ErrorKind → Type 0) (form : Form X) (bytes : List ℕ) (e : ErrorKind) → (limit < length bytes → e ≡ errors.Overlength) → (length bytes ≤ limit → (e ≡ errors.Malformed) ⊎ R e)
    → ((value : X) → Spells form value bytes → false ≡ true) → (length bytes ≤ limit → whole_reading form.reading bytes ≡ Err e) → IsRefused form R bytes e
refused_by R form bytes e long within none which = elim (cases_lt limit (length bytes)) [
  | inl over ↦ inl (over, long over)
  | inr fits ↦ inr (fits, within fits, λ value spells. true≢false (sym (none value spells)), is_refusal (whole_reading form.reading bytes) e (which fits))
]
