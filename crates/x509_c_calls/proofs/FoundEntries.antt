-- The first entry with a serial number, where those in front of it were passed.
use Rattle.std.proofs.Common.{◌≡◌, ◌≤◌, ◌-◌, ◌+◌, ◌∙◌, ◌⊎◌, ℕ, Bool, true, false, ◌==◌, List, [], ◌∷◌, ◌++◌, length, drop, Ok, Err, bytes_eq, refl, sym, ap, inl, inr, arith, append_assoc, length-append}
use Rattle.std.proofs.lemmas.Bool.Decides.{nat_tests}
use Rattle.std.proofs.lemmas.List.{append-nil}
use Rattle.x509_base.specs.Profiles.{rfc5280_serial_number}
use Rattle.x509_base.specs.Time.{time}
use Rattle.x509_base.specs.declared.profile.Rfc5280.{Rfc5280}
use Rattle.x509_c_calls.proofs.CrlFields.{element_length, entry_length}
use Rattle.x509_c_calls.proofs.EntryCounts.{entry_form}
use Rattle.x509_c_calls.proofs.Parts.{is_sequence}
use Rattle.x509_c_calls.proofs.Walks.{content_fits, same_piece, stands}
use Rattle.x509_c_calls.specs.CrlEntries.{extensions_text}
use Rattle.x509_c_calls.specs.Cursor.{IsLeft, IsNowhere}
use Rattle.x509_c_calls.specs.FoundEntry.{IsList, IsNoList, entry_octets}
use Rattle.x509_cert.specs.Revoked.{IsFirstWith, with_serial}
use Rattle.x509_cert.specs.RevokedCert.{revoked_cert, revoked_cert_fields}
use Rattle.x509_cert.specs.declared.crl.revoked_cert.RevokedCert.{RevokedCert}
use Rattle.x509_der.specs.Element.{element, is_identifier, limit}
use Rattle.x509_der.specs.ElementLaws.{piece_at-element, piece_at-sound, piece_at-whole}
use Rattle.x509_der.specs.ElementReading.{Piece, piece_at}
use Rattle.x509_der.specs.Form.{Form, IsForm, spelling}
use Rattle.x509_der.specs.FrameLaws.{field_complete, field_refused, field_sound}
use Rattle.x509_der.specs.Frames.{field_at, fields_octets}
use Rattle.x509_der.specs.List.{all_good, joined}
use Rattle.x509_der.specs.Outcome.{IsRefusal}
use Rattle.x509_der.specs.OutcomeLaws.{not_refused, ok_is}
use Rattle.x509_der.specs.declared.error.ErrorKind.{ErrorKind}
use Rattle.x509_der.specs.declared.error.ErrorKind.TheVariants as errors

abbrev Entry : Type 0
Entry = RevokedCert Rfc5280

-- ---- an entry begins with its serial number

pub number_front : (value : Entry) → entry_form.content value ≡ element 2 value.serial_number ++ (spelling time value.revocation_date ++ extensions_text value)
unfolding fields_octets revoked_cert_fields
number_front value = refl

-- the element at the front is that of the first entry
pub record IsFront (left : List Entry) (piece : Piece) : Type 0 where
  pub first : Entry
  pub more : List Entry
  pub is : left ≡ first ∷ more
  pub content : piece.content ≡ entry_form.content first
  pub rest : piece.rest ≡ entry_octets more

pub front : (left : List Entry) (rest : List ℕ) (piece : Piece) → piece_at rest ≡ Ok piece → rest ≡ entry_octets left → IsFront left piece
unfolding joined
front [] rest piece p is =
    absurd (omega (arith, ap length is, ap length (piece_at-sound rest piece p).0, length-append (element piece.tag piece.content) piece.rest, element_length piece.tag piece.content))
front (value ∷ more) rest piece p is =
    let here : piece_at rest ≡ Ok (record { tag = 48; content = entry_form.content value; rest = entry_octets more }) = ap piece_at is ∙ piece_at-element 48 (entry_form.content value) (entry_octets more) is_sequence in
    let same = ok_is piece _ (sym p ∙ here) in
    record { first = value; more = more; is = refl; content = ap (λ (q : Piece). q.content) same; rest = ap (λ (q : Piece). q.rest) same }

-- where no element stands there is no entry
pub no_front : (left : List Entry) (rest : List ℕ) (e : ErrorKind) → piece_at rest ≡ Err e → rest ≡ entry_octets left → left ≡ []
unfolding joined
no_front [] rest e p is = refl
no_front (value ∷ more) rest e p is = absurd (let k = sym p ∙ ap piece_at is ∙ piece_at-element 48 (entry_form.content value) (entry_octets more) is_sequence in cc)

-- nor where nothing stands
pub none_stands : (left : List Entry) (rest : List ℕ) → length rest ≡ 0 → rest ≡ entry_octets left → left ≡ []
none_stands [] rest none is = refl
none_stands (value ∷ more) rest none is = absurd (omega (arith, none, ap length is, entry_length (value ∷ more)))

-- ---- those with the number

pub with_first : (number : List ℕ) (first : Entry) (more : List Entry) → bytes_eq first.serial_number number ≡ true → with_serial number (first ∷ more) ≡ first ∷ with_serial number more
with_first number first more same = rw same refl

pub without_first : (number : List ℕ) (first : Entry) (more : List Entry) → bytes_eq first.serial_number number ≡ false → with_serial number (first ∷ more) ≡ with_serial number more
without_first number first more other = rw other refl

-- ---- the octets of the list

module _ (bytes octets : List ℕ) (l : IsLeft 48 bytes 0 octets) where
  pub whole_content : l.passed ≡ []
  whole_content = elim l.place [
    | inl begin ↦ begin.1
    | inr place ↦ absurd (omega (arith, place, content_fits bytes (l.passed ++ octets) 48 l.whole, length-append l.passed octets))
  ]

  pub octets_are : (values : List Entry) → IsList values bytes → octets ≡ entry_octets values
  octets_are values spells =
      let content : l.passed ++ octets ≡ entry_octets values = (same_piece 48 bytes octets 0 is_sequence l (record { tag = 48; content = entry_octets values; rest = [] }) (ap piece_at spells.1 ∙ piece_at-whole 48 (entry_octets values) is_sequence)).1 in
      rw whole_content at content

  -- what is left of them from a place on
  pub later : (passed rest : List ℕ) → octets ≡ passed ++ rest → IsLeft 48 bytes (length bytes - length rest) rest
  later passed rest is = record {
    passed = passed;
    whole = l.whole ∙ ap (λ x. element 48 (x ++ octets)) whole_content ∙ ap (element 48) is;
    within = l.within;
    place = inr (omega (arith, content_fits bytes (l.passed ++ octets) 48 l.whole, length-append l.passed octets, ap length is, length-append passed rest));
  }

-- where the bytes are a list, its content is left
pub list_left : (values : List Entry) (bytes : List ℕ) → length bytes ≤ limit → IsList values bytes → IsLeft 48 bytes 0 (entry_octets values)
list_left values bytes within spells = record { passed = []; whole = spells.1; within = within; place = inl (refl, refl) }

pub nowhere : (R : ErrorKind → Type 0) (bytes : List ℕ) (e : ErrorKind) → IsNowhere 48 bytes 0 e → IsNoList R bytes e
nowhere R bytes e (inl over) = inr (inl over)
nowhere R bytes e (inr none) = inr (inr (none.0, inl none.1, λ values spells. none.2 (entry_octets values) (list_left values bytes none.0 spells)))

-- ---- the entry at the front

-- a member of a list is good
pub good_in : (before : List Entry) (first : Entry) (others : List Entry) → all_good entry_form.good (before ++ first ∷ others) → entry_form.good first
unfolding all_good
good_in [] first others good = good.0
good_in (value ∷ before) first others good = good_in before first others good.1

-- what is read there is that entry
pub read_is : {R : ErrorKind → Type 0} (lawful : IsForm R entry_form) (first entry : Entry) (others : List Entry) (rest more : List ℕ) → entry_form.good first → rest ≡ entry_octets (first ∷ others) → field_at entry_form.reading rest ≡ Ok (entry, more) → first ≡ entry
unfolding joined
read_is lawful first entry others rest more good is read =
    ap (λ (x : Entry × List ℕ). x.0) (ok_is (first, entry_octets others) (entry, more) (sym (field_complete entry_form lawful first (entry_octets others) good) ∙ ap (field_at entry_form.reading) (sym is) ∙ read))

no_entry : {R : ErrorKind → Type 0} (lawful : IsForm R entry_form) (rest : List ℕ) (e : ErrorKind) → field_at entry_form.reading rest ≡ Err e
    → ((e ≡ errors.Malformed) ⊎ R e) × ((first : Entry) (others : List Entry) → entry_form.good first → rest ≡ entry_octets (first ∷ others) → ⊥)
unfolding joined
no_entry lawful rest e refused =
    (field_refused entry_form lawful rest e refused, λ first others good is. not_refused (first, entry_octets others) e (sym (field_complete entry_form lawful first (entry_octets others) good) ∙ ap (field_at entry_form.reading) (sym is) ∙ refused))

pub refused_entry : {R : ErrorKind → Type 0} (lawful : IsForm R entry_form) (rest : List ℕ) (e : ErrorKind) → IsRefusal e (field_at entry_form.reading rest)
    → (e ≡ errors.Memory) ⊎ (((e ≡ errors.Malformed) ⊎ R e) × ((first : Entry) (others : List Entry) → entry_form.good first → rest ≡ entry_octets (first ∷ others) → ⊥))
refused_entry lawful rest errors.Memory which = inl refl
refused_entry lawful rest errors.Overlength which = inr (no_entry lawful rest errors.Overlength which)
refused_entry lawful rest errors.Malformed which = inr (no_entry lawful rest errors.Malformed which)
refused_entry lawful rest errors.Failed which = inr (no_entry lawful rest errors.Failed which)
refused_entry lawful rest errors.SetDuplicate which = inr (no_entry lawful rest errors.SetDuplicate which)
refused_entry lawful rest errors.Value which = inr (no_entry lawful rest errors.Value which)

-- ---- the element at the front

pub content_front : (tag : ℕ) (content more bytes : List ℕ) (piece : Piece) → is_identifier tag ≡ true → bytes ≡ element tag content ++ more → piece_at bytes ≡ Ok piece → piece.content ≡ content
content_front tag content more bytes piece id e p = ap (λ (q : Piece). q.content) (ok_is piece _ (sym p ∙ ap piece_at e ∙ piece_at-element tag content more id))

pub no_content_front : (tag : ℕ) (content more bytes : List ℕ) (e : ErrorKind) → is_identifier tag ≡ true → bytes ≡ element tag content ++ more → piece_at bytes ≡ Err e → ⊥
no_content_front tag content more bytes e id is p = not_refused (record { tag = tag; content = content; rest = more }) e (sym (ap piece_at is ∙ piece_at-element tag content more id) ∙ p)

-- ---- one entry further

module _ (number : List ℕ) (values before left more : List Entry) (first : Entry) (is : left ≡ first ∷ more) (split : values ≡ before ++ left) (same : with_serial number values ≡ with_serial number left) where
  pub found_here : (rest : List ℕ) → rest ≡ entry_octets left → bytes_eq first.serial_number number ≡ true
      → (front : List Entry) × (entry : Entry) × (others : List Entry) × (values ≡ front ++ entry ∷ others) × IsFirstWith number values entry × (rest ≡ entry_octets (entry ∷ others))
  found_here rest stands has =
      (before, first, more, split ∙ ap (λ x. before ++ x) is, (with_serial number more, same ∙ ap (with_serial number) is ∙ with_first number first more has), stands ∙ ap entry_octets is)

  pub passed_on : (rest : List ℕ) → rest ≡ entry_octets more → bytes_eq first.serial_number number ≡ false
      → (front : List Entry) × (others : List Entry) × (values ≡ front ++ others) × (rest ≡ entry_octets others) × (with_serial number values ≡ with_serial number others)
  passed_on rest stands other =
      (before ++ first ∷ [], more, split ∙ ap (λ x. before ++ x) is ∙ sym (append_assoc before (first ∷ []) more), stands, same ∙ ap (with_serial number) is ∙ without_first number first more other)

pub none_with : (number : List ℕ) (values left : List Entry) → left ≡ [] → with_serial number values ≡ with_serial number left → with_serial number values ≡ []
none_with number values left none same = same ∙ ap (with_serial number) none

-- the octets that were passed, and an element
pub passed_element : (octets passed rest : List ℕ) (piece : Piece) → piece_at rest ≡ Ok piece → octets ≡ passed ++ rest → (more : List ℕ) × (octets ≡ more ++ piece.rest)
passed_element octets passed rest piece p is =
    (passed ++ element piece.tag piece.content, is ∙ ap (λ x. passed ++ x) (piece_at-sound rest piece p).0 ∙ sym (append_assoc passed (element piece.tag piece.content) piece.rest))

-- an element stands where something does
pub some_front : (left : List Entry) (rest : List ℕ) (e : ErrorKind) → (length rest ≡ 0 → ⊥) → piece_at rest ≡ Err e → rest ≡ entry_octets left → ⊥
unfolding joined
some_front left rest e some refused stands = let none = no_front left rest e refused stands in some (ap length (stands ∙ ap entry_octets none))
