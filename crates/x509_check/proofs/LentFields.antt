-- Fields that are checked and lent as their elements.
use Rattle.std.proofs.Common.{◌≡◌, ℕ, ◌+◌, ◌-◌, ◌<◌, ◌≤◌, true, false, List, [], ◌∷◌, ◌++◌, length, take, get_or, Option, Some, None, if◌then◌else◌, Result, Ok, Err, refl, sym, ◌∙◌, inl, inr, arith, length-append}
use Rattle.std.proofs.lemmas.Bool.{cases_Bool, lt-ltb}
use Rattle.std.proofs.lemmas.List.{take_at}
use Rattle.x509_check.proofs.Checks.{default_is_other, under_its_own}
use Rattle.x509_check.specs.Checking.{checked, other_than, other_value}
use Rattle.x509_der.specs.ElementReading.{Piece, piece_at}
use Rattle.x509_der.specs.Form.{Form, HasTag, IsForm, is_in, one_tag, reading_under, spelling, whole_reading}
use Rattle.x509_der.specs.FormLaws.{whole_sound}
use Rattle.x509_der.specs.Frames.{Default, IsDefault, default_at, explicit, field_at, implicit, optional_at}
use Rattle.x509_der.specs.FrameLaws.{field_sound, implicit_lawful}
use Rattle.x509_der.specs.Outcome.{◌>>=◌}
use Rattle.x509_der.specs.declared.error.ErrorKind.{ErrorKind}
use Rattle.x509_der.specs.declared.error.ErrorKind.TheVariants.{Malformed}

module _ {X : Type 0} {R : ErrorKind → Type 0} (f : Form X) (h : IsForm R f) where
  -- what stands in front of what follows a field is its element
  pub front_is : (bytes rest : List ℕ) (value : X) → field_at f.reading bytes ≡ Ok (value, rest) → take (length bytes - length rest) bytes ≡ spelling f value
  front_is bytes rest value e =
      let is : bytes ≡ spelling f value ++ rest = (field_sound f h bytes value rest e).1 in
      rw is (take_at (spelling f value) rest (length (spelling f value ++ rest) - length rest) (omega (arith, length-append (spelling f value) rest)))

  -- the element inside an explicit tag
  pub inside : (n : ℕ) (bytes : List ℕ) (piece : Piece) (value : X) → piece_at bytes ≡ Ok piece → piece.tag ≡ 160 + n → whole_reading f.reading piece.content ≡ Ok value
      → (field_at (explicit n f).reading bytes ≡ Ok (value, piece.rest)) × (piece.content ≡ spelling f value)
  unfolding field_at
  inside n bytes piece value p is e = (rw (p, under_its_own (160 + n) piece.tag (whole_reading f.reading) piece.content is, e) refl, (whole_sound f h piece.content value e).1)

-- a field under its own tag
pub own_field : {X : Type 0} (wanted : ℕ) (read : List ℕ → Result X ErrorKind) (bytes : List ℕ) (piece : Piece) (value : X) → piece_at bytes ≡ Ok piece → piece.tag ≡ wanted → read piece.content ≡ Ok value → field_at (reading_under wanted read) bytes ≡ Ok (value, piece.rest)
unfolding field_at
own_field wanted read bytes piece value p is e = rw (p, under_its_own wanted piece.tag read piece.content is, e) refl

-- the element of a field under an implicit tag
pub front_of_implicit : {X : Type 0} {R : ErrorKind → Type 0} (f : Form X) (h : IsForm R f) (n : ℕ) → n < 31 → (tag : ℕ) → HasTag tag f → one_tag f ≡ tag → (bytes rest : List ℕ) (value : X)
    → field_at (implicit n f).reading bytes ≡ Ok (value, rest) → take (length bytes - length rest) bytes ≡ spelling (implicit n f) value
front_of_implicit f h n low tag fixed starts_so bytes rest value e =
    front_is (implicit n f) (implicit_lawful n f (lt-ltb n 31 low) (λ v. fixed v ∙ sym starts_so) h) bytes rest value e

-- ---- a field that may be absent

module _ {X : Type 0} (starts : List ℕ) (read : ℕ → List ℕ → Result X ErrorKind) where
  pub optional_is : (bytes rest : List ℕ) (value : X) → 1 ≤ length bytes → is_in (get_or bytes 0 0) starts ≡ true → field_at read bytes ≡ Ok (value, rest) → optional_at starts read bytes ≡ Ok (Some value, rest)
  unfolding optional_at
  optional_is [] rest value some there e = absurd (omega arith)
  optional_is (tag ∷ bytes) rest value some there e = rw (there, e) refl

  pub optional_refused : (bytes : List ℕ) (e : ErrorKind) → 1 ≤ length bytes → is_in (get_or bytes 0 0) starts ≡ true → field_at read bytes ≡ Err e → optional_at starts read bytes ≡ Err e
  unfolding optional_at
  optional_refused [] e some there h = absurd (omega arith)
  optional_refused (tag ∷ bytes) e some there h = rw (there, h) refl

  pub optional_left_out : (bytes : List ℕ) → is_in (get_or bytes 0 0) starts ≡ false → optional_at starts read bytes ≡ Ok (None, bytes)
  unfolding optional_at
  optional_left_out [] other = refl
  optional_left_out (tag ∷ bytes) other = rw other refl

  pub optional_at_end : (bytes : List ℕ) → length bytes < 1 → optional_at starts read bytes ≡ Ok (None, bytes)
  unfolding optional_at
  optional_at_end [] few = refl
  optional_at_end (tag ∷ bytes) few = absurd (omega arith)

-- ---- a field with a default

module _ {X : Type 0} (d : Default X) where
  other_found : (reading : Result X ErrorKind) → checked (other_value d reading) ≡ Ok tt → (value : X) × (reading ≡ Ok value) × (d.is_default value ≡ false)
  other_found (Err e) h = absurd cc
  other_found (Ok x) h = elim (cases_Bool (d.is_default x)) [ inl is ↦ absurd (let k = rw is at h in cc) | inr other ↦ (x, refl, other) ]

  -- the element inside an explicit tag, of a value that isn't the default
  pub other_inside : {R : ErrorKind → Type 0} (f : Form X) (h : IsForm R f) (n : ℕ) (bytes : List ℕ) (piece : Piece) → piece_at bytes ≡ Ok piece → piece.tag ≡ 160 + n
      → checked (other_value d (whole_reading f.reading piece.content)) ≡ Ok tt
      → (value : X) × (other_than d (field_at (explicit n f).reading bytes) ≡ Ok (value, piece.rest)) × ((piece.content ≡ spelling f value) × (d.is_default value ≡ false))
  other_inside f h n bytes piece p is e =
      let v = other_found (whole_reading f.reading piece.content) e in
      let k = inside f h n bytes piece v.0 p is v.1 in
      (v.0, rw (k.0, v.2) refl, (k.1, v.2))

  other_not_found : (reading : Result X ErrorKind) (e : ErrorKind) → checked (other_value d reading) ≡ Err e → other_value d reading ≡ Err e
  other_not_found (Err c) e h = let k : c ≡ e = cc in rw k refl
  other_not_found (Ok x) e h = elim (cases_Bool (d.is_default x)) [ inl is ↦ (let j = rw is at h in let k : Malformed ≡ e = cc in rw (is, k) refl) | inr other ↦ absurd (let k = rw other at h in cc) ]

  past : (reading : Result X ErrorKind) (rest : List ℕ) (e : ErrorKind) → other_value d reading ≡ Err e → other_than d (reading >>= λ value. Ok (value, rest)) ≡ Err e
  past (Err c) rest e h = let k : c ≡ e = cc in rw k refl
  past (Ok x) rest e h = elim (cases_Bool (d.is_default x)) [ inl is ↦ (let j = rw is at h in let k : Malformed ≡ e = cc in rw (is, k) refl) | inr other ↦ absurd (let k = rw other at h in cc) ]

  pub other_inside_refused : (n : ℕ) (read : ℕ → List ℕ → Result X ErrorKind) (bytes : List ℕ) (piece : Piece) (e : ErrorKind) → piece_at bytes ≡ Ok piece → piece.tag ≡ 160 + n
      → checked (other_value d (whole_reading read piece.content)) ≡ Err e → other_than d (field_at (reading_under (160 + n) (whole_reading read)) bytes) ≡ Err e
  unfolding field_at
  other_inside_refused n read bytes piece e p is h =
      rw (p, under_its_own (160 + n) piece.tag (whole_reading read) piece.content is) (past (whole_reading read piece.content) piece.rest e (other_not_found (whole_reading read piece.content) e h))

  abbrev text : Form X → X → Option (List ℕ)
  text f value = if d.is_default value then None else Some (spelling f value)

  pub other_is : (f : Form X) (starts : List ℕ) (read : ℕ → List ℕ → Result X ErrorKind) (bytes rest lent : List ℕ) (value : X) → 1 ≤ length bytes → is_in (get_or bytes 0 0) starts ≡ true
      → other_than d (field_at read bytes) ≡ Ok (value, rest) → (lent ≡ spelling f value) × (d.is_default value ≡ false)
      → (default_at d starts read bytes ≡ Ok (value, rest)) × (Some lent ≡ text f value)
  other_is f starts read [] rest lent value some there e is = absurd (omega arith)
  other_is f starts read (tag ∷ bytes) rest lent value some there e is = (sym (default_is_other d starts read tag bytes there) ∙ e, rw (is.1, is.0) refl)

  pub other_refused_at : (starts : List ℕ) (read : ℕ → List ℕ → Result X ErrorKind) (bytes : List ℕ) (e : ErrorKind) → 1 ≤ length bytes → is_in (get_or bytes 0 0) starts ≡ true
      → other_than d (field_at read bytes) ≡ Err e → default_at d starts read bytes ≡ Err e
  other_refused_at starts read [] e some there h = absurd (omega arith)
  other_refused_at starts read (tag ∷ bytes) e some there h = sym (default_is_other d starts read tag bytes there) ∙ h

  -- where it is left out, it is the default
  pub default_left_out : IsDefault d → (f : Form X) (starts : List ℕ) (read : ℕ → List ℕ → Result X ErrorKind) (bytes : List ℕ) → optional_at starts read bytes ≡ Ok (None, bytes)
      → (value : X) × (default_at d starts read bytes ≡ Ok (value, bytes)) × (None ≡ text f value)
  unfolding default_at
  default_left_out k f starts read bytes e = (d.default_value, rw e refl, rw k.same refl)
