-- What a check says of what reading answers.
use Rattle.std.proofs.Common.{◌≡◌, ◌≢◌, eqb, ℕ, ◌+◌, ◌<◌, ◌≤◌, Bool, true, false, List, [], ◌∷◌, length, get_or, Option, Some, None, Result, Ok, Err, if◌then◌else◌, refl, sym, ap, subst, ◌∙◌, inl, inr, arith, length-append}
use Rattle.std.proofs.lemmas.Bool.{cases_Bool, eq-eqb, eqb-true}
use Rattle.x509_check.specs.Checking.{checked, Finds, Passes, other_than, other_value}
use Rattle.x509_der.specs.Element.{element, length_octets}
use Rattle.x509_der.specs.ElementLaws.{piece_at-sound}
use Rattle.x509_der.specs.ElementReading.{Piece, piece_at}
use Rattle.x509_der.specs.Outcome.{◌>>=◌, Answers, IsRefusal}
use Rattle.x509_der.specs.declared.error.Error.{Error}
use Rattle.x509_der.specs.declared.error.ErrorKind.{ErrorKind}
use Rattle.x509_der.specs.declared.error.ErrorKind.TheVariants.{Malformed}
use Rattle.x509_der.specs.declared.error.ErrorKind.TheVariants as errors
use Rattle.x509_der.specs.Frames.{field_at, optional_at, Default, default_at, default_of, IsClearOf}
use Rattle.x509_der.specs.FrameLaws.{optional_none}
use Rattle.x509_der.specs.List.{list_reading, with_front}
use Rattle.x509_der.specs.ListLaws.{first_read, none_read, ends, no_front}
use Rattle.x509_der.specs.Form.{is_in, reading_under}

-- ---- one element

-- where it passes there is a value
pub found : {X : Type 0} (result : Result Unit Error) (reading : Result X ErrorKind) → Answers result (checked reading) → Finds result reading
found (Ok done) (Ok x) h = (x, refl)
found (Ok done) (Err d) h = absurd cc
found (Err e) (Ok x) h = absurd cc
found (Err e) (Err d) h = let k : d ≡ e.kind = cc in rw k refl

-- the content and what follows it are shorter
pub piece_within : (bytes : List ℕ) (piece : Piece) → piece_at bytes ≡ Ok piece → length piece.content + length piece.rest < length bytes
unfolding element
piece_within bytes piece e = omega (arith, ap length (piece_at-sound bytes piece e).0, length-append (element piece.tag piece.content) piece.rest, length-append (length_octets (length piece.content)) piece.content)

-- a content under its own identifier octet
pub under_its_own : {X : Type 0} (wanted tag : ℕ) (read : List ℕ → Result X ErrorKind) (content : List ℕ) → tag ≡ wanted → reading_under wanted read tag content ≡ read content
under_its_own wanted tag read content e = rw (eq-eqb tag wanted e) refl

-- ---- a field

past : {X : Type 0} (result : Result Unit Error) (reading : Result X ErrorKind) (rest : List ℕ) → Answers result (checked reading) → Passes result rest (reading >>= λ value. Ok (value, rest))
past (Ok done) (Ok x) rest h = (x, refl)
past (Ok done) (Err d) rest h = absurd cc
past (Err e) (Ok x) rest h = absurd cc
past (Err e) (Err d) rest h = let k : d ≡ e.kind = cc in rw k refl

pub field_passes : {X : Type 0} (result : Result Unit Error) (read : ℕ → List ℕ → Result X ErrorKind) (bytes : List ℕ) (piece : Piece) → piece_at bytes ≡ Ok piece → Answers result (checked (read piece.tag piece.content)) → Passes result piece.rest (field_at read bytes)
unfolding field_at
field_passes result read bytes piece p h = rw p (past result (read piece.tag piece.content) piece.rest h)

pub field_refused : {X : Type 0} (read : ℕ → List ℕ → Result X ErrorKind) (bytes : List ℕ) (e : ErrorKind) → piece_at bytes ≡ Err e → field_at read bytes ≡ Err e
unfolding field_at
field_refused read bytes e p = rw p refl

pub field_refused_in : {X : Type 0} (read : ℕ → List ℕ → Result X ErrorKind) (bytes : List ℕ) (piece : Piece) (e : ErrorKind) → piece_at bytes ≡ Ok piece → read piece.tag piece.content ≡ Err e → field_at read bytes ≡ Err e
unfolding field_at
field_refused_in read bytes piece e p h = rw (p, h) refl

pub piece_refused : {X : Type 0} (read : ℕ → List ℕ → Result X ErrorKind) (bytes : List ℕ) (e : ErrorKind) → IsRefusal e (piece_at bytes) → e ≡ Malformed → field_at read bytes ≡ Err e
piece_refused read bytes errors.Malformed h same = field_refused read bytes Malformed h
piece_refused read bytes errors.Memory h same = absurd cc
piece_refused read bytes errors.Overlength h same = absurd cc
piece_refused read bytes errors.Failed h same = absurd cc
piece_refused read bytes errors.SetDuplicate h same = absurd cc
piece_refused read bytes errors.Value h same = absurd cc

-- an element under a tag that is told from others
pub own_tag_passes : {X : Type 0} (wanted : ℕ) (read : List ℕ → Result X ErrorKind) (bytes : List ℕ) (piece : Piece) (result : Result Unit Error) → piece_at bytes ≡ Ok piece → piece.tag ≡ wanted → Answers result (checked (read piece.content)) → Passes result piece.rest (field_at (reading_under wanted read) bytes)
own_tag_passes wanted read bytes piece result p is h = field_passes result (reading_under wanted read) bytes piece p (rw (under_its_own wanted piece.tag read piece.content is) h)

other_tag : {X : Type 0} (wanted tag : ℕ) (read : List ℕ → Result X ErrorKind) (content : List ℕ) → tag ≢ wanted → reading_under wanted read tag content ≡ Err Malformed
other_tag wanted tag read content n = elim (cases_Bool (eqb tag wanted)) [ inl same ↦ absurd (n (eqb-true tag wanted same)) | inr other ↦ rw other refl ]

pub other_tag_refused : {X : Type 0} (wanted : ℕ) (read : List ℕ → Result X ErrorKind) (bytes : List ℕ) (piece : Piece) → piece_at bytes ≡ Ok piece → piece.tag ≢ wanted → field_at (reading_under wanted read) bytes ≡ Err Malformed
other_tag_refused wanted read bytes piece p n = field_refused_in (reading_under wanted read) bytes piece Malformed p (other_tag wanted piece.tag read piece.content n)

-- ---- a field that may be absent

pub among_one : (tag wanted : ℕ) → tag ≡ wanted → is_in tag (wanted ∷ []) ≡ true
among_one tag wanted e = rw (eq-eqb tag wanted e) refl

pub not_among_one : (tag wanted : ℕ) → tag ≢ wanted → is_in tag (wanted ∷ []) ≡ false
not_among_one tag wanted n = elim (cases_Bool (eqb tag wanted)) [ inl same ↦ absurd (n (eqb-true tag wanted same)) | inr other ↦ rw other refl ]

module _ {X : Type 0} (starts : List ℕ) (read : ℕ → List ℕ → Result X ErrorKind) where
  optional_passes : (result : Result Unit Error) (rest : List ℕ) (tag : ℕ) (bytes : List ℕ) → is_in tag starts ≡ true → Passes result rest (field_at read (tag ∷ bytes)) → Passes result rest (optional_at starts read (tag ∷ bytes))
  unfolding optional_at
  optional_passes (Ok done) rest tag bytes there h = (Some h.0, rw (there, h.1) refl)
  optional_passes (Err e) rest tag bytes there h = rw (there, h) refl

  pub optional_here : (result : Result Unit Error) (rest bytes : List ℕ) → 1 ≤ length bytes → is_in (get_or bytes 0 0) starts ≡ true → Passes result rest (field_at read bytes) → Passes result rest (optional_at starts read bytes)
  optional_here result rest [] some there h = absurd (omega arith)
  optional_here result rest (tag ∷ bytes) some there h = optional_passes result rest tag bytes there h

  clear_of_other : (bytes : List ℕ) → is_in (get_or bytes 0 0) starts ≡ false → IsClearOf starts bytes
  clear_of_other [] other = tt
  clear_of_other (tag ∷ bytes) other = other

  clear_of_none : (bytes : List ℕ) → length bytes < 1 → IsClearOf starts bytes
  clear_of_none [] none = tt
  clear_of_none (tag ∷ bytes) none = absurd (omega arith)

  absent : (bytes : List ℕ) → IsClearOf starts bytes → (x : Option X) × (optional_at starts read bytes ≡ Ok (x, bytes))
  absent bytes clear = (None, optional_none starts read bytes clear)

  pub optional_other : (bytes : List ℕ) → is_in (get_or bytes 0 0) starts ≡ false → (x : Option X) × (optional_at starts read bytes ≡ Ok (x, bytes))
  optional_other bytes other = absent bytes (clear_of_other bytes other)

  pub optional_none_left : (bytes : List ℕ) → length bytes < 1 → (x : Option X) × (optional_at starts read bytes ≡ Ok (x, bytes))
  optional_none_left bytes none = absent bytes (clear_of_none bytes none)

-- ---- a field with a default

module _ {X : Type 0} (default : Default X) where
  other_past : (result : Result Unit Error) (reading : Result X ErrorKind) (rest : List ℕ) → Answers result (checked (other_value default reading)) → Passes result rest (other_than default (reading >>= λ value. Ok (value, rest)))
  other_past result (Err d) rest h = past result (Err d) rest h
  other_past result (Ok x) rest h = by_test (default.is_default x) result h
    where
      by_test : (test : Bool) (result : Result Unit Error) → Answers result (checked (if test then Err Malformed else Ok x)) → Passes result rest (if test then Err Malformed else Ok (x, rest))
      by_test true (Ok done) h = absurd cc
      by_test true (Err e) h = let k : Malformed ≡ e.kind = cc in rw k refl
      by_test false (Ok done) h = (x, refl)
      by_test false (Err e) h = absurd cc

  pub other_passes : (result : Result Unit Error) (read : ℕ → List ℕ → Result X ErrorKind) (bytes : List ℕ) (piece : Piece) → piece_at bytes ≡ Ok piece → Answers result (checked (other_value default (read piece.tag piece.content))) → Passes result piece.rest (other_than default (field_at read bytes))
  unfolding field_at
  other_passes result read bytes piece p h = rw p (other_past result (read piece.tag piece.content) piece.rest h)

  pub own_tag_other : (wanted : ℕ) (read : List ℕ → Result X ErrorKind) (bytes : List ℕ) (piece : Piece) (result : Result Unit Error) → piece_at bytes ≡ Ok piece → piece.tag ≡ wanted → Answers result (checked (other_value default (read piece.content))) → Passes result piece.rest (other_than default (field_at (reading_under wanted read) bytes))
  own_tag_other wanted read bytes piece result p is h = other_passes result (reading_under wanted read) bytes piece p (rw (under_its_own wanted piece.tag read piece.content is) h)

  pub other_refused : (reading : Result (X × List ℕ) ErrorKind) (e : ErrorKind) → reading ≡ Err e → other_than default reading ≡ Err e
  other_refused reading e h = rw h refl

  over_some : (reading : Result (X × List ℕ) ErrorKind) → ((reading >>= λ found. Ok (Some found.0, found.1)) >>= default_of default) ≡ other_than default reading
  over_some (Ok x) = refl
  over_some (Err e) = refl

  pub default_is_other : (starts : List ℕ) (read : ℕ → List ℕ → Result X ErrorKind) (tag : ℕ) (bytes : List ℕ) → is_in tag starts ≡ true → other_than default (field_at read (tag ∷ bytes)) ≡ default_at default starts read (tag ∷ bytes)
  unfolding default_at optional_at
  default_is_other starts read tag bytes there = rw there (sym (over_some (field_at read (tag ∷ bytes))))

  pub default_here : (starts : List ℕ) (read : ℕ → List ℕ → Result X ErrorKind) (result : Result Unit Error) (rest bytes : List ℕ) → 1 ≤ length bytes → is_in (get_or bytes 0 0) starts ≡ true → Passes result rest (other_than default (field_at read bytes)) → Passes result rest (default_at default starts read bytes)
  default_here starts read result rest [] some there h = absurd (omega arith)
  default_here starts read result rest (tag ∷ bytes) some there h = subst (Passes result rest) (default_is_other starts read tag bytes there) h

  left_out : (starts : List ℕ) (read : ℕ → List ℕ → Result X ErrorKind) (bytes : List ℕ) → IsClearOf starts bytes → (x : X) × (default_at default starts read bytes ≡ Ok (x, bytes))
  unfolding default_at
  left_out starts read bytes clear = (default.default_value, rw (optional_none starts read bytes clear) refl)

  pub default_other : (starts : List ℕ) (read : ℕ → List ℕ → Result X ErrorKind) (bytes : List ℕ) → is_in (get_or bytes 0 0) starts ≡ false → (x : X) × (default_at default starts read bytes ≡ Ok (x, bytes))
  default_other starts read bytes other = left_out starts read bytes (clear_of_other starts read bytes other)

  pub default_none_left : (starts : List ℕ) (read : ℕ → List ℕ → Result X ErrorKind) (bytes : List ℕ) → length bytes < 1 → (x : X) × (default_at default starts read bytes ≡ Ok (x, bytes))
  default_none_left starts read bytes none = left_out starts read bytes (clear_of_none starts read bytes none)

-- ---- members

checked_front : {X : Type 0} (front : List X) (reading : Result (List X) ErrorKind) → checked (with_front front reading) ≡ checked reading
checked_front front (Ok xs) = refl
checked_front front (Err e) = refl

-- a member at the front
pub one_more : {X : Type 0} (read : ℕ → List ℕ → Result X ErrorKind) (bytes rest : List ℕ) (value : X) → field_at read bytes ≡ Ok (value, rest) → checked (list_reading read rest) ≡ checked (list_reading read bytes)
one_more read bytes rest value e = sym (checked_front (value ∷ []) (list_reading read rest)) ∙ ap checked (first_read read bytes rest value e)

-- no member at the front
pub refused_at : {X : Type 0} (read : ℕ → List ℕ → Result X ErrorKind) (bytes : List ℕ) (e : ErrorKind) → field_at read bytes ≡ Err e → 0 < length bytes → checked (list_reading read bytes) ≡ Err e
refused_at read bytes e h some = ap checked (ends read [] bytes e (list_reading read bytes) h some (no_front (list_reading read bytes)))

-- none
pub none_left : {X : Type 0} (read : ℕ → List ℕ → Result X ErrorKind) (bytes : List ℕ) → length bytes ≡ 0 → checked (list_reading read bytes) ≡ Ok tt
none_left read bytes none = ap checked (none_read read bytes none)
