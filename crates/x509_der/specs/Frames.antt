-- What stands in an element of elements: tags around and in place of a type's own, the fields of a sequence.
use Rattle.std.specs.Prelude.{◌≡◌, ℕ, ◌+◌, ◌%◌, Bool, true, false, ◌&&◌, not, nat_lt, ◌⊎◌, List, [], ◌∷◌, ◌++◌, Option, Some, None, Result, Ok, Err, if◌then◌else◌, IfSome}
use Rattle.x509_der.specs.declared.error.ErrorKind.{ErrorKind}
use Rattle.x509_der.specs.declared.error.ErrorKind.TheVariants.{Malformed}
use Rattle.x509_der.specs.Outcome.{◌>>=◌}
use Rattle.x509_der.specs.ElementReading.{piece_at}
use Rattle.x509_der.specs.Form.{is_in, is_empty, Form, spelling, Contents, contents_of, one_tag, under, whole_reading}

-- ---- tags of the context-specific class

-- {n}: the element of the value is the content of an element with the identifier octet A0 + n (X.690 8.14.2)
abbrev pub explicit_contents : {X : Type 0} → Form X → Contents X
explicit_contents form = record { octets = spelling form; good = form.good; reading = whole_reading form.reading }

abbrev pub explicit : {X : Type 0} → ℕ → Form X → Form X
explicit n form = under (160 + n) (explicit_contents form)

-- the identifier octet under [n] of a type whose own is tag: 80 + n, or A0 + n where the content is elements
abbrev pub implicit_tag : ℕ → ℕ → ℕ
implicit_tag n tag = if nat_lt (tag % 64) 32 then 128 + n else 160 + n

-- [n]: the content of the value under this identifier octet, of a form with one of its own (X.690 8.14.3)
abbrev pub implicit : {X : Type 0} → ℕ → Form X → Form X
implicit n form = under (implicit_tag n (one_tag form)) (contents_of (one_tag form) form)

-- ---- parts of a sequence

-- A part of a sequence's content: no octets, or elements. text is its octets, good says which values have them, and
-- starts are the identifier octets that they may begin with; avoids are those that what follows may not begin with.
-- reading is what a reader answers, and what is left then: a tool, tied to the rest by the law IsPart.
pub record Part (X : Type 0) : Type 1 where
  pub text : X → List ℕ
  pub good : X → Type 0
  pub starts : List ℕ
  pub avoids : List ℕ
  pub reading : List ℕ → Result (X × List ℕ) ErrorKind

-- the bytes are none, or begin with one of the identifier octets
pub data BeginsIn (starts : List ℕ) : List ℕ → Type 0 where
  nothing : BeginsIn starts []
  begins : (tag : ℕ) (bytes : List ℕ) → is_in tag starts ≡ true → BeginsIn starts (tag ∷ bytes)

-- the bytes begin with none of them
abbrev pub IsClearOf : List ℕ → List ℕ → Type 0
IsClearOf avoids [] = Unit {0}
IsClearOf avoids (tag ∷ bytes) = is_in tag avoids ≡ false

-- two lists of identifier octets have none in common
abbrev pub are_apart : List ℕ → List ℕ → Bool
are_apart [] ts = true
are_apart (s ∷ ss) ts = not (is_in s ts) && are_apart ss ts

pub record IsPart {X : Type 0} (R : ErrorKind → Type 0) (part : Part X) : Type 0 where
  pub sound : (bytes : List ℕ) (value : X) (rest : List ℕ) → part.reading bytes ≡ Ok (value, rest) → part.good value × (bytes ≡ part.text value ++ rest)
  pub complete : (value : X) (rest : List ℕ) → part.good value → IsClearOf part.avoids rest → part.reading (part.text value ++ rest) ≡ Ok (value, rest)
  pub refused : (bytes : List ℕ) (e : ErrorKind) → part.reading bytes ≡ Err e → (e ≡ Malformed) ⊎ R e
  pub front : (value : X) → part.good value → BeginsIn part.starts (part.text value)

-- the element at the front as a value, and what follows it
unfoldable pub field_at : {X : Type 0} → (ℕ → List ℕ → Result X ErrorKind) → List ℕ → Result (X × List ℕ) ErrorKind
field_at read bytes = piece_at bytes >>= λ piece. read piece.tag piece.content >>= λ value. Ok (value, piece.rest)

-- x: the element of the value (X.690 8.9.2)
abbrev pub required : {X : Type 0} → Form X → Part X
required form = record { text = spelling form; good = form.good; starts = form.starts; avoids = []; reading = field_at form.reading }

abbrev pub optional_octets : {X : Type 0} → (X → List ℕ) → Option X → List ℕ
optional_octets text None = []
optional_octets text (Some value) = text value

unfoldable pub optional_at : {X : Type 0} → List ℕ → (ℕ → List ℕ → Result X ErrorKind) → List ℕ → Result (Option X × List ℕ) ErrorKind
optional_at starts read [] = Ok (None, [])
optional_at starts read (tag ∷ bytes) = if is_in tag starts then (field_at read (tag ∷ bytes) >>= λ found. Ok (Some found.0, found.1)) else Ok (None, tag ∷ bytes)

-- x?: nothing, or the element of the value (X.690 8.9.3)
abbrev pub optional : {X : Type 0} → Form X → Part (Option X)
optional form = record { text = optional_octets (spelling form); good = λ value. IfSome value form.good; starts = form.starts; avoids = form.starts; reading = optional_at form.starts form.reading }

-- the value that a field has where it is left out
pub record Default (X : Type 0) : Type 0 where
  pub default_value : X
  pub is_default : X → Bool

pub record IsDefault {X : Type 0} (default : Default X) : Type 0 where
  pub same : default.is_default default.default_value ≡ true
  pub only : (value : X) → default.is_default value ≡ true → value ≡ default.default_value

unfoldable pub default_octets : {X : Type 0} → Default X → (X → List ℕ) → X → List ℕ
default_octets default text value = if default.is_default value then [] else text value

abbrev pub default_of : {X : Type 0} → Default X → Option X × List ℕ → Result (X × List ℕ) ErrorKind
default_of default (None, rest) = Ok (default.default_value, rest)
default_of default (Some value, rest) = if default.is_default value then Err Malformed else Ok (value, rest)

unfoldable pub default_at : {X : Type 0} → Default X → List ℕ → (ℕ → List ℕ → Result X ErrorKind) → List ℕ → Result (X × List ℕ) ErrorKind
default_at default starts read bytes = optional_at starts read bytes >>= default_of default

-- x=d: nothing exactly where the value is d, and else its element (X.690 11.5)
abbrev pub defaulted : {X : Type 0} → Default X → Form X → Part X
defaulted default form = record {
  text = default_octets default (spelling form);
  good = λ value. (default.is_default value ≡ true) ⊎ form.good value;
  starts = form.starts;
  avoids = form.starts;
  reading = default_at default form.starts form.reading;
}

-- one part and another behind it
infixr 9 ◌⊗◌
abbrev pub ◌⊗◌ : {X Y : Type 0} → Part X → Part Y → Part (X × Y)
p ⊗ q = record {
  text = λ value. p.text value.0 ++ q.text value.1;
  good = λ value. p.good value.0 × q.good value.1;
  starts = p.starts ++ q.starts;
  avoids = p.avoids ++ q.avoids;
  reading = λ bytes. p.reading bytes >>= λ x. q.reading x.1 >>= λ y. Ok ((x.0, y.0), y.1);
}

-- ---- the fields of a sequence

-- no bytes are left
abbrev pub end_at : List ℕ → Result Unit ErrorKind
end_at rest = if is_empty rest then Ok tt else Err Malformed

-- The parts are the fields of a value: to takes it apart, and from makes it of them.
unfoldable pub fields_octets : {X Y : Type 0} → (Y → X) → Part X → Y → List ℕ
fields_octets to part value = part.text (to value)

unfoldable pub fields_good : {X Y : Type 0} → (Y → X) → Part X → Y → Type 0
fields_good to part value = part.good (to value)

unfoldable pub fields_reading : {X Y : Type 0} → (X → Y) → Part X → List ℕ → Result Y ErrorKind
fields_reading from part bytes = part.reading bytes >>= λ x. end_at x.1 >>= λ done. Ok (from x.0)

-- SEQUENCE: the fields, one after the other (X.690 8.9)
abbrev pub fields : {X Y : Type 0} → (Y → X) → (X → Y) → Part X → Contents Y
fields to from part = record { octets = fields_octets to part; good = fields_good to part; reading = fields_reading from part }
