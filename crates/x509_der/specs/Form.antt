-- What the one element of a type's values is. A type's grammar is one record, its form.
use Rattle.std.specs.Prelude.{◌≡◌, ℕ, ◌≤◌, Bool, true, false, ◌||◌, nat_eq, ◌⊎◌, List, [], ◌∷◌, length, Result, Ok, Err, if◌then◌else◌}
use Rattle.x509_der.specs.declared.error.ErrorKind.{ErrorKind}
use Rattle.x509_der.specs.declared.error.ErrorKind.TheVariants.{Malformed}
use Rattle.x509_der.specs.Outcome.{◌>>=◌}
use Rattle.x509_der.specs.declared.tag.Tag.{Tag}
use Rattle.x509_der.specs.Element.{element, is_identifier, limit}
use Rattle.x509_der.specs.ElementReading.{Piece, piece_at}
use Rattle.x509_der.specs.Tag.{octet_of}

-- ---- the element of a value

-- one of a list of identifier octets
abbrev pub is_in : ℕ → List ℕ → Bool
is_in tag [] = false
is_in tag (t ∷ ts) = nat_eq tag t || is_in tag ts

-- A form. tag is the identifier octet of a value and content its content octets. good says which values have a
-- spelling, and starts are the identifier octets of those. reading is what a reader answers on an identifier octet and
-- a content: a tool, tied to the rest by the law IsForm.
pub record Form (X : Type 0) : Type 1 where
  pub tag : X → ℕ
  pub content : X → List ℕ
  pub good : X → Type 0
  pub starts : List ℕ
  pub reading : ℕ → List ℕ → Result X ErrorKind

-- the octets of a value: its element (X.690 8.1.1)
abbrev pub spelling : {X : Type 0} → Form X → X → List ℕ
spelling form value = element (form.tag value) (form.content value)

-- the bytes are those of the value, and not more than an element has here
abbrev pub Spells : {X : Type 0} → Form X → X → List ℕ → Type 0
Spells form value bytes = form.good value × (bytes ≡ spelling form value) × (length bytes ≤ limit)

-- Reading answers a value exactly on its identifier octet and content; else Malformed, or one of the errors R.
pub record IsForm {X : Type 0} (R : ErrorKind → Type 0) (form : Form X) : Type 0 where
  pub sound : (tag : ℕ) (content : List ℕ) (value : X) → form.reading tag content ≡ Ok value → form.good value × (tag ≡ form.tag value) × (content ≡ form.content value)
  pub complete : (value : X) → form.good value → form.reading (form.tag value) (form.content value) ≡ Ok value
  pub refused : (tag : ℕ) (content : List ℕ) (e : ErrorKind) → form.reading tag content ≡ Err e → (e ≡ Malformed) ⊎ R e
  pub tagged : (value : X) → form.good value → (is_in (form.tag value) form.starts ≡ true) × (is_identifier (form.tag value) ≡ true)

-- each value has this identifier octet
abbrev pub HasTag : {X : Type 0} → ℕ → Form X → Type 0
HasTag {X} tag form = (value : X) → form.tag value ≡ tag

-- the identifier octet of a form all values of which have one and the same
abbrev pub one_of : List ℕ → ℕ
one_of [] = 0
one_of (tag ∷ tags) = tag

abbrev pub one_tag : {X : Type 0} → Form X → ℕ
one_tag form = one_of form.starts

-- ---- a content under one identifier

-- The content octets of a type all of whose values have one identifier.
pub record Contents (X : Type 0) : Type 1 where
  pub octets : X → List ℕ
  pub good : X → Type 0
  pub reading : List ℕ → Result X ErrorKind

-- Reading answers a value exactly on its content octets; else Malformed, or one of the errors R.
pub record IsContents {X : Type 0} (R : ErrorKind → Type 0) (contents : Contents X) : Type 0 where
  pub sound : (bytes : List ℕ) (value : X) → contents.reading bytes ≡ Ok value → contents.good value × (bytes ≡ contents.octets value)
  pub complete : (value : X) → contents.good value → contents.reading (contents.octets value) ≡ Ok value
  pub refused : (bytes : List ℕ) (e : ErrorKind) → contents.reading bytes ≡ Err e → (e ≡ Malformed) ⊎ R e

-- the contents of a form each value of which has this identifier octet
abbrev pub contents_of : {X : Type 0} → ℕ → Form X → Contents X
contents_of tag form = record { octets = form.content; good = form.good; reading = form.reading tag }

-- a content is read under its own identifier octet alone
abbrev pub reading_under : {X : Type 0} → ℕ → (List ℕ → Result X ErrorKind) → ℕ → List ℕ → Result X ErrorKind
reading_under wanted read tag content = if nat_eq tag wanted then read content else Err Malformed

-- the contents under one identifier octet
abbrev pub under : {X : Type 0} → ℕ → Contents X → Form X
under tag contents = record {
  tag = λ value. tag;
  content = contents.octets;
  good = contents.good;
  starts = tag ∷ [];
  reading = reading_under tag contents.reading;
}

-- the contents under one identifier
abbrev pub universal : {X : Type 0} → Tag → Contents X → Form X
universal tag contents = under (octet_of tag) contents

-- the identifier octet is the one that is wanted
abbrev pub tag_at : ℕ → ℕ → Result Unit ErrorKind
tag_at tag wanted = if nat_eq tag wanted then Ok tt else Err Malformed

-- ---- reading one element

abbrev pub is_empty : List ℕ → Bool
is_empty [] = true
is_empty (b ∷ bytes) = false

-- an element after which nothing follows
abbrev pub alone : {X : Type 0} → (ℕ → List ℕ → Result X ErrorKind) → Piece → Result X ErrorKind
alone read piece = if is_empty piece.rest then read piece.tag piece.content else Err Malformed

unfoldable pub whole_reading : {X : Type 0} → (ℕ → List ℕ → Result X ErrorKind) → List ℕ → Result X ErrorKind
whole_reading read bytes = piece_at bytes >>= alone read
