-- Places in the octets of a list of entries (RFC 5280 5.1.2.6): how many octets stand before an entry.
use Rattle.std.specs.Prelude.{◌≡◌, ℕ, zero, suc, ◌-◌, Bool, false, true, ◌&&◌, List, [], ◌∷◌, length, drop, bytes_eq, nat_eq, nat_lt, Option, MatchOption, Result, Ok, Err}
use Rattle.std.specs.Cmp.Lexicographic.{slice_cmp}
use Rattle.std.specs.List.{list_any}
use Rattle.std.specs.List.Sorted.{IsSortedByKey}
use Rattle.std.specs.Ordering.{nat_cmp, ordering_then}
use Rattle.std.specs.declared.cmp.Ordering.{Ordering}
use Rattle.x509_der.specs.ElementReading.{Piece, piece_at}
use Rattle.x509_der.specs.declared.error.ErrorKind.{ErrorKind}

-- the content octets of the element at the front; none where none stands there
abbrev pub content_of : Result Piece ErrorKind → List ℕ
content_of (Ok piece) = piece.content
content_of (Err e) = []

abbrev pub front_content : List ℕ → List ℕ
front_content bytes = content_of (piece_at bytes)

-- the content octets of the serial number of the entry at a place: of the element that stands first in it
abbrev pub number_at : List ℕ → ℕ → List ℕ
number_at octets place = front_content (front_content (drop place octets))

-- a place, and those of what follows its element
abbrev pub place_and_behind : (List ℕ → List ℕ) → ℕ → Result Piece ErrorKind → List ℕ
place_and_behind behind place (Ok piece) = place ∷ behind piece.rest
place_and_behind behind place (Err e) = []

-- the places of the elements in the last of so many octets, one after the other, at most n
unfoldable pub places_at : ℕ → ℕ → List ℕ → List ℕ
places_at zero total rest = []
places_at (suc n) total rest = place_and_behind (places_at n total) (total - length rest) (piece_at rest)

-- the places of the elements that the octets are
abbrev pub places_in : List ℕ → List ℕ
places_in octets = places_at (length octets) (length octets) octets

-- ---- an index

-- the order of an index: by the octets of the serial numbers, and of one number by the places
abbrev pub key_at : List ℕ → ℕ → List ℕ × ℕ
key_at octets place = (number_at octets place, place)

abbrev pub key_cmp : List ℕ × ℕ → List ℕ × ℕ → Ordering
key_cmp a b = ordering_then (slice_cmp nat_cmp a.0 b.0) (nat_cmp a.1 b.1)

-- two lists have the same elements: where one of them has one that passes a test, the other has
abbrev pub HaveSame : List ℕ → List ℕ → Type 0
HaveSame xs ys = (test : ℕ → Bool) → list_any test xs ≡ list_any test ys

-- the index of these octets: the places of their elements, in that order
pub record IsIndex (octets places : List ℕ) : Type 0 where
  pub same : HaveSame (places_in octets) places
  pub order : IsSortedByKey (key_at octets) key_cmp places

-- ---- a look-up

abbrev pub has_number : List ℕ → List ℕ → ℕ → Bool
has_number octets number place = bytes_eq (number_at octets place) number

abbrev pub is_before : List ℕ → List ℕ → ℕ → ℕ → Bool
is_before octets number place other = has_number octets number other && nat_lt other place

-- the place is the first of these with the number
pub record IsFirstPlace (octets number places : List ℕ) (place : ℕ) : Type 0 where
  pub there : list_any (nat_eq place) places ≡ true
  pub has : has_number octets number place ≡ true
  pub first : list_any (is_before octets number place) places ≡ false

-- the first of these with the number, or None exactly where none has it
abbrev pub FindsPlace : List ℕ → List ℕ → List ℕ → Option ℕ → Type 0
FindsPlace octets number places answer =
    MatchOption answer (list_any (has_number octets number) places ≡ false) (λ place. IsFirstPlace octets number places place)
