-- What is left of a list of timestamps from a place on, and the vector that stands at its front.
use Rattle.std.proofs.Common.{◌≡◌, ℕ, ◌+◌, ◌-◌, ◌≤◌, ◌<◌, ◌⊎◌, true, List, [], ◌∷◌, ◌++◌, length, take, drop, Ok, Err, refl, sym, ap, ◌∙◌, inl, inr, arith, length-append, append_assoc}
use Rattle.std.proofs.lemmas.List.{append-nil, drop_at, take-append-drop}
use Rattle.x509_c_calls.specs.SctWalk.{IsLeft, IsNext}
use Rattle.x509_der.specs.Element.{element, is_identifier, is_universal, length_octets}
use Rattle.x509_der.specs.ElementLaws.{piece_at-whole}
use Rattle.x509_der.specs.ElementReading.{Piece, piece_at}
use Rattle.x509_der.specs.OutcomeLaws.{ok_is, not_refused}
use Rattle.x509_der.specs.declared.error.ErrorKind.TheVariants.{Malformed}
use Rattle.x509_sct.specs.Numbers.{uint16, vector16, vector16_lawful}
use Rattle.x509_sct.specs.Uniqueness.{one_front}

is_octets : is_identifier 4 ≡ true
unfolding is_identifier is_universal
is_octets = refl

module _ (bytes left : List ℕ) (at : ℕ) (l : IsLeft bytes at left) where
  abbrev all : List ℕ
  all = l.passed ++ left

  abbrev piece : Piece
  piece = record { tag = 4; content = vector16.bytes all; rest = [] }

  is_piece : piece_at bytes ≡ Ok piece
  is_piece = ap piece_at l.whole ∙ piece_at-whole 4 (vector16.bytes all) is_octets

  pub no_refusal : piece_at bytes ≡ Err Malformed → ⊥
  no_refusal refused = not_refused piece Malformed (sym is_piece ∙ refused)

  pub same_piece : (p : Piece) → piece_at bytes ≡ Ok p → (4 ≡ p.tag) × (vector16.bytes all ≡ p.content) × ([] ≡ p.rest)
  same_piece p found =
      let same = ok_is piece p (sym is_piece ∙ found) in
      (ap (λ (q : Piece). q.tag) same, ap (λ (q : Piece). q.content) same, ap (λ (q : Piece). q.rest) same)

  -- the content is a vector, and nothing more
  pub is_vector : (p : Piece) → piece_at bytes ≡ Ok p → p.content ≡ vector16.bytes all ++ []
  is_vector p found = sym (same_piece p found).1 ∙ sym (append-nil (vector16.bytes all))

  pub same_vector : (p : Piece) (list rest : List ℕ) → piece_at bytes ≡ Ok p → vector16.good list → p.content ≡ vector16.bytes list ++ rest → (all ≡ list) × ([] ≡ rest)
  same_vector p list rest found good e = one_front vector16 vector16_lawful all list [] rest l.short good (sym (is_vector p found) ∙ e)

  -- a place that isn't 0 is from the first octet of the list to behind its last
  pub in_list : (list : List ℕ) → all ≡ list → (at ≡ 0) ⊎ ((length bytes - length list ≤ at) × (at ≤ length bytes))
  in_list list same = elim l.place [
    | inl begin ↦ inl begin.0
    | inr place ↦ inr (omega (arith, ap length same, length-append l.passed left), omega arith)
  ]

  pub not_in_list : (list : List ℕ) → all ≡ list → (at ≡ 0 → ⊥) → (at < length bytes - length list) ⊎ (length bytes < at) → ⊥
  not_in_list list same some out = elim (in_list list same) [
    | inl zero ↦ some zero
    | inr within ↦ elim out [ inl low ↦ absurd (omega (arith, within.0, low)) | inr high ↦ absurd (omega (arith, within.1, high)) ]
  ]

-- ---- a place in a list

pub whole_list : (bytes content list rest : List ℕ) → bytes ≡ element 4 content → content ≡ vector16.bytes list ++ rest → rest ≡ [] → bytes ≡ element 4 (vector16.bytes list)
whole_list bytes content list rest e is none = e ∙ ap (element 4) (is ∙ ap (λ (x : List ℕ). vector16.bytes list ++ x) none ∙ append-nil (vector16.bytes list))

pub list_fits : (bytes list : List ℕ) → bytes ≡ element 4 (vector16.bytes list) → length list < length bytes
unfolding element
list_fits bytes list e =
    omega (arith, ap length e, length-append (length_octets (length (vector16.bytes list))) (vector16.bytes list), length-append (uint16.bytes (length list)) list)

pub from_the_place : (bytes list back : List ℕ) (at n : ℕ) → bytes ≡ element 4 (vector16.bytes list) → vector16.good list → back ≡ drop n list → at + length back ≡ length bytes → IsLeft bytes at back
from_the_place bytes list back at n e good is place =
    let whole : list ≡ take n list ++ back = sym (ap (λ (x : List ℕ). take n list ++ x) is ∙ take-append-drop n list) in
    record { passed = take n list; whole = e ∙ ap (λ (x : List ℕ). element 4 (vector16.bytes x)) whole; short = rw (sym whole) good; place = inr place }

pub from_the_begin : (bytes list : List ℕ) (at : ℕ) → bytes ≡ element 4 (vector16.bytes list) → vector16.good list → at ≡ 0 → IsLeft bytes at list
from_the_begin bytes list at e good zero = record { passed = []; whole = e; short = good; place = inl (zero, refl) }

-- ---- the vector at the front of what is left

module _ (bytes left : List ℕ) (at : ℕ) (l : IsLeft bytes at left) (octets more : List ℕ) (good : vector16.good octets) (e : left ≡ vector16.bytes octets ++ more) where
  -- what stands in front of the octets
  abbrev list : List ℕ
  list = l.passed ++ left

  abbrev front : List ℕ
  front = (4 ∷ (length_octets (length (vector16.bytes list)) ++ (uint16.bytes (length list) ++ l.passed))) ++ uint16.bytes (length octets)

  split : bytes ≡ front ++ (octets ++ more)
  unfolding element
  split = l.whole ∙ again
    where
      again : element 4 (vector16.bytes list) ≡ front ++ (octets ++ more)
      again = ap (λ (x : List ℕ). 4 ∷ (length_octets (length (vector16.bytes list)) ++ (uint16.bytes (length list) ++ (l.passed ++ x)))) e ∙ simp append_assoc refl

  total : length bytes ≡ length front + (length octets + length more)
  total = omega (arith, ap length split, length-append front (octets ++ more), length-append octets more)

  pub more_fits : length more ≤ length bytes
  more_fits = omega (arith, total)

  pub octets_fit : length octets ≤ length bytes - length more
  octets_fit = omega (arith, total)

  pub is_next : IsNext bytes at (length bytes - length more) octets more (record { place = length bytes - length more - length octets; len = length octets })
  is_next = record {
    left = rw (sym e) l;
    good = good;
    stands = (ap (drop (length bytes - length more - length octets)) split ∙ drop_at front (octets ++ more) (length bytes - length more - length octets) (omega (arith, total)), refl, omega (arith, total));
    behind = omega (arith, total);
  }
