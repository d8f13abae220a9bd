-- What is left of a list from a place on, and the element that stands at its front.
use Rattle.std.proofs.Common.{◌≡◌, ℕ, ◌+◌, ◌-◌, ◌≤◌, ◌<◌, ◌⊎◌, Bool, true, false, ◌==◌, List, [], ◌∷◌, ◌++◌, length, take, drop, Ok, Err, refl, sym, ap, ◌∙◌, inl, inr, arith, length-append, append_assoc}
use Rattle.std.proofs.lemmas.Bool.{eqb-true}
use Rattle.std.proofs.lemmas.List.{append-nil, drop_at, take-append-drop}
use Rattle.x509_c_calls.specs.Cursor.{IsLeft}
use Rattle.x509_der.specs.Element.{element, is_identifier, limit, length_octets}
use Rattle.x509_der.specs.ElementLaws.{piece_at-sound, piece_at-whole}
use Rattle.x509_der.specs.ElementReading.{Piece, piece_at}
use Rattle.x509_der.specs.OutcomeLaws.{ok_is, not_refused}
use Rattle.x509_der.specs.declared.error.ErrorKind.TheVariants.{Malformed}

module _ (tag : ℕ) (bytes left : List ℕ) (at : ℕ) (identifier : is_identifier tag ≡ true) (l : IsLeft tag bytes at left) where
  abbrev pub piece : Piece
  piece = record { tag = tag; content = l.passed ++ left; rest = [] }

  pub is_piece : piece_at bytes ≡ Ok piece
  is_piece = ap piece_at l.whole ∙ piece_at-whole tag (l.passed ++ left) identifier

  pub no_refusal : piece_at bytes ≡ Err Malformed → ⊥
  no_refusal refused = not_refused piece Malformed (sym is_piece ∙ refused)

  pub same_piece : (p : Piece) → piece_at bytes ≡ Ok p → (tag ≡ p.tag) × (l.passed ++ left ≡ p.content) × ([] ≡ p.rest)
  same_piece p found =
      let same = ok_is piece p (sym is_piece ∙ found) in
      (ap (λ (q : Piece). q.tag) same, ap (λ (q : Piece). q.content) same, ap (λ (q : Piece). q.rest) same)

-- the bytes are that element
pub alone : (bytes rest content : List ℕ) (t tag : ℕ) → piece_at bytes ≡ Ok (record { tag = t; content = content; rest = rest }) → t ≡ tag → rest ≡ [] → bytes ≡ element tag content
alone bytes rest content t tag found same none =
    (piece_at-sound bytes (record { tag = t; content = content; rest = rest }) found).0 ∙ rw (same, none) (append-nil (element tag content))

element_longer : (tag : ℕ) (content : List ℕ) → length content < length (element tag content)
unfolding element
element_longer tag content = omega (arith, length-append (length_octets (length content)) content)

pub content_fits : (bytes content : List ℕ) (tag : ℕ) → bytes ≡ element tag content → length content < length bytes
content_fits bytes content tag e = rw e (element_longer tag content)

pub left_fits : (bytes left : List ℕ) (tag at : ℕ) → IsLeft tag bytes at left → length left ≤ length bytes
left_fits bytes left tag at l = omega (arith, content_fits bytes (l.passed ++ left) tag l.whole, length-append l.passed left)

-- ---- a place in the content

pub from_the_place : (bytes content back : List ℕ) (tag at n : ℕ) → bytes ≡ element tag content → length bytes ≤ limit → back ≡ drop n content → at + length back ≡ length bytes → IsLeft tag bytes at back
from_the_place bytes content back tag at n e within is place = record { passed = take n content; whole = e ∙ ap (element tag) (sym (ap (λ (x : List ℕ). take n content ++ x) is ∙ take-append-drop n content)); within = within; place = inr place }

pub from_the_begin : (bytes content : List ℕ) (tag at : ℕ) → bytes ≡ element tag content → length bytes ≤ limit → at ≡ 0 → IsLeft tag bytes at content
from_the_begin bytes content tag at e within zero = record { passed = []; whole = e; within = within; place = inl (zero, refl) }

-- a place that isn't 0 is from the content's first octet to behind its last
pub in_content : (bytes left content : List ℕ) (tag at : ℕ) (l : IsLeft tag bytes at left) → l.passed ++ left ≡ content → (at ≡ 0) ⊎ ((length bytes - length content ≤ at) × (at ≤ length bytes))
in_content bytes left content tag at l same = elim l.place [
  | inl begin ↦ inl begin.0
  | inr place ↦ inr (omega (arith, ap length same, length-append l.passed left), omega arith)
]

-- ---- the element at the front of what is left

behind_the_front : (whole front left : List ℕ) → whole ≡ front ++ left → drop (length whole - length left) whole ≡ left
behind_the_front whole front left e = rw e (drop_at front left (length (front ++ left) - length left) (omega (arith, length-append front left)))

split : (tag : ℕ) (passed left : List ℕ) → element tag (passed ++ left) ≡ (tag ∷ (length_octets (length (passed ++ left)) ++ passed)) ++ left
unfolding element
split tag passed left = ap (λ (x : List ℕ). tag ∷ x) (sym (append_assoc (length_octets (length (passed ++ left))) passed left))

pub stands : (bytes left : List ℕ) (tag at : ℕ) → IsLeft tag bytes at left → drop (length bytes - length left) bytes ≡ left
stands bytes left tag at l = behind_the_front bytes (tag ∷ (length_octets (length (l.passed ++ left)) ++ l.passed)) left (l.whole ∙ split tag l.passed left)

-- ---- octets that are none

none : (xs : List ℕ) → length xs ≡ 0 → xs ≡ []
none [] e = refl
none (x ∷ xs) e = absurd (omega arith)

pub no_octets : (xs : List ℕ) (b : Bool) → b ≡ (length xs == 0) → b ≡ true → xs ≡ []
no_octets xs b e t = none xs (eqb-true (length xs) 0 (sym e ∙ t))

pub some_octets : (xs : List ℕ) (b : Bool) → b ≡ (length xs == 0) → b ≡ false → xs ≡ [] → ⊥
some_octets xs b e f none = let k = sym f ∙ e ∙ ap (λ (ys : List ℕ). length ys == 0) none in cc

pub not_in_content : (bytes left content : List ℕ) (tag at : ℕ) (l : IsLeft tag bytes at left) → l.passed ++ left ≡ content → (at ≡ 0 → ⊥) → (at < length bytes - length content) ⊎ (length bytes < at) → ⊥
not_in_content bytes left content tag at l same some out = elim (in_content bytes left content tag at l same) [
  | inl zero ↦ some zero
  | inr within ↦ elim out [ inl low ↦ absurd (omega (arith, within.0, low)) | inr high ↦ absurd (omega (arith, within.1, high)) ]
]
