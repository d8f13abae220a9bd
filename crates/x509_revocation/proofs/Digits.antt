-- Numbers by their octets, the most significant first.
use Rattle.std.proofs.Common.{◌≡◌, ◌↔◌, ◌⊎◌, inl, inr, ℕ, ◌+◌, ◌*◌, ◌<◌, ◌≤◌, List, [], ◌∷◌, ◌++◌, fold, length, refl, sym, ap, ◌∙◌, subst, arith, get_or, take, drop, Fits, w8}
use Rattle.std.specs.Cmp.{nat_cmp_is}
use Rattle.std.specs.Ordering.{nat_cmp}
use Rattle.std.specs.declared.cmp.Ordering.TheVariants.{Less, Equal, Greater}
use Rattle.std.specs.Cmp.Lexicographic.{slice_cmp}
use Rattle.std.specs.List.{All}
use Rattle.std.proofs.lemmas.Bool.{cases_lt}
use Rattle.std.proofs.lemmas.List.{take-append-drop}
use Rattle.std.proofs.lemmas.List.Elements.{All-head, All-tail, All-from_get_or}
use Rattle.x509_prim.specs.Integer.{number}

-- octets that follow a number
abbrev pub number_from : ℕ → List ℕ → ℕ
number_from high octets = fold (λ high octet. 256 * high + octet) high octets

abbrev pub AreOctets : List ℕ → Type 0
AreOctets octets = All (λ octet. octet < 256) octets

pub from-append : (a : ℕ) (xs ys : List ℕ) → number_from a (xs ++ ys) ≡ number_from (number_from a xs) ys
from-append a [] ys = refl
from-append a (x ∷ xs) ys = from-append (256 * a + x) xs ys

pub from-above : (a : ℕ) (xs : List ℕ) → a ≤ number_from a xs
from-above a [] = omega arith
from-above a (x ∷ xs) = let above = from-above (256 * a + x) xs in omega arith

-- the first that differ decide, where as many follow
pub less : (a b : ℕ) (xs ys : List ℕ) → AreOctets xs → length xs ≡ length ys → a < b → number_from a xs < number_from b ys
less a b [] [] octets same l = l
less a b [] (y ∷ ys) octets same l = absurd (omega arith)
less a b (x ∷ xs) [] octets same l = absurd (omega arith)
less a b (x ∷ xs) (y ∷ ys) octets same l =
    let low = All-head (λ o. o < 256) x xs octets in
    less (256 * a + x) (256 * b + y) xs ys (All-tail (λ o. o < 256) x xs octets) (omega arith) (omega arith)

cases_order : (x y : ℕ) → (x < y) ⊎ ((x ≡ y) ⊎ (y < x))
cases_order x y = elim (cases_lt x y) [
  | inl below ↦ inl below
  | inr over ↦ elim (cases_lt y x) [ inl above ↦ inr (inr above) | inr under ↦ inr (inl (omega arith)) ]
]

cmp_less : (x y : ℕ) → x < y → nat_cmp x y ≡ Less
cmp_less x y l = sym (nat_cmp_is x y Less l)

cmp_equal : (x : ℕ) → nat_cmp x x ≡ Equal
cmp_equal x = sym (nat_cmp_is x x Equal refl)

cmp_greater : (x y : ℕ) → y < x → nat_cmp x y ≡ Greater
cmp_greater x y l = sym (nat_cmp_is x y Greater l)

-- the order of as many octets is that of their numbers
pub one_order : (a : ℕ) (xs ys : List ℕ) → AreOctets xs → AreOctets ys → length xs ≡ length ys → (slice_cmp nat_cmp xs ys ≡ Less) ↔ (number_from a xs < number_from a ys)
one_order a [] [] p q same = ((λ never. absurd cc), (λ l. absurd (omega arith)))
one_order a [] (y ∷ ys) p q same = absurd (omega arith)
one_order a (x ∷ xs) [] p q same = absurd (omega arith)
one_order a (x ∷ xs) (y ∷ ys) p q same =
    let left = All-tail (λ o. o < 256) x xs p in
    let right = All-tail (λ o. o < 256) y ys q in
    elim (cases_order x y) [
      | inl below ↦ ((λ is. less (256 * a + x) (256 * a + y) xs ys left (omega arith) (omega arith)), (λ l. rw (cmp_less x y below) refl))
      | inr (inl is) ↦ rw is (rw (cmp_equal y) (one_order (256 * a + y) xs ys left right (omega arith)))
      | inr (inr above) ↦ (
        (λ is. absurd (let greater : Greater ≡ Less = rw (cmp_greater x y above) at is in cc)),
        (λ l. let other = less (256 * a + y) (256 * a + x) ys xs right (omega arith) (omega arith) in absurd (omega arith)),
      )
    ]

-- the number of octets behind others
split : (front behind octets : List ℕ) → front ++ behind ≡ octets → number octets ≡ number_from (number front) behind
split front behind octets is = sym (ap number is) ∙ from-append 0 front behind

pub octets_all : (octets : List ℕ) → ((i : ℕ) → Fits w8 (get_or octets i 0)) → AreOctets octets
octets_all octets fits = All-from_get_or (λ o. o < 256) octets 0 (λ i within. omega (arith, fits i))

octets_behind : (front behind : List ℕ) → AreOctets (front ++ behind) → AreOctets behind
octets_behind [] behind p = p
octets_behind (x ∷ front) behind p = octets_behind front behind (All-tail (λ o. o < 256) x (front ++ behind) p)

-- behind zeros the octets decide
pub behind_zeros : (front behind a b : List ℕ) → front ++ behind ≡ a → AreOctets a → AreOctets b → length behind ≡ length b → number front ≡ 0 → (slice_cmp nat_cmp behind b ≡ Less) ↔ (number a < number b)
behind_zeros front behind a b is p q same zero =
    let octets = octets_behind front behind (subst AreOctets (sym is) p) in
    rw (split front behind a is) (rw zero (one_order 0 behind b octets q same))

pub over : (front behind a b : List ℕ) → front ++ behind ≡ a → AreOctets a → AreOctets b → length behind ≡ length b → (number front ≡ 0 → ⊥) → number b < number a
over front behind a b is p q same more =
    rw (split front behind a is) (less 0 (number front) b behind q (sym same) (omega (arith, more)))

pub not_zero : (octets : List ℕ) → 1 ≤ length octets → (get_or octets 0 0 ≡ 0 → ⊥) → number octets ≡ 0 → ⊥
not_zero [] some other zero = absurd (omega arith)
not_zero (x ∷ xs) some other zero = let above = from-above (256 * 0 + x) xs in other (omega (arith, above, zero))

pub cut : (k : ℕ) (octets front behind : List ℕ) → front ≡ take k octets → behind ≡ drop k octets → front ++ behind ≡ octets
cut k octets front behind is so = rw is (rw so (take-append-drop k octets))

pub before_zeros : (front behind b a : List ℕ) → front ++ behind ≡ b → AreOctets b → AreOctets a → length behind ≡ length a → number front ≡ 0 → (slice_cmp nat_cmp a behind ≡ Less) ↔ (number a < number b)
before_zeros front behind b a is p q same zero =
    let octets = octets_behind front behind (subst AreOctets (sym is) p) in
    rw (split front behind b is) (rw zero (one_order 0 a behind q octets (sym same)))
