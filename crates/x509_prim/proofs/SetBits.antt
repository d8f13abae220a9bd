-- The content of a set of named bits is that of its bit string.
use Rattle.std.proofs.Common.{◌≡◌, ℕ, zero, suc, ◌+◌, ◌-◌, ◌*◌, ◌/◌, ◌%◌, ◌^◌, ◌<◌, ◌≤◌, Bool, true, false, ◌&&◌, ◌||◌, not, nat_eq, nat_lt, nat_le, List, [], ◌∷◌, ◌++◌, length, get_or, replicate, refl, sym, ap, ◌∙◌, append_assoc, mul_assoc, length-append, inl, inr, arith}
use Rattle.std.proofs.lemmas.Bool.{and_parts, false≢true, cases_lt, leb-true, ltb-true, ne_eqb}
use Rattle.std.proofs.Math.Nat.{pow-succ'}
use Rattle.std.proofs.lemmas.List.{append-nil}
use Rattle.std.proofs.lemmas.Nat.Bits.{bit_at-suc, bit_at-zero, bit_at_lowest}
use Rattle.x509_prim.specs.BitString.{BitParts, parts_of, is_one, octet_bits, HasBits}
use Rattle.x509_prim.specs.NamedBits.{turned, unused_after, set_octets}
use Rattle.x509_prim.specs.NamedBitsLaws.{set_octets-one, set_octets-two}
use Rattle.x509_prim.specs.SetBits.{AreSetBits}
use Rattle.x509_prim.specs.Below.{all_below, all_below-at}

-- the lowest bits of a set, the lowest first
abbrev low_bits : ℕ → ℕ → List Bool
low_bits zero set = []
low_bits (suc count) set = is_one set 0 ∷ low_bits count (set / 2)

length-low_bits : (count set : ℕ) → length (low_bits count set) ≡ count
length-low_bits zero set = refl
length-low_bits (suc count) set = ap suc (length-low_bits count (set / 2))

double : (count : ℕ) → 2 ^ suc count ≡ 2 * 2 ^ count
double count = pow-succ' 2 count

named_low : (count set : ℕ) → set < 2 ^ count → (n : ℕ) → get_or (low_bits count set) n false ≡ is_one set n
named_low zero set h n =
    let none : set ≡ 0 = omega arith in
    let e : is_one 0 n ≡ false = ap (λ b. nat_eq b 1) (bit_at-zero n) in
    sym (ap (λ s. is_one s n) none ∙ e)
named_low (suc count) set h zero = refl
named_low (suc count) set h (suc n) =
    let half : set / 2 < 2 ^ count = omega (arith, double count) in
    named_low count (set / 2) half n ∙ ap (λ b. nat_eq b 1) (sym (bit_at-suc set n))

top_bit : (count set : ℕ) → 2 ^ count ≤ set → set < 2 ^ suc count → is_one set count ≡ true
top_bit zero set low high = let one : set ≡ 1 = omega arith in rw one refl
top_bit (suc count) set low high =
    let half : 2 ^ count ≤ set / 2 = omega (arith, double count) in
    let less : set / 2 < 2 ^ suc count = omega (arith, double (suc count)) in
    ap (λ b. nat_eq b 1) (bit_at-suc set count) ∙ top_bit count (set / 2) half less

last_false : (front : List Bool) → get_or (front ++ false ∷ []) (length front) false ≡ false
last_false [] = refl
last_false (bit ∷ front) = last_false front

trimmed_low : (count set : ℕ) → 2 ^ count ≤ set → set < 2 ^ suc count → (front : List Bool) → low_bits (suc count) set ≡ front ++ false ∷ [] → ⊥
trimmed_low count set low high front e =
    let l = ap length e in
    let len : count ≡ length front = omega (arith, l, length-low_bits (suc count) set, length-append front (false ∷ [])) in
    let zero_bit : get_or (low_bits (suc count) set) count false ≡ false = ap (λ (x : List Bool). get_or x count false) e ∙ ap (λ n. get_or (front ++ false ∷ []) n false) len ∙ last_false front in
    false≢true (sym zero_bit ∙ named_low (suc count) set high count ∙ top_bit count set low high)

set_bits : (count set : ℕ) → 2 ^ count ≤ set → set < 2 ^ suc count → AreSetBits set (low_bits (suc count) set)
set_bits count set low high = record { named = named_low (suc count) set high; trimmed = trimmed_low count set low high }

no_front : (front : List Bool) → [] ≡ front ++ false ∷ [] → ⊥
no_front front e = let l = ap length e in absurd (omega (arith, l, length-append front (false ∷ [])))

no_bits : AreSetBits 0 []
no_bits = record { named = λ n. named_low 0 0 (omega arith) n; trimmed = no_front }

-- ---- one octet

abbrev same_bit : Bool → Bool → Bool
same_bit true b = b
same_bit false b = not b

abbrev same_bits : List Bool → List Bool → Bool
same_bits [] [] = true
same_bits [] (y ∷ ys) = false
same_bits (x ∷ xs) [] = false
same_bits (x ∷ xs) (y ∷ ys) = same_bit x y && same_bits xs ys

same_bit-is : (x y : Bool) → same_bit x y ≡ true → x ≡ y
same_bit-is true true h = refl
same_bit-is true false h = absurd cc
same_bit-is false true h = absurd cc
same_bit-is false false h = refl

same_bits-is : (xs ys : List Bool) → same_bits xs ys ≡ true → xs ≡ ys
same_bits-is [] [] h = refl
same_bits-is [] (y ∷ ys) h = absurd cc
same_bits-is (x ∷ xs) [] h = absurd cc
same_bits-is (x ∷ xs) (y ∷ ys) h =
    let parts = and_parts (same_bit x y) (same_bits xs ys) h in
    rw (same_bit-is x y parts.0, same_bits-is xs ys parts.1) refl

abbrev whole_test : ℕ → Bool
whole_test set = same_bits (octet_bits (turned set)) (low_bits 8 set)

all_whole : all_below whole_test 256 ≡ true
unfolding turned octet_bits
all_whole = refl

abbrev last_test : ℕ → Bool
last_test set = same_bits (octet_bits (turned set)) (low_bits (suc (7 - unused_after set)) set ++ replicate (unused_after set) false)

all_last : all_below last_test 256 ≡ true
unfolding turned octet_bits unused_after
all_last = refl

abbrev range_test : ℕ → Bool
range_test set = nat_eq set 0 || (nat_lt (unused_after set) 8 && (nat_le (2 ^ (7 - unused_after set)) set && nat_lt set (2 ^ suc (7 - unused_after set))))

all_ranges : all_below range_test 256 ≡ true
unfolding unused_after
all_ranges = refl

whole_octet : (set : ℕ) → set < 256 → octet_bits (turned set) ≡ low_bits 8 set
whole_octet set h = same_bits-is (octet_bits (turned set)) (low_bits 8 set) (all_below-at whole_test 256 all_whole set h)

last_octet : (set : ℕ) → set < 256 → octet_bits (turned set) ≡ low_bits (suc (7 - unused_after set)) set ++ replicate (unused_after set) false
last_octet set h = same_bits-is (octet_bits (turned set)) (low_bits (suc (7 - unused_after set)) set ++ replicate (unused_after set) false) (all_below-at last_test 256 all_last set h)

range : (set : ℕ) → 0 < set → set < 256 → (unused_after set < 8) × (2 ^ (7 - unused_after set) ≤ set) × (set < 2 ^ suc (7 - unused_after set))
range set some h =
    let t = all_below-at range_test 256 all_ranges set h in
    let k = rw (ne_eqb set 0 (λ e. omega arith)) at t in
    let a = and_parts (nat_lt (unused_after set) 8) (nat_le (2 ^ (7 - unused_after set)) set && nat_lt set (2 ^ suc (7 - unused_after set))) k in
    let b = and_parts (nat_le (2 ^ (7 - unused_after set)) set) (nat_lt set (2 ^ suc (7 - unused_after set))) a.1 in
    (ltb-true (unused_after set) 8 a.0, leb-true (2 ^ (7 - unused_after set)) set b.0, ltb-true set (2 ^ suc (7 - unused_after set)) b.1)

-- ---- contents

pub record HasContent (set : ℕ) : Type 0 where
  pub bits : List Bool
  pub parts : BitParts
  pub set_is : AreSetBits set bits
  pub content : set_octets set ≡ parts.unused ∷ parts.octets
  pub bits_stand : HasBits bits parts

none_stand : HasContent 0
unfolding set_octets
none_stand = record { bits = []; parts = parts_of 0 []; set_is = no_bits; content = refl; bits_stand = record { few = omega arith; stand = refl } }

one_stands : (set : ℕ) → 0 < set → set < 256 → HasContent set
one_stands set some h =
    let r = range set some h in
    record {
      bits = low_bits (suc (7 - unused_after set)) set;
      parts = parts_of (unused_after set) (turned set ∷ []);
      set_is = set_bits (7 - unused_after set) set r.1 r.2;
      content = set_octets-one set some h;
      bits_stand = record { few = r.0; stand = append-nil (octet_bits (turned set)) ∙ last_octet set h };
    }

abbrev plus : ℕ → ℕ → ℕ
plus zero count = count
plus (suc j) count = suc (plus j count)

-- the low bits of a set and those above
split_bits : (j count set low high : ℕ) → low < 2 ^ j → set ≡ low + 2 ^ j * high → low_bits j low ++ low_bits count high ≡ low_bits (plus j count) set
split_bits zero count set low high little is = let same : high ≡ set = omega arith in ap (low_bits count) same
split_bits (suc j) count set low high little is =
    let twice : 2 ^ suc j * high ≡ 2 * (2 ^ j * high) = ap (λ n. n * high) (double j) ∙ mul_assoc 2 (2 ^ j) high in
    let first : is_one low 0 ≡ is_one set 0 = ap (λ b. nat_eq b 1) (bit_at_lowest low ∙ omega (arith, twice) ∙ sym (bit_at_lowest set)) in
    let half : low / 2 < 2 ^ j = omega (arith, double j) in
    let rest : set / 2 ≡ low / 2 + 2 ^ j * high = omega (arith, twice) in
    rw (first, split_bits j count (set / 2) (low / 2) high half rest) refl

pow_plus : (n : ℕ) → 2 ^ plus 8 n ≡ 256 * 2 ^ n
pow_plus n = omega (arith, double n, double (plus 1 n), double (plus 2 n), double (plus 3 n), double (plus 4 n), double (plus 5 n), double (plus 6 n), double (plus 7 n))

two_stand : (set low high : ℕ) → 0 < high → high < 256 → low < 256 → set ≡ low + 256 * high → set_octets set ≡ unused_after high ∷ turned low ∷ turned high ∷ [] → HasContent set
two_stand set low high some less little whole content =
    let unused : ℕ = unused_after high in
    let r = range high some less in
    let bottom = r.1 in
    let top = r.2 in
    let from : 2 ^ plus 8 (7 - unused) ≤ set = omega (arith, pow_plus (7 - unused)) in
    let below : set < 2 ^ suc (plus 8 (7 - unused)) = omega (arith, pow_plus (suc (7 - unused))) in
    let split = split_bits 8 (suc (7 - unused)) set low high little whole in
    let stand : octet_bits (turned low) ++ (octet_bits (turned high) ++ []) ≡ low_bits (plus 8 (suc (7 - unused))) set ++ replicate unused false =
    rw (whole_octet low little, append-nil (octet_bits (turned high)), last_octet high less) (sym (append_assoc (low_bits 8 low) (low_bits (suc (7 - unused)) high) (replicate unused false)) ∙ ap (λ (x : List Bool). x ++ replicate unused false) split) in
    record {
      bits = low_bits (plus 8 (suc (7 - unused))) set;
      parts = parts_of unused (turned low ∷ turned high ∷ []);
      set_is = set_bits (plus 8 (7 - unused)) set from below;
      content = content;
      bits_stand = record { few = r.0; stand = stand };
    }

pub has_content : (set : ℕ) → set < 65536 → HasContent set
has_content set h = elim (cases_lt set 1) [
  | inl none ↦ (let is : set ≡ 0 = omega arith in rw is none_stand)
  | inr some ↦ elim (cases_lt set 256) [
    | inl one ↦ one_stands set some one
    | inr more ↦ two_stand set (set % 256) (set / 256) (omega arith) (omega arith) (omega arith) (omega arith) (set_octets-two set more)
  ]
]
