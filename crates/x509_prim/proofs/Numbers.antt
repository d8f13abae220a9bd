-- Contents of integers and whole numbers are one to one.
use Rattle.std.proofs.Common.{◌≡◌, ℕ, zero, suc, ◌+◌, ◌-◌, ◌*◌, ◌/◌, ◌%◌, ◌<◌, ◌≤◌, true, false, nat_eq, nat_le, List, [], ◌∷◌, ◌++◌, length, take, drop, get_or, map, ℤ, pos, negsuc, refl, sym, ap, ◌∙◌, length-append, length-drop, inl, inr, arith}
use Rattle.std.specs.List.{All}
use Rattle.std.proofs.lemmas.Bool.{cases_Bool, cases_lt, eqb-true, eqb-false, ne_eqb, le-leb}
use Rattle.std.proofs.lemmas.Bool.Decides.{nat_tests}
use Rattle.std.proofs.lemmas.List.{take-append-drop}
use Rattle.std.proofs.lemmas.List.Elements.{All-nil, All-cons, All-head, All-tail, All-append}
use Rattle.x509_prim.specs.Integer.{is_integer, is_negative, is_unsigned, number, integer_value, without_zeros, with_sign}
use Rattle.x509_prim.proofs.Naturals.{number_from, number_from-above, number-without_zeros, number-content, is_unsigned-content, is_unsigned-is_integer, is_unsigned-some}

abbrev small : ℕ → Type 0
small octet = octet < 256

abbrev pub AreOctets : List ℕ → Type 0
AreOctets octets = All (λ octet. octet < 256) octets

-- ---- numbers of one length

same_length : (a b : ℕ) (xs ys : List ℕ) → AreOctets xs → AreOctets ys → length xs ≡ length ys → number_from a xs ≡ number_from b ys → (a ≡ b) × (xs ≡ ys)
same_length a b [] [] p q l e = (e, refl)
same_length a b [] (y ∷ ys) p q l e = absurd (omega arith)
same_length a b (x ∷ xs) [] p q l e = absurd (omega arith)
same_length a b (x ∷ xs) (y ∷ ys) p q l e =
    let low = All-head small x xs p in
    let less = All-head small y ys q in
    let rest = same_length (256 * a + x) (256 * b + y) xs ys (All-tail small x xs p) (All-tail small y ys q) (omega arith) e in
    let heads : 256 * a + x ≡ 256 * b + y = rest.0 in
    let highs : a ≡ b = omega arith in
    let lows : x ≡ y = omega arith in
    (highs, rw (lows, rest.1) refl)

from-append : (a : ℕ) (xs ys : List ℕ) → number_from a (xs ++ ys) ≡ number_from (number_from a xs) ys
from-append a [] ys = refl
from-append a (x ∷ xs) ys = from-append (256 * a + x) xs ys

number-first : (x : ℕ) (xs : List ℕ) → number (x ∷ xs) ≡ number_from x xs
number-first x xs = let same : 256 * 0 + x ≡ x = omega arith in ap (λ n. number_from n xs) same

-- ---- octets without zeros in front

pub record IsShort (octets : List ℕ) : Type 0 where
  pub some : 0 < length octets
  pub first : 1 < length octets → 0 < get_or octets 0 0

longer : (k : ℕ) (xs ys : List ℕ) → AreOctets (drop k xs) → AreOctets ys → IsShort xs → 0 < length ys → length xs ≡ k + length ys → number xs ≡ number ys → xs ≡ ys
longer zero xs ys p q short some l e = (same_length 0 0 xs ys p q (omega arith) e).1
longer (suc k) [] ys p q short some l e = absurd (omega arith)
longer (suc k) (x ∷ xs) ys p q short some l e =
    let parts : take k xs ++ drop k xs ≡ xs = take-append-drop k xs in
    let split : number_from x xs ≡ number_from (number_from x (take k xs)) (drop k xs) = ap (number_from x) (sym parts) ∙ from-append x (take k xs) (drop k xs) in
    let same = same_length (number_from x (take k xs)) 0 (drop k xs) ys p q (omega (arith, length-drop k xs)) (sym split ∙ sym (number-first x xs) ∙ e) in
    let high : 0 < x = short.first (omega arith) in
    let above = number_from-above x (take k xs) in
    absurd (omega (arith, same.0))

all_drop : (k : ℕ) (xs : List ℕ) → AreOctets xs → AreOctets (drop k xs)
all_drop zero xs p = p
all_drop (suc k) [] p = p
all_drop (suc k) (x ∷ xs) p = all_drop k xs (All-tail small x xs p)

one_short : (xs ys : List ℕ) → AreOctets xs → AreOctets ys → IsShort xs → IsShort ys → number xs ≡ number ys → xs ≡ ys
one_short xs ys p q short less e = elim (cases_lt (length xs) (length ys)) [
  | inl l ↦ sym (longer (length ys - length xs) ys xs (all_drop (length ys - length xs) ys q) p less short.some (omega arith) (sym e))
  | inr l ↦ longer (length xs - length ys) xs ys (all_drop (length xs - length ys) xs p) q short less.some (omega arith) e
]

short_without_zeros : (octets : List ℕ) → 0 < length octets → IsShort (without_zeros octets)
short_without_zeros [] h = absurd (omega arith)
short_without_zeros (first ∷ []) h = record { some = h; first = λ l. absurd (omega arith) }
short_without_zeros (first ∷ second ∷ octets) h = elim (cases_Bool (nat_eq first 0)) [
  | inl none ↦ rw none (short_without_zeros (second ∷ octets) (omega arith))
  | inr some ↦ (let ne = eqb-false first 0 some in rw some (record { some = omega arith; first = λ l. omega arith }))
]

octets_without_zeros : (octets : List ℕ) → AreOctets octets → AreOctets (without_zeros octets)
octets_without_zeros [] p = p
octets_without_zeros (first ∷ []) p = p
octets_without_zeros (first ∷ second ∷ octets) p = elim (cases_Bool (nat_eq first 0)) [
  | inl none ↦ rw none (octets_without_zeros (second ∷ octets) (All-tail small first (second ∷ octets) p))
  | inr some ↦ rw some p
]

-- ---- contents of numbers that are not negative

high_octet : (second : ℕ) (octets : List ℕ) → 128 ≤ second → with_sign (without_zeros (second ∷ octets)) ≡ 0 ∷ second ∷ octets
high_octet second [] high = rw (le-leb 128 second high) refl
high_octet second (third ∷ octets) high = rw (ne_eqb second 0 (λ e. omega arith), le-leb 128 second high) refl

natural_again : (octets : List ℕ) → is_unsigned octets ≡ true → with_sign (without_zeros octets) ≡ octets
unfolding is_unsigned is_integer
natural_again [] h = absurd cc
natural_again (first ∷ []) h = let low : nat_le 128 first ≡ false = grind (arith, nat_tests) in rw low refl
natural_again (first ∷ second ∷ octets) h = elim (cases_Bool (nat_eq first 0)) [
  | inl none ↦ (let is : first ≡ 0 = eqb-true first 0 none in
      let high : 128 ≤ second = grind (arith, nat_tests) in
      rw is (high_octet second octets high))
  | inr some ↦ (let low : nat_le 128 first ≡ false = grind (arith, nat_tests) in rw (some, low) refl)
]

one_natural : (xs ys : List ℕ) → AreOctets xs → AreOctets ys → is_unsigned xs ≡ true → is_unsigned ys ≡ true → number xs ≡ number ys → xs ≡ ys
one_natural xs ys p q n m e =
    let same = one_short (without_zeros xs) (without_zeros ys) (octets_without_zeros xs p) (octets_without_zeros ys q) (short_without_zeros xs (is_unsigned-some xs n)) (short_without_zeros ys (is_unsigned-some ys m)) (number-without_zeros xs ∙ e ∙ sym (number-without_zeros ys)) in
    sym (natural_again xs n) ∙ ap with_sign same ∙ natural_again ys m

-- ---- turned bits

abbrev turned : List ℕ → List ℕ
turned octets = map (λ octet. 255 - octet) octets

turned_octets : (octets : List ℕ) → AreOctets (turned octets)
turned_octets [] = All-nil small
turned_octets (octet ∷ octets) = All-cons small (255 - octet) (turned octets) (omega arith) (turned_octets octets)

turned-turned : (octets : List ℕ) → AreOctets octets → turned (turned octets) ≡ octets
turned-turned [] p = refl
turned-turned (octet ∷ octets) p =
    let little = All-head small octet octets p in
    let twice : 255 - (255 - octet) ≡ octet = omega arith in
    rw (twice, turned-turned octets (All-tail small octet octets p)) refl

turned_natural : (octets : List ℕ) → AreOctets octets → is_integer octets ≡ true → is_negative octets ≡ true → is_unsigned (turned octets) ≡ true
unfolding is_unsigned is_integer
turned_natural [] p h n = absurd cc
turned_natural (first ∷ []) p h n = let little = All-head small first [] p in grind (arith, nat_tests)
turned_natural (first ∷ second ∷ octets) p h n =
    let little = All-head small first (second ∷ octets) p in
    let less = All-head small second octets (All-tail small first (second ∷ octets) p) in
    grind (arith, nat_tests)

turned_integer : (octets : List ℕ) → AreOctets octets → is_unsigned octets ≡ true → (is_integer (turned octets) ≡ true) × (is_negative (turned octets) ≡ true)
unfolding is_unsigned is_integer
turned_integer [] p n = absurd cc
turned_integer (first ∷ []) p n = (refl, grind (arith, nat_tests))
turned_integer (first ∷ second ∷ octets) p n =
    let little = All-head small first (second ∷ octets) p in
    let less = All-head small second octets (All-tail small first (second ∷ octets) p) in
    (grind (arith, nat_tests), grind (arith, nat_tests))

-- ---- integers

made_natural : (octets : List ℕ) → is_integer octets ≡ true → is_negative octets ≡ false → is_unsigned octets ≡ true
unfolding is_unsigned
made_natural octets h n = rw (h, n) refl

pos_is : (n m : ℕ) → pos n ≡ pos m → n ≡ m
pos_is n m e = cc

negsuc_is : (n m : ℕ) → negsuc n ≡ negsuc m → n ≡ m
negsuc_is n m e = cc

pos_no : (n m : ℕ) → pos n ≡ negsuc m → ⊥
pos_no n m e = cc

pub one_integer : (xs ys : List ℕ) → AreOctets xs → AreOctets ys → is_integer xs ≡ true → is_integer ys ≡ true → integer_value xs ≡ integer_value ys → xs ≡ ys
one_integer xs ys p q n m e = elim (cases_Bool (is_negative xs)) [
  | inl low ↦ elim (cases_Bool (is_negative ys)) [
    | inl less ↦ (let k = negsuc_is _ _ (rw (low, less) at e) in
        let same = one_natural (turned xs) (turned ys) (turned_octets xs) (turned_octets ys) (turned_natural xs p n low) (turned_natural ys q m less) k in
        sym (turned-turned xs p) ∙ ap turned same ∙ turned-turned ys q)
    | inr more ↦ absurd (pos_no _ _ (sym (rw (low, more) at e)))
  ]
  | inr high ↦ elim (cases_Bool (is_negative ys)) [
    | inl less ↦ absurd (pos_no _ _ (rw (high, less) at e))
    | inr more ↦ one_natural xs ys p q (made_natural xs n high) (made_natural ys m more) (pos_is _ _ (rw (high, more) at e))
  ]
]

-- ---- each whole number has a content

pub record Spelled (n : ℕ) : Type 0 where
  pub octets : List ℕ
  pub small_ones : AreOctets octets
  pub some : 0 < length octets
  pub is : number octets ≡ n

spelled_below : (bound n : ℕ) → n < bound → Spelled n
spelled_below zero n h = absurd (omega arith)
spelled_below (suc bound) n h = elim (cases_lt n 256) [
  | inl little ↦ record { octets = n ∷ []; small_ones = All-cons small n [] little (All-nil small); some = omega arith; is = omega arith }
  | inr more ↦ (let high = spelled_below bound (n / 256) (omega arith) in
      let last : ℕ = n % 256 in
      let low : last < 256 = omega arith in
      record {
        octets = high.octets ++ last ∷ [];
        small_ones = All-append small high.octets (last ∷ []) high.small_ones (All-cons small last [] low (All-nil small));
        some = omega (arith, length-append high.octets (last ∷ []));
        is = from-append 0 high.octets (last ∷ []) ∙ (let whole = high.is in omega arith);
      })
]

octets_with_sign : (octets : List ℕ) → AreOctets octets → AreOctets (with_sign octets)
octets_with_sign octets p = elim (cases_Bool (is_negative octets)) [ inl signed ↦ rw signed (All-cons small 0 octets (omega arith) p) | inr unsigned ↦ rw unsigned p ]

pub record Content (n : ℕ) : Type 0 where
  pub octets : List ℕ
  pub small_ones : AreOctets octets
  pub natural : is_unsigned octets ≡ true
  pub is : number octets ≡ n

natural_content : (n : ℕ) → Content n
natural_content n =
    let spelled = spelled_below (suc n) n (omega arith) in
    record {
      octets = with_sign (without_zeros spelled.octets);
      small_ones = octets_with_sign (without_zeros spelled.octets) (octets_without_zeros spelled.octets spelled.small_ones);
      natural = is_unsigned-content spelled.octets spelled.some;
      is = number-content spelled.octets ∙ spelled.is;
    }

natural_sign : (octets : List ℕ) → is_unsigned octets ≡ true → is_negative octets ≡ false
unfolding is_unsigned
natural_sign octets h = grind (arith, nat_tests)

pub integer_content : (z : ℤ) → (octets : List ℕ) × (AreOctets octets × ((is_integer octets ≡ true) × (integer_value octets ≡ z)))
integer_content (pos n) =
    let content = natural_content n in
    let value : integer_value content.octets ≡ pos n = rw (natural_sign content.octets content.natural) (ap pos content.is) in
    (content.octets, (content.small_ones, (is_unsigned-is_integer content.octets content.natural, value)))
integer_content (negsuc n) =
    let content = natural_content n in
    let signs = turned_integer content.octets content.small_ones content.natural in
    let value : integer_value (turned content.octets) ≡ negsuc n = rw (signs.1, turned-turned content.octets content.small_ones) (ap negsuc content.is) in
    (turned content.octets, (turned_octets content.octets, (signs.0, value)))
