-- Keys of IP addresses say which subtrees have them.
use Rattle.std.proofs.Common.{if◌then◌else◌, ◌≡◌, inl, inr, ◌↔◌, ℕ, zero, suc, ◌+◌, ◌-◌, ◌*◌, ◌/◌, ◌%◌, ◌^◌, ◌<◌, ◌≤◌, ◌==◌, ◌&&◌, ◌||◌, Bool, true, false, List, [], ◌∷◌, ◌++◌, length, take, drop, bit_and, get_or, refl, sym, ◌∙◌, ap, subst, arith, append_assoc, length-drop}
use Rattle.std.proofs.lemmas.Bool.{eqb-true, or_cases}
use Rattle.std.specs.List.{list_any}
use Rattle.std.specs.Prelude.{slice_index}
use Rattle.std.proofs.lemmas.Bool.Decides.{eqb_tells, nat_tests}
use Rattle.std.proofs.lemmas.List.{append-nil, length-take-le}
use Rattle.std.proofs.lemmas.Nat.{and_assoc, and_mask}
use Rattle.std.proofs.lemmas.Nat.Bits.{and_high_mask}
use Rattle.x509_constraints.specs.Address.{IsSameMasked, IsWithinAddress, is_address_subtree, is_mask, is_partial, is_zeros}
use Rattle.x509_constraints.specs.AddressKeys.{address_key, address_prefix, address_prefixes, is_address, beginnings, narrowed, octet_symbols, ones, spread}
use Rattle.x509_constraints.proofs.KeyLaws.{has_prefix-one}
use Rattle.x509_constraints.specs.Prefixes.{begins, has_prefix}

-- of a number only the low eight bits meet a mask of that length
masked_low : (x m : ℕ) → bit_and 255 m ≡ m → bit_and x m ≡ bit_and (x % 256) m
masked_low x m is = ap (bit_and x) (sym is) ∙ (sym (and_assoc m x 255) ∙ ap (λ y. bit_and y m) (and_mask x 8))

-- a mask that clears the low k bits
masked_by : (x k m : ℕ) → k ≤ 8 → m ≡ 256 - 2 ^ k → x < 256 → bit_and x m ≡ x / 2 ^ k * 2 ^ k
masked_by x k m within is small = ap (bit_and x) is ∙ and_high_mask 8 k within x small

-- an octet of a mask compares as many bits as it has ones
partial_0 : (x a : ℕ) (tail : List ℕ) → x < 256 → a < 256 → (begins (beginnings x ++ tail) (take 0 (beginnings a)) ≡ true) ↔ (bit_and x 0x00 ≡ bit_and a 0x00)
partial_0 x a tail small_x small_a =
    let mx : bit_and x 0x00 ≡ x / 256 * 256 = masked_by x 8 0x00 (omega arith) refl small_x in
    let ma : bit_and a 0x00 ≡ a / 256 * 256 = masked_by a 8 0x00 (omega arith) refl small_a in
    ((λ h. let e : x / 256 ≡ a / 256 = omega arith in mx ∙ (ap (λ q. q * 256) e ∙ sym ma)), (λ h. refl))

partial_1 : (x a : ℕ) (tail : List ℕ) → x < 256 → a < 256 → (begins (beginnings x ++ tail) (take 1 (beginnings a)) ≡ true) ↔ (bit_and x 0x80 ≡ bit_and a 0x80)
partial_1 x a tail small_x small_a =
    let mx : bit_and x 0x80 ≡ x / 128 * 128 = masked_by x 7 0x80 (omega arith) refl small_x in
    let ma : bit_and a 0x80 ≡ a / 128 * 128 = masked_by a 7 0x80 (omega arith) refl small_a in (
      (λ h. let e : x / 128 ≡ a / 128 = grind (arith, nat_tests) in mx ∙ (ap (λ q. q * 128) e ∙ sym ma)),
      (λ h. let e : x / 128 ≡ a / 128 = omega arith in grind (arith, nat_tests)),
    )

partial_2 : (x a : ℕ) (tail : List ℕ) → x < 256 → a < 256 → (begins (beginnings x ++ tail) (take 2 (beginnings a)) ≡ true) ↔ (bit_and x 0xC0 ≡ bit_and a 0xC0)
partial_2 x a tail small_x small_a =
    let mx : bit_and x 0xC0 ≡ x / 64 * 64 = masked_by x 6 0xC0 (omega arith) refl small_x in
    let ma : bit_and a 0xC0 ≡ a / 64 * 64 = masked_by a 6 0xC0 (omega arith) refl small_a in (
      (λ h. let e : x / 64 ≡ a / 64 = grind (arith, nat_tests) in mx ∙ (ap (λ q. q * 64) e ∙ sym ma)),
      (λ h. let e : x / 64 ≡ a / 64 = omega arith in let e7 : x / 128 ≡ a / 128 = omega arith in grind (arith, nat_tests)),
    )

partial_3 : (x a : ℕ) (tail : List ℕ) → x < 256 → a < 256 → (begins (beginnings x ++ tail) (take 3 (beginnings a)) ≡ true) ↔ (bit_and x 0xE0 ≡ bit_and a 0xE0)
partial_3 x a tail small_x small_a =
    let mx : bit_and x 0xE0 ≡ x / 32 * 32 = masked_by x 5 0xE0 (omega arith) refl small_x in
    let ma : bit_and a 0xE0 ≡ a / 32 * 32 = masked_by a 5 0xE0 (omega arith) refl small_a in (
      (λ h. let e : x / 32 ≡ a / 32 = grind (arith, nat_tests) in mx ∙ (ap (λ q. q * 32) e ∙ sym ma)),
      (λ h. let e : x / 32 ≡ a / 32 = omega arith in let e6 : x / 64 ≡ a / 64 = omega arith in let e7 : x / 128 ≡ a / 128 = omega arith in
          grind (arith, nat_tests)),
    )

partial_4 : (x a : ℕ) (tail : List ℕ) → x < 256 → a < 256 → (begins (beginnings x ++ tail) (take 4 (beginnings a)) ≡ true) ↔ (bit_and x 0xF0 ≡ bit_and a 0xF0)
partial_4 x a tail small_x small_a =
    let mx : bit_and x 0xF0 ≡ x / 16 * 16 = masked_by x 4 0xF0 (omega arith) refl small_x in
    let ma : bit_and a 0xF0 ≡ a / 16 * 16 = masked_by a 4 0xF0 (omega arith) refl small_a in (
      (λ h. let e : x / 16 ≡ a / 16 = grind (arith, nat_tests) in mx ∙ (ap (λ q. q * 16) e ∙ sym ma)),
      (λ h. let e : x / 16 ≡ a / 16 = omega arith in let e5 : x / 32 ≡ a / 32 = omega arith in let e6 : x / 64 ≡ a / 64 = omega arith in
          let e7 : x / 128 ≡ a / 128 = omega arith in grind (arith, nat_tests)),
    )

partial_5 : (x a : ℕ) (tail : List ℕ) → x < 256 → a < 256 → (begins (beginnings x ++ tail) (take 5 (beginnings a)) ≡ true) ↔ (bit_and x 0xF8 ≡ bit_and a 0xF8)
partial_5 x a tail small_x small_a =
    let mx : bit_and x 0xF8 ≡ x / 8 * 8 = masked_by x 3 0xF8 (omega arith) refl small_x in
    let ma : bit_and a 0xF8 ≡ a / 8 * 8 = masked_by a 3 0xF8 (omega arith) refl small_a in (
      (λ h. let e : x / 8 ≡ a / 8 = grind (arith, nat_tests) in mx ∙ (ap (λ q. q * 8) e ∙ sym ma)),
      (λ h. let e : x / 8 ≡ a / 8 = omega arith in let e4 : x / 16 ≡ a / 16 = omega arith in let e5 : x / 32 ≡ a / 32 = omega arith in
          let e6 : x / 64 ≡ a / 64 = omega arith in let e7 : x / 128 ≡ a / 128 = omega arith in grind (arith, nat_tests)),
    )

partial_6 : (x a : ℕ) (tail : List ℕ) → x < 256 → a < 256 → (begins (beginnings x ++ tail) (take 6 (beginnings a)) ≡ true) ↔ (bit_and x 0xFC ≡ bit_and a 0xFC)
partial_6 x a tail small_x small_a =
    let mx : bit_and x 0xFC ≡ x / 4 * 4 = masked_by x 2 0xFC (omega arith) refl small_x in
    let ma : bit_and a 0xFC ≡ a / 4 * 4 = masked_by a 2 0xFC (omega arith) refl small_a in (
      (λ h. let e : x / 4 ≡ a / 4 = grind (arith, nat_tests) in mx ∙ (ap (λ q. q * 4) e ∙ sym ma)),
      (λ h. let e : x / 4 ≡ a / 4 = omega arith in let e3 : x / 8 ≡ a / 8 = omega arith in let e4 : x / 16 ≡ a / 16 = omega arith in
          let e5 : x / 32 ≡ a / 32 = omega arith in let e6 : x / 64 ≡ a / 64 = omega arith in let e7 : x / 128 ≡ a / 128 = omega arith in
          grind (arith, nat_tests)),
    )

partial_7 : (x a : ℕ) (tail : List ℕ) → x < 256 → a < 256 → (begins (beginnings x ++ tail) (take 7 (beginnings a)) ≡ true) ↔ (bit_and x 0xFE ≡ bit_and a 0xFE)
partial_7 x a tail small_x small_a =
    let mx : bit_and x 0xFE ≡ x / 2 * 2 = masked_by x 1 0xFE (omega arith) refl small_x in
    let ma : bit_and a 0xFE ≡ a / 2 * 2 = masked_by a 1 0xFE (omega arith) refl small_a in (
      (λ h. let e : x / 2 ≡ a / 2 = grind (arith, nat_tests) in mx ∙ (ap (λ q. q * 2) e ∙ sym ma)),
      (λ h. let e : x / 2 ≡ a / 2 = omega arith in let e2 : x / 4 ≡ a / 4 = omega arith in let e3 : x / 8 ≡ a / 8 = omega arith in
          let e4 : x / 16 ≡ a / 16 = omega arith in let e5 : x / 32 ≡ a / 32 = omega arith in let e6 : x / 64 ≡ a / 64 = omega arith in
          let e7 : x / 128 ≡ a / 128 = omega arith in grind (arith, nat_tests)),
    )

-- eight ones compare the whole octet, and then what follows
whole : (x a : ℕ) (tail rest : List ℕ) → x < 256 → a < 256 →
    (begins (beginnings x ++ tail) (beginnings a ++ rest) ≡ true) ↔ ((bit_and x 0xFF ≡ bit_and a 0xFF) × (begins tail rest ≡ true))
whole x a tail rest small_x small_a =
    let mx : bit_and x 0xFF ≡ x = and_mask x 8 ∙ (let e : x % 256 ≡ x = omega arith in e) in
    let ma : bit_and a 0xFF ≡ a = and_mask a 8 ∙ (let e : a % 256 ≡ a = omega arith in e) in (
      (λ h. let e : x ≡ a = grind (arith, nat_tests) in let more : begins tail rest ≡ true = grind (arith, nat_tests) in (mx ∙ (e ∙ sym ma), more)),
      (λ h. let e : x ≡ a = sym mx ∙ (h.0 ∙ ma) in
          ap (λ y. begins (beginnings y ++ tail) (beginnings a ++ rest)) e ∙ (same_front a tail rest ∙ h.1)),
    )
  where
    same_front : (a : ℕ) (tail rest : List ℕ) → begins (beginnings a ++ tail) (beginnings a ++ rest) ≡ begins tail rest
    same_front a tail rest = grind (arith, nat_tests)

-- the same of any numbers
low_same : (x a m : ℕ) → bit_and 255 m ≡ m → (bit_and (x % 256) m ≡ bit_and (a % 256) m) ↔ (bit_and x m ≡ bit_and a m)
low_same x a m is =
    let mx = masked_low x m is in
    let ma = masked_low a m is in
    ((λ e. mx ∙ (e ∙ sym ma)), (λ e. sym mx ∙ (e ∙ ma)))

iff_trans : {P Q R : Type 0} → P ↔ Q → Q ↔ R → P ↔ R
iff_trans f g = ((λ p. g.0 (f.0 p)), (λ r. f.1 (g.1 r)))

whole_low : (x a : ℕ) (tail rest : List ℕ) → (begins (octet_symbols x ++ tail) (octet_symbols a ++ rest) ≡ true) ↔ ((bit_and x 0xFF ≡ bit_and a 0xFF) ×
    (begins tail rest ≡ true))
whole_low x a tail rest =
    let low = low_same x a 0xFF refl in
    let here = whole (x % 256) (a % 256) tail rest (omega arith) (omega arith) in
    ((λ h. let both = here.0 h in (low.0 both.0, both.1)), (λ h. here.1 (low.1 h.0, h.1)))

-- what is said of octets that masks compare
abbrev AnswersAt : ℕ → ℕ → List ℕ → ℕ → Type 0
AnswersAt x a tail m = (begins (octet_symbols x ++ tail) (take (ones m) (octet_symbols a) ++ []) ≡ true) ↔ (bit_and x m ≡ bit_and a m)

-- an octet with a zero behind its ones
partial_low : (x a : ℕ) (tail : List ℕ) (m : ℕ) → is_partial m ≡ true → AnswersAt x a tail m
partial_low x a tail m is = by_0 is
  where
    is_it : (own : ℕ) → AnswersAt x a tail own → (m == own) ≡ true → AnswersAt x a tail m
    is_it own answers t = subst (AnswersAt x a tail) (sym (eqb-true m own t)) answers

    by_8 : list_any (λ p. m == p) ([]) ≡ true → AnswersAt x a tail m
    by_8 h = absurd (cc)

    by_7 : list_any (λ p. m == p) (0xFE ∷ []) ≡ true → AnswersAt x a tail m
    by_7 h = elim (or_cases (m == 0xFE) (list_any (λ p. m == p) ([])) h) [
      | inl t ↦ is_it 0xFE (iff_trans (partial_7 (x % 256) (a % 256) tail (omega arith) (omega arith)) (low_same x a 0xFE refl)) t
      | inr more ↦ by_8 more
    ]

    by_6 : list_any (λ p. m == p) (0xFC ∷ 0xFE ∷ []) ≡ true → AnswersAt x a tail m
    by_6 h = elim (or_cases (m == 0xFC) (list_any (λ p. m == p) (0xFE ∷ [])) h) [
      | inl t ↦ is_it 0xFC (iff_trans (partial_6 (x % 256) (a % 256) tail (omega arith) (omega arith)) (low_same x a 0xFC refl)) t
      | inr more ↦ by_7 more
    ]

    by_5 : list_any (λ p. m == p) (0xF8 ∷ 0xFC ∷ 0xFE ∷ []) ≡ true → AnswersAt x a tail m
    by_5 h = elim (or_cases (m == 0xF8) (list_any (λ p. m == p) (0xFC ∷ 0xFE ∷ [])) h) [
      | inl t ↦ is_it 0xF8 (iff_trans (partial_5 (x % 256) (a % 256) tail (omega arith) (omega arith)) (low_same x a 0xF8 refl)) t
      | inr more ↦ by_6 more
    ]

    by_4 : list_any (λ p. m == p) (0xF0 ∷ 0xF8 ∷ 0xFC ∷ 0xFE ∷ []) ≡ true → AnswersAt x a tail m
    by_4 h = elim (or_cases (m == 0xF0) (list_any (λ p. m == p) (0xF8 ∷ 0xFC ∷ 0xFE ∷ [])) h) [
      | inl t ↦ is_it 0xF0 (iff_trans (partial_4 (x % 256) (a % 256) tail (omega arith) (omega arith)) (low_same x a 0xF0 refl)) t
      | inr more ↦ by_5 more
    ]

    by_3 : list_any (λ p. m == p) (0xE0 ∷ 0xF0 ∷ 0xF8 ∷ 0xFC ∷ 0xFE ∷ []) ≡ true → AnswersAt x a tail m
    by_3 h = elim (or_cases (m == 0xE0) (list_any (λ p. m == p) (0xF0 ∷ 0xF8 ∷ 0xFC ∷ 0xFE ∷ [])) h) [
      | inl t ↦ is_it 0xE0 (iff_trans (partial_3 (x % 256) (a % 256) tail (omega arith) (omega arith)) (low_same x a 0xE0 refl)) t
      | inr more ↦ by_4 more
    ]

    by_2 : list_any (λ p. m == p) (0xC0 ∷ 0xE0 ∷ 0xF0 ∷ 0xF8 ∷ 0xFC ∷ 0xFE ∷ []) ≡ true → AnswersAt x a tail m
    by_2 h = elim (or_cases (m == 0xC0) (list_any (λ p. m == p) (0xE0 ∷ 0xF0 ∷ 0xF8 ∷ 0xFC ∷ 0xFE ∷ [])) h) [
      | inl t ↦ is_it 0xC0 (iff_trans (partial_2 (x % 256) (a % 256) tail (omega arith) (omega arith)) (low_same x a 0xC0 refl)) t
      | inr more ↦ by_3 more
    ]

    by_1 : list_any (λ p. m == p) (0x80 ∷ 0xC0 ∷ 0xE0 ∷ 0xF0 ∷ 0xF8 ∷ 0xFC ∷ 0xFE ∷ []) ≡ true → AnswersAt x a tail m
    by_1 h = elim (or_cases (m == 0x80) (list_any (λ p. m == p) (0xC0 ∷ 0xE0 ∷ 0xF0 ∷ 0xF8 ∷ 0xFC ∷ 0xFE ∷ [])) h) [
      | inl t ↦ is_it 0x80 (iff_trans (partial_1 (x % 256) (a % 256) tail (omega arith) (omega arith)) (low_same x a 0x80 refl)) t
      | inr more ↦ by_2 more
    ]

    by_0 : list_any (λ p. m == p) (0x00 ∷ 0x80 ∷ 0xC0 ∷ 0xE0 ∷ 0xF0 ∷ 0xF8 ∷ 0xFC ∷ 0xFE ∷ []) ≡ true → AnswersAt x a tail m
    by_0 h = elim (or_cases (m == 0x00) (list_any (λ p. m == p) (0x80 ∷ 0xC0 ∷ 0xE0 ∷ 0xF0 ∷ 0xF8 ∷ 0xFC ∷ 0xFE ∷ [])) h) [
      | inl t ↦ is_it 0x00 (iff_trans (partial_0 (x % 256) (a % 256) tail (omega arith) (omega arith)) (low_same x a 0x00 refl)) t
      | inr more ↦ by_1 more
    ]

-- ---- whole addresses

and_both : (a b : Bool) → (a && b) ≡ true → (a ≡ true) × (b ≡ true)
and_both true b h = (refl, h)
and_both false b h = absurd (cc)

and_none : (x : ℕ) → bit_and x 0 ≡ 0
and_none x = and_mask x 0 ∙ (let e : x % 1 ≡ 0 = omega arith in e)

-- a mask of zeros leaves nothing, and compares nothing
narrowed-zeros : (address mask : List ℕ) → is_zeros mask ≡ true → narrowed address mask ≡ []
narrowed-zeros [] mask h = refl
narrowed-zeros (a ∷ address) [] h = refl
narrowed-zeros (a ∷ address) (m ∷ mask) h =
    let both = and_both (m == 0) (is_zeros mask) h in
    ap (λ z. take (ones z) (octet_symbols a) ++ narrowed address mask) (eqb-true m 0 both.0) ∙ narrowed-zeros address mask both.1

zeros_same : (name address mask : List ℕ) → is_zeros mask ≡ true → IsSameMasked name address mask
zeros_same name address mask h k inside = none name address mask k (zero_at mask k h)
  where
    zero_at : (mask : List ℕ) (k : ℕ) → is_zeros mask ≡ true → slice_index mask k ≡ 0
    zero_at [] k h = refl
    zero_at (m ∷ mask) zero h = eqb-true m 0 (and_both (m == 0) (is_zeros mask) h).0
    zero_at (m ∷ mask) (suc k) h = zero_at mask k (and_both (m == 0) (is_zeros mask) h).1

    none : (name address mask : List ℕ) (k : ℕ) → slice_index mask k ≡ 0 → bit_and (slice_index name k) (slice_index mask k) ≡ bit_and (slice_index
        address k) (slice_index mask k)
    none name address mask k is =
        ap (bit_and (slice_index name k)) is ∙ (and_none (slice_index name k) ∙ sym (ap (bit_and (slice_index address k)) is
        ∙ and_none (slice_index address k)))

-- the first octets, and the others
pub IsSameMasked-cons : (x a m : ℕ) (name address mask : List ℕ) → bit_and x m ≡ bit_and a m → IsSameMasked name address mask →
    IsSameMasked (x ∷ name) (a ∷ address) (m ∷ mask)
IsSameMasked-cons x a m name address mask first others zero inside = first
IsSameMasked-cons x a m name address mask first others (suc k) inside = others k (omega arith)

pub IsSameMasked-tail : (x a m : ℕ) (name address mask : List ℕ) → IsSameMasked (x ∷ name) (a ∷ address) (m ∷ mask) →
    (bit_and x m ≡ bit_and a m) × IsSameMasked name address mask
IsSameMasked-tail x a m name address mask h = (h 0 (omega arith), (λ k inside. h (suc k) (omega arith)))

pub narrowed_answers : (name address mask : List ℕ) → length name ≡ length address → length name ≡ length mask → is_mask mask ≡ true →
    (begins (spread name) (narrowed address mask) ≡ true) ↔ IsSameMasked name address mask
narrowed_answers [] [] mask fits fits' is = ((λ h k inside. absurd (omega arith)), (λ h. refl))
narrowed_answers [] (a ∷ address) mask fits fits' is = absurd (omega arith)
narrowed_answers (x ∷ name) [] mask fits fits' is = absurd (omega arith)
narrowed_answers (x ∷ name) (a ∷ address) [] fits fits' is = absurd (omega arith)
narrowed_answers (x ∷ name) (a ∷ address) (m ∷ mask) fits fits' is = elim (eqb_tells m 0xFF) [
  | inl (test, same) ↦
      let more = narrowed_answers name address mask (omega arith) (omega arith) (sym (ap (λ b. if b then is_mask mask else (is_partial m && is_zeros
      mask)) test) ∙ is) in
      let P : ℕ → Type 0 = λ n. (begins (spread (x ∷ name)) (take (ones n) (octet_symbols a) ++ narrowed address mask) ≡ true) ↔ IsSameMasked (x ∷
      name) (a ∷ address) (n ∷ mask) in
      let here = whole_low x a (spread name) (narrowed address mask) in
      let at_ones : P 0xFF = (
        (λ h. let both = here.0 h in IsSameMasked-cons x a 0xFF name address mask both.0 (more.0 both.1)),
        (λ h. let both = IsSameMasked-tail x a 0xFF name address mask h in here.1 (both.0, more.1 both.1)),
      ) in
      subst P (sym same) at_ones
  | inr (test, other) ↦
      let rest = and_both (is_partial m) (is_zeros mask) (sym (ap (λ b. if b then is_mask mask else (is_partial m && is_zeros mask)) test) ∙ is) in
      let here = partial_low x a (spread name) m rest.0 in
      let none = narrowed-zeros address mask rest.1 in (
        (λ h. IsSameMasked-cons x a m name address mask
            (here.0 (sym (ap (λ l. begins (spread (x ∷ name)) (take (ones m) (octet_symbols a) ++ l)) none) ∙ h)) (zeros_same name address mask rest.1)),
        (λ h. ap (λ l. begins (spread (x ∷ name)) (take (ones m) (octet_symbols a) ++ l)) none ∙ here.1 (IsSameMasked-tail x a m name address mask h).0),
      )
]

-- ---- subtrees

head_of : (x p : ℕ) (xs ps : List ℕ) → begins (x ∷ xs) (p ∷ ps) ≡ true → (x ≡ p) × (begins xs ps ≡ true)
head_of x p xs ps h = grind (arith, nat_tests)

head_begins : (x p : ℕ) (xs ps : List ℕ) → x ≡ p → begins xs ps ≡ true → begins (x ∷ xs) (p ∷ ps) ≡ true
head_begins x p xs ps e h = grind (arith, nat_tests)

none_begins : (key p : List ℕ) (x : ℕ) → key ≡ [] → begins key (x ∷ p) ≡ true → ⊥
none_begins key p x is h = let e : false ≡ true = sym (ap (λ k. begins k (x ∷ p)) is) ∙ h in cc

address_at : (n : ℕ) (name subtree : List ℕ) → ((n == 4) || (n == 16)) ≡ true → length subtree ≡ n + n → is_mask (drop n subtree) ≡ true →
    is_address_subtree subtree ≡ true →
    (begins (address_key name) (address_prefix (length subtree / 2) subtree) ≡ true) ↔ IsWithinAddress name subtree
address_at n name subtree kind fits mask sub = ((λ h. forth (is_address name) refl h), back)
  where
    half : length subtree / 2 ≡ n
    half = omega arith

    address_len : length (take n subtree) ≡ n
    address_len = length-take-le n subtree (omega arith)

    mask_len : length (drop n subtree) ≡ n
    mask_len = omega (arith, length-drop n subtree)

    At : ℕ → Type 0
    At m = IsSameMasked name (take m subtree) (drop m subtree)

    forth : (b : Bool) → is_address name ≡ b → begins (address_key name) (address_prefix (length subtree / 2) subtree) ≡ true → IsWithinAddress name subtree
    forth false is h = absurd (none_begins (address_key name) _ _ (ap (λ b. if b then length name ∷ spread name else []) is) h)
    forth true is h =
        let both = head_of (length name) (length subtree / 2) (spread name) (narrowed (take (length subtree / 2) subtree) (drop (length subtree / 2) subtree))
        (sym (ap (λ b. begins (if b then length name ∷ spread name else []) (address_prefix (length subtree / 2) subtree)) is) ∙ h) in
        let same : length name ≡ n = both.0 ∙ half in
        let begun : begins (spread name) (narrowed (take n subtree) (drop n subtree)) ≡ true =
        sym (ap (λ m. begins (spread name) (narrowed (take m subtree) (drop m subtree))) half) ∙ both.1 in
        let masked = (narrowed_answers name (take n subtree) (drop n subtree) (same ∙ sym address_len) (same ∙ sym mask_len) mask).0 begun in
        (sub, omega arith, subst (λ m. IsSameMasked name (take m subtree) (drop m subtree)) (sym same) masked)

    back : IsWithinAddress name subtree → begins (address_key name) (address_prefix (length subtree / 2) subtree) ≡ true
    back (sub', lens, masked) =
        let same : length name ≡ n = omega arith in
        let is : is_address name ≡ true = ap (λ m. (m == 4) || (m == 16)) same ∙ kind in
        let begun = (narrowed_answers name (take n subtree) (drop n subtree) (same ∙ sym address_len) (same ∙ sym mask_len) mask).1
        (subst (λ m. IsSameMasked name (take m subtree) (drop m subtree)) same masked) in
        ap (λ b. begins (if b then length name ∷ spread name else []) (address_prefix (length subtree / 2) subtree)) is
        ∙ head_begins (length name) (length subtree / 2) (spread name) (narrowed (take (length subtree / 2) subtree) (drop (length subtree / 2)
        subtree)) (same ∙ sym half)
        (ap (λ m. begins (spread name) (narrowed (take m subtree) (drop m subtree))) half ∙ begun)

pub address_answers : (name subtree : List ℕ) → (has_prefix (address_prefixes subtree) (address_key name) ≡ true) ↔ IsWithinAddress name subtree
address_answers name subtree = by_kind (is_address_subtree subtree) refl
  where
    by_kind : (b : Bool) → is_address_subtree subtree ≡ b → (has_prefix (address_prefixes subtree) (address_key name) ≡ true) ↔ IsWithinAddress name subtree
    by_kind false is = (
      (λ h. let e : false ≡ true = sym (ap (λ b. has_prefix (if b then address_prefix (length subtree / 2) subtree ∷ [] else []) (address_key name))
          is) ∙ h in absurd (cc)),
      (λ within. let e : false ≡ true = sym is ∙ within.0 in absurd (cc)),
    )
    by_kind true is =
        let P : List (List ℕ) → Type 0 = λ prefixes. (has_prefix prefixes (address_key name) ≡ true) ↔ IsWithinAddress name subtree in
        let four : (length subtree == 8) && is_mask (drop 4 subtree) ≡ true → (begins (address_key name) (address_prefix (length subtree / 2) subtree)
        ≡ true) ↔ IsWithinAddress name subtree =
        λ h. (let both = and_both (length subtree == 8) (is_mask (drop 4 subtree)) h in
        address_at 4 name subtree refl (eqb-true (length subtree) 8 both.0) both.1 is) in
        let sixteen : (length subtree == 32) && is_mask (drop 16 subtree) ≡ true →
        (begins (address_key name) (address_prefix (length subtree / 2) subtree) ≡ true) ↔ IsWithinAddress name subtree =
        λ h. (let both = and_both (length subtree == 32) (is_mask (drop 16 subtree)) h in
        address_at 16 name subtree refl (eqb-true (length subtree) 32 both.0) both.1 is) in
        subst P (sym (ap (λ b. if b then address_prefix (length subtree / 2) subtree ∷ [] else []) is))
        (has_prefix-one (address_key name) (address_prefix (length subtree / 2) subtree) (IsWithinAddress name subtree)
        (elim (or_cases ((length subtree == 8) && is_mask (drop 4 subtree)) ((length subtree == 32) && is_mask (drop 16 subtree)) is) [
          | inl h ↦ four h
          | inr h ↦ sixteen h
        ]))

-- ---- one more octet, for the loops

pub narrowed-more : (address mask : List ℕ) (i : ℕ) → i < length address → length address ≡ length mask →
    narrowed (take (i + 1) address) (take (i + 1) mask) ≡ narrowed (take i address) (take i mask) ++ take (ones (get_or mask i 0)) (octet_symbols
    (get_or address i 0))
narrowed-more [] mask i inside fits = absurd (omega arith)
narrowed-more (a ∷ address) [] i inside fits = absurd (omega arith)
narrowed-more (a ∷ address) (m ∷ mask) zero inside fits = append-nil (take (ones m) (octet_symbols a))
narrowed-more (a ∷ address) (m ∷ mask) (suc i) inside fits =
    let step : suc i + 1 ≡ suc (i + 1) = omega arith in
    ap (λ n. narrowed (take n (a ∷ address)) (take n (m ∷ mask))) step
    ∙ (ap (λ l. take (ones m) (octet_symbols a) ++ l) (narrowed-more address mask i (omega arith) (omega arith))
    ∙ sym (append_assoc (take (ones m) (octet_symbols a)) (narrowed (take i address) (take i mask)) (take (ones (get_or mask i 0)) (octet_symbols
    (get_or address i 0)))))

pub octet_symbols-small : (octet : ℕ) → octet < 256 → octet_symbols octet ≡ beginnings octet
octet_symbols-small octet small = let e : octet % 256 ≡ octet = omega arith in ap beginnings e

pub narrowed_step : (start key address mask : List ℕ) (i count : ℕ) → i < length address → length address ≡ length mask →
    key ≡ start ++ narrowed (take i address) (take i mask) →
    count ≡ ones (get_or mask i 0) → key ++ take count (octet_symbols (get_or address i 0)) ≡ start ++ narrowed (take (i + 1) address) (take (i + 1) mask)
narrowed_step start key address mask i count inside fits is counted =
    ap (λ l. l ++ take count (octet_symbols (get_or address i 0))) is
    ∙ (append_assoc start (narrowed (take i address) (take i mask)) (take count (octet_symbols (get_or address i 0)))
    ∙ ap (λ l. start ++ l) (ap (λ n. narrowed (take i address) (take i mask) ++ take n (octet_symbols (get_or address i 0))) counted
    ∙ sym (narrowed-more address mask i inside fits)))
