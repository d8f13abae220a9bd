-- A number from 0 on and its INTEGER content are one to one.
use Rattle.std.proofs.Common.{◌≡◌, ℕ, zero, suc, ◌+◌, ◌-◌, ◌*◌, ◌/◌, ◌%◌, ◌^◌, ◌<◌, ◌≤◌, Bool, true, inl, inr, List, [], ◌∷◌, ◌++◌, length, Ok, Err, refl, sym, ◌∙◌, append_assoc, arith, length-append}
use Rattle.std.specs.Prelude.{◌&&◌, not, nat_eq, nat_lt, nat_le}
use Rattle.std.proofs.lemmas.Bool.{cases_lt, and_parts, lt-ltb, le-ltb, ltb-true, leb-true, le-leb}
use Rattle.std.proofs.lemmas.Bool.Decides.{nat_tests}
use Rattle.std.proofs.lemmas.List.{append-nil}
use Rattle.x509_der.specs.declared.error.ErrorKind.{ErrorKind}
use Rattle.x509_der.specs.declared.error.ErrorKind.TheVariants.{Malformed}
use Rattle.x509_der.specs.OutcomeLaws.{ok_is, test_ok, test_err}
use Rattle.x509_der.specs.declared.tag.Tag.TheVariants.{Integer}
use Rattle.x509_der.specs.Form.{IsForm, IsContents}
use Rattle.x509_der.specs.FormLaws.{universal_lawful}
use Rattle.x509_der.specs.Natural.{digits, natural_octets, number_after, are_octets, is_shortest, is_natural, natural_reading, natural_contents, natural}

-- ---- what is read is spelled so

both : (a b : Bool) → a ≡ true → b ≡ true → (a && b) ≡ true
both a b p q = rw (p, q) refl

pub digits_small : (k n : ℕ) → n < 128 → digits k n ≡ n ∷ []
unfolding digits
digits_small zero n lt = refl
digits_small (suc k) n lt = rw (lt-ltb n 128 lt) refl

-- one more digit
digits_more : (k n b : ℕ) → b < 256 → 128 ≤ 256 * n + b → digits (suc k) (256 * n + b) ≡ digits k n ++ b ∷ []
unfolding digits
digits_more k n b lt le =
    let whole : (256 * n + b) / 256 ≡ n = omega arith in
    let rest : (256 * n + b) % 256 ≡ b = omega arith in
    rw (le-ltb (256 * n + b) 128 le, whole, rest) refl

-- what follows the digits of n so far is a digit that they can't do without
abbrev stands : ℕ → List ℕ → Type 0
stands n [] = Unit {0}
stands n (b ∷ bytes) = 128 ≤ 256 * n + b

still_stands : (m : ℕ) (bytes : List ℕ) → 128 ≤ m → stands m bytes
still_stands m [] le = tt
still_stands m (c ∷ bytes) le = omega arith

digits_number : (k n : ℕ) (bytes : List ℕ) → are_octets bytes ≡ true → stands n bytes → digits (length bytes + k) (number_after n bytes) ≡ digits k n ++ bytes
digits_number k n [] o h = let same : 0 + k ≡ k = omega arith in rw same (sym (append-nil (digits k n)))
digits_number k n (b ∷ bytes) o h =
    let p = and_parts (nat_lt b 256) (are_octets bytes) o in
    let lt : b < 256 = ltb-true b 256 p.0 in
    let count : suc (length bytes) + k ≡ length bytes + suc k = omega arith in
    rw count (digits_number (suc k) (256 * n + b) bytes p.1 (still_stands (256 * n + b) bytes h) ∙ rw (digits_more k n b lt h) (append_assoc (digits k n) (b ∷ []) bytes))

first_stands : (a : ℕ) (bytes : List ℕ) → is_shortest (a ∷ bytes) ≡ true → (a < 128) × stands a bytes
first_stands a [] h = (ltb-true a 128 h, tt)
first_stands a (b ∷ bytes) h = (ltb-true a 128 (and_parts (nat_lt a 128) (not (nat_eq a 0 && nat_lt b 128)) h).0, grind (arith, nat_tests))

octets_number : (bytes : List ℕ) → is_natural bytes ≡ true → natural_octets (number_after 0 bytes) ≡ bytes
unfolding natural_octets
octets_number [] h = absurd cc
octets_number (a ∷ bytes) h =
    let p = and_parts (are_octets (a ∷ bytes)) (is_shortest (a ∷ bytes) && nat_le (length (a ∷ bytes)) 17) h in
    let q = and_parts (is_shortest (a ∷ bytes)) (nat_le (length (a ∷ bytes)) 17) p.1 in
    let few : suc (length bytes) ≤ 17 = leb-true (length (a ∷ bytes)) 17 q.1 in
    let f = first_stands a bytes q.0 in
    let o = (and_parts (nat_lt a 256) (are_octets bytes) p.0).1 in
    let count : length bytes + (16 - length bytes) ≡ 16 = omega arith in
    let start : 256 * 0 + a ≡ a = omega arith in
    let all : digits (length bytes + (16 - length bytes)) (number_after a bytes) ≡ digits (16 - length bytes) a ++ bytes = digits_number (16 - length bytes) a bytes o f.1 in
    rw start (rw count at all ∙ rw (digits_small (16 - length bytes) a f.0) refl)

-- ---- what is spelled so is read

number_after-append : (n b : ℕ) (bytes : List ℕ) → number_after n (bytes ++ b ∷ []) ≡ 256 * number_after n bytes + b
number_after-append n b [] = refl
number_after-append n b (c ∷ bytes) = number_after-append (256 * n + c) b bytes

number_digits : (k n : ℕ) → number_after 0 (digits k n) ≡ n
unfolding digits
number_digits zero n = omega arith
number_digits (suc k) n =
    elim (cases_lt n 128) [
      | inl lt ↦ rw (lt-ltb n 128 lt) (omega arith)
      | inr le ↦ rw (le-ltb n 128 le, number_after-append 0 (n % 256) (digits k (n / 256)), number_digits k (n / 256)) (omega arith)
    ]

length_digits : (k n : ℕ) → length (digits k n) ≤ k + 1
unfolding digits
length_digits zero n = omega arith
length_digits (suc k) n =
    elim (cases_lt n 128) [
      | inl lt ↦ rw (lt-ltb n 128 lt) (omega arith)
      | inr le ↦ rw (le-ltb n 128 le) (let few = length_digits k (n / 256) in omega (arith, few, length-append (digits k (n / 256)) ((n % 256) ∷ [])))
    ]

-- k digits behind a first one below 128 are enough below this
abbrev pub bound : ℕ → ℕ
bound zero = 128
bound (suc k) = 256 * bound k

are_octets-append : (bytes : List ℕ) (b : ℕ) → are_octets bytes ≡ true → b < 256 → are_octets (bytes ++ b ∷ []) ≡ true
are_octets-append [] b o lt = both (nat_lt b 256) true (lt-ltb b 256 lt) refl
are_octets-append (c ∷ bytes) b o lt =
    let p = and_parts (nat_lt c 256) (are_octets bytes) o in
    both (nat_lt c 256) (are_octets (bytes ++ b ∷ [])) p.0 (are_octets-append bytes b p.1 lt)

are_octets-digits : (k n : ℕ) → n < bound k → are_octets (digits k n) ≡ true
unfolding digits
are_octets-digits zero n lt = both (nat_lt n 256) true (lt-ltb n 256 (omega arith)) refl
are_octets-digits (suc k) n lt =
    elim (cases_lt n 128) [
      | inl small ↦ rw (lt-ltb n 128 small) (both (nat_lt n 256) true (lt-ltb n 256 (omega arith)) refl)
      | inr le ↦ rw (le-ltb n 128 le) (are_octets-append (digits k (n / 256)) (n % 256) (are_octets-digits k (n / 256) (omega arith)) (omega arith))
    ]

is_shortest-append : (bytes : List ℕ) (b : ℕ) → is_shortest bytes ≡ true → 128 ≤ 256 * number_after 0 bytes + b → is_shortest (bytes ++ b ∷ []) ≡ true
is_shortest-append [] b h le = absurd cc
is_shortest-append (a ∷ []) b h le = grind (arith, nat_tests)
is_shortest-append (a ∷ c ∷ bytes) b h le = h

is_shortest-digits : (k n : ℕ) → n < bound k → is_shortest (digits k n) ≡ true
unfolding digits
is_shortest-digits zero n lt = lt-ltb n 128 lt
is_shortest-digits (suc k) n lt =
    elim (cases_lt n 128) [
      | inl small ↦ rw (lt-ltb n 128 small) (lt-ltb n 128 small)
      | inr le ↦ rw (le-ltb n 128 le) (is_shortest-append (digits k (n / 256)) (n % 256) (is_shortest-digits k (n / 256) (omega arith)) (rw (number_digits k (n / 256)) (omega arith)))
    ]

is_natural-octets : (n : ℕ) → n < bound 16 → is_natural (natural_octets n) ≡ true
unfolding natural_octets
is_natural-octets n lt =
    both (are_octets (digits 16 n)) _ (are_octets-digits 16 n lt)
    (both (is_shortest (digits 16 n)) _ (is_shortest-digits 16 n lt) (le-leb (length (digits 16 n)) 17 (length_digits 16 n)))

number_octets : (n : ℕ) → number_after 0 (natural_octets n) ≡ n
unfolding natural_octets
number_octets n = number_digits 16 n

within : (most : ℕ) → most ≤ 2 ^ 128 → most ≤ bound 16
within most le = omega arith

-- ---- the law

natural_sound : (most : ℕ) (bytes : List ℕ) (v : ℕ) → natural_reading most bytes ≡ Ok v → (v < most) × (bytes ≡ natural_octets v)
unfolding natural_reading
natural_sound most bytes v e =
    let t = test_ok (is_natural bytes && nat_lt (number_after 0 bytes) most) Malformed (Ok (number_after 0 bytes)) v e in
    let p = and_parts (is_natural bytes) (nat_lt (number_after 0 bytes) most) t.0 in
    let is : number_after 0 bytes ≡ v = ok_is (number_after 0 bytes) v t.1 in
    (rw (← is) (ltb-true (number_after 0 bytes) most p.1), rw (← is) (sym (octets_number bytes p.0)))

natural_complete : (most : ℕ) → most ≤ bound 16 → (v : ℕ) → v < most → natural_reading most (natural_octets v) ≡ Ok v
unfolding natural_reading
natural_complete most le v lt =
    let again : number_after 0 (natural_octets v) ≡ v = number_octets v in
    rw (is_natural-octets v (omega (arith, le, lt)), again, lt-ltb v most lt) refl

natural_refused : (most : ℕ) (bytes : List ℕ) (e : ErrorKind) → natural_reading most bytes ≡ Err e → e ≡ Malformed
unfolding natural_reading
natural_refused most bytes e h = elim (test_err (is_natural bytes && nat_lt (number_after 0 bytes) most) Malformed (Ok (number_after 0 bytes)) e h) [ inl k ↦ absurd cc | inr k ↦ sym k ]

pub natural_contents_lawful : {R : ErrorKind → Type 0} (most : ℕ) → most ≤ 2 ^ 128 → IsContents R (natural_contents most)
natural_contents_lawful most le = record { sound = natural_sound most; complete = natural_complete most (within most le); refused = λ bytes e r. inl (natural_refused most bytes e r) }

pub natural_lawful : {R : ErrorKind → Type 0} (most : ℕ) → most ≤ 2 ^ 128 → IsForm R (natural most)
natural_lawful most le = universal_lawful Integer (natural_contents most) (natural_contents_lawful most le)

-- the number types
pub u8_contents_lawful : {R : ErrorKind → Type 0} → IsContents R (natural_contents (2 ^ 8))
u8_contents_lawful = natural_contents_lawful (2 ^ 8) (omega arith)

pub u8_lawful : {R : ErrorKind → Type 0} → IsForm R (natural (2 ^ 8))
u8_lawful = natural_lawful (2 ^ 8) (omega arith)

pub u16_contents_lawful : {R : ErrorKind → Type 0} → IsContents R (natural_contents (2 ^ 16))
u16_contents_lawful = natural_contents_lawful (2 ^ 16) (omega arith)

pub u32_contents_lawful : {R : ErrorKind → Type 0} → IsContents R (natural_contents (2 ^ 32))
u32_contents_lawful = natural_contents_lawful (2 ^ 32) (omega arith)

pub u32_lawful : {R : ErrorKind → Type 0} → IsForm R (natural (2 ^ 32))
u32_lawful = natural_lawful (2 ^ 32) (omega arith)

pub u64_contents_lawful : {R : ErrorKind → Type 0} → IsContents R (natural_contents (2 ^ 64))
u64_contents_lawful = natural_contents_lawful (2 ^ 64) (omega arith)

pub u128_contents_lawful : {R : ErrorKind → Type 0} → IsContents R (natural_contents (2 ^ 128))
u128_contents_lawful = natural_contents_lawful (2 ^ 128) (omega arith)
