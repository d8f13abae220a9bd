-- Subidentifiers and the octets that stand for them.
use Rattle.std.proofs.Common.{◌≡◌, ℕ, zero, suc, ◌+◌, ◌-◌, ◌*◌, ◌/◌, ◌%◌, ◌<◌, ◌≤◌, Bool, true, false, List, [], ◌∷◌, ◌++◌, length, take, get_or, refl, sym, ap, ◌∙◌, arith, append_assoc, ⊎_elim}
use Rattle.std.specs.Prelude.{nat_eq, nat_lt, ◌&&◌, not}
use Rattle.std.specs.Int.Digits.{digits_of, AllBelowBase, number_from_digits_after}
use Rattle.std.specs.List.{flat_map}
use Rattle.std.proofs.lemmas.Bool.{cases_lt, and_parts, ltb-true, lt-ltb, le-ltb, eqb-true, eq-eqb, ne_eqb}
use Rattle.std.proofs.lemmas.Bool.Decides.{nat_tests}
use Rattle.std.proofs.lemmas.Int.Digits.{digits_of_step, length-digits_of_step, all_below_base_digits_of, first_digits_of, number_digits_of, number_after_ge}
use Rattle.std.proofs.lemmas.List.{map_push, length-append, length-map}
use Rattle.x509_der.specs.Arcs.{high_octets, subidentifier, subidentifier_limit, AreSmall}
use Rattle.x509_der.specs.ObjectIdentifier.{high_end, are_subidentifiers, subidentifiers_in}

-- the last digit of a number is the last of its octets
pub high_octets_step : (n : ℕ) → 0 < n → high_octets (digits_of 128 n) ≡ high_octets (digits_of 128 (n / 128)) ++ (128 + n % 128) ∷ []
high_octets_step n some =
    ap high_octets (digits_of_step 128 n (omega arith) some)
    ∙ map_push (λ digit. 128 + digit) (digits_of 128 (n / 128)) (n % 128)

-- one more digit is one more octet
pub high_octets_push : (h d : ℕ) → d < 128 → 0 < 128 * h + d → high_octets (digits_of 128 (128 * h + d)) ≡ high_octets (digits_of 128 h) ++ (128 + d) ∷ []
high_octets_push h d small some =
    let front : (128 * h + d) / 128 ≡ h = omega arith in
    let end : (128 * h + d) % 128 ≡ d = omega arith in
    high_octets_step (128 * h + d) some ∙ (λ i. high_octets (digits_of 128 (front i)) ++ (128 + end i) ∷ [])

-- a subidentifier by its last digit and the digits before
pub subidentifier_from : (h d : ℕ) → d < 128 → subidentifier (128 * h + d) ≡ high_octets (digits_of 128 h) ++ d ∷ []
unfolding subidentifier
subidentifier_from h d small =
    let front : (128 * h + d) / 128 ≡ h = omega arith in
    let end : (128 * h + d) % 128 ≡ d = omega arith in
    λ i. high_octets (digits_of 128 (front i)) ++ end i ∷ []

-- what the test says of one octet more
last_octet : (high b : ℕ) (fresh : Bool) (bs : List ℕ) → b < 128 → are_subidentifiers high fresh (b ∷ bs) ≡ true → (high < high_end) × (are_subidentifiers 0 true bs ≡ true)
last_octet high b fresh bs low h =
    let p = and_parts (nat_lt high high_end) (are_subidentifiers 0 true bs) (rw (lt-ltb b 128 low) at h) in
    (ltb-true high high_end p.0, p.1)

-- where a subidentifier begins, the test lets no octet 128 through
not_padding : (b : ℕ) (fresh : Bool) → fresh ≡ true → not (fresh && nat_eq b 128) ≡ true → b ≡ 128 → ⊥
not_padding b fresh f h e = let g : not (fresh && nat_eq b 128) ≡ true = h in absurd (let k : not (true && true) ≡ true = rw (f, eq-eqb b 128 e) at g in cc)

-- what the test says of an octet that others of its subidentifier follow
pub record HighOctet (high b : ℕ) (fresh : Bool) (bs : List ℕ) : Type 0 where
  pub small : high < high_end
  pub octet : b < 256
  pub lead : fresh ≡ true → b ≡ 128 → ⊥
  pub rest : are_subidentifiers (128 * high + (b - 128)) false bs ≡ true

high_octet : (high b : ℕ) (fresh : Bool) (bs : List ℕ) → 128 ≤ b → are_subidentifiers high fresh (b ∷ bs) ≡ true → HighOctet high b fresh bs
high_octet high b fresh bs up h =
    let p = and_parts (not (fresh && nat_eq b 128)) (nat_lt high high_end && (nat_lt b 256 && are_subidentifiers (128 * high + (b - 128)) false bs)) (rw (le-ltb b 128 up) at h) in
    let q = and_parts (nat_lt high high_end) (nat_lt b 256 && are_subidentifiers (128 * high + (b - 128)) false bs) p.1 in
    let r = and_parts (nat_lt b 256) (are_subidentifiers (128 * high + (b - 128)) false bs) q.1 in
    record { small = ltb-true high high_end q.0; octet = ltb-true b 256 r.0; lead = λ f e. not_padding b fresh f p.0 e; rest = r.1 }

-- what passes the test is made of the subidentifiers in it
pub made_of_subidentifiers : (high : ℕ) (fresh : Bool) (bs : List ℕ) → fresh ≡ nat_eq high 0 → are_subidentifiers high fresh bs ≡ true → high_octets (digits_of 128 high) ++ bs ≡ flat_map subidentifier (subidentifiers_in high bs)
made_of_subidentifiers high fresh [] f h =
    let none : high ≡ 0 = eqb-true high 0 (sym f ∙ h) in
    rw none refl
made_of_subidentifiers high fresh (b ∷ bs) f h = ⊎_elim
    (λ (low : b < 128).
    let p = last_octet high b fresh bs low h in
    let rest = made_of_subidentifiers 0 true bs refl p.1 in
    rw (lt-ltb b 128 low) (sym (append_assoc (high_octets (digits_of 128 high)) (b ∷ []) bs) ∙ (λ i. sym (subidentifier_from high b low) i ++ rest i)))
    (λ (up : 128 ≤ b).
    let p = high_octet high b fresh bs up h in
    let lead : high ≡ 0 → b ≡ 128 → ⊥ = λ e. p.lead (f ∙ eq-eqb high 0 e) in
    let some : 0 < 128 * high + (b - 128) = grind arith in
    let more : false ≡ nat_eq (128 * high + (b - 128)) 0 = sym (ne_eqb _ 0 (λ e. omega arith)) in
    let rest = made_of_subidentifiers (128 * high + (b - 128)) false bs more p.rest in
    let octet : 128 + (b - 128) ≡ b = omega arith in
    let this : high_octets (digits_of 128 (128 * high + (b - 128))) ≡ high_octets (digits_of 128 high) ++ b ∷ [] =
    high_octets_push high (b - 128) (let o = p.octet in omega arith) some ∙ ap (λ x. high_octets (digits_of 128 high) ++ x ∷ []) octet in
    rw (le-ltb b 128 up) (sym (append_assoc (high_octets (digits_of 128 high)) (b ∷ []) bs) ∙ ap (λ x. x ++ bs) (sym this) ∙ rest))
    (cases_lt b 128)

-- none is above the limit
pub small_subidentifiers : (high : ℕ) (fresh : Bool) (bs : List ℕ) → are_subidentifiers high fresh bs ≡ true → AreSmall (subidentifiers_in high bs)
small_subidentifiers high fresh [] h = tt
small_subidentifiers high fresh (b ∷ bs) h = ⊎_elim
    (λ (low : b < 128).
    let p = last_octet high b fresh bs low h in
    rw (lt-ltb b 128 low) (omega arith, small_subidentifiers 0 true bs p.1))
    (λ (up : 128 ≤ b).
    rw (le-ltb b 128 up) (small_subidentifiers (128 * high + (b - 128)) false bs (high_octet high b fresh bs up h).rest))
    (cases_lt b 128)

-- the digits of a number, read again
in_digits : (high : ℕ) (digits rest : List ℕ) → AllBelowBase 128 digits → subidentifiers_in high (high_octets digits ++ rest) ≡ subidentifiers_in (number_from_digits_after 128 high digits) rest
in_digits high [] rest h = refl
in_digits high (d ∷ ds) rest h =
    let digit : 128 * high + (128 + d - 128) ≡ high * 128 + d = omega arith in
    rw (le-ltb (128 + d) 128 (omega arith)) (ap (λ m. subidentifiers_in m (high_octets ds ++ rest)) digit ∙ in_digits (high * 128 + d) ds rest h.1)

-- the digits before the last say the number without its last digit
number_read : (n : ℕ) → number_from_digits_after 128 0 (digits_of 128 (n / 128)) ≡ n / 128
number_read n = number_digits_of 128 (n / 128) (omega arith)

-- a subidentifier is read again, whatever follows it
pub in_subidentifier : (n : ℕ) (rest : List ℕ) → subidentifiers_in 0 (subidentifier n ++ rest) ≡ n ∷ subidentifiers_in 0 rest
unfolding subidentifier
in_subidentifier n rest =
    let last : nat_lt (n % 128) 128 ≡ true = lt-ltb (n % 128) 128 (omega arith) in
    let all : 128 * (n / 128) + n % 128 ≡ n = omega arith in
    ap (subidentifiers_in 0) (append_assoc (high_octets (digits_of 128 (n / 128))) ((n % 128) ∷ []) rest)
    ∙ in_digits 0 (digits_of 128 (n / 128)) ((n % 128) ∷ rest) (all_below_base_digits_of 128 (n / 128) (omega arith))
    ∙ ap (λ m. subidentifiers_in m ((n % 128) ∷ rest)) (number_read n)
    ∙ rw last (ap (λ m. m ∷ subidentifiers_in 0 rest) all)

-- the subidentifiers in octets made of subidentifiers are those
pub in_subidentifiers : (ns : List ℕ) → subidentifiers_in 0 (flat_map subidentifier ns) ≡ ns
in_subidentifiers [] = refl
in_subidentifiers (n ∷ ns) = in_subidentifier n (flat_map subidentifier ns) ∙ ap (λ xs. n ∷ xs) (in_subidentifiers ns)

-- The digits of a number pass the test, whose first is not 0.
digits_pass : (high : ℕ) (digits rest : List ℕ) → AllBelowBase 128 digits → number_from_digits_after 128 high digits < high_end → (high ≡ 0 → 0 < length digits → 0 < get_or digits 0 0)
    → are_subidentifiers high (nat_eq high 0) (high_octets digits ++ rest) ≡ are_subidentifiers (number_from_digits_after 128 high digits) (nat_eq (number_from_digits_after 128 high digits) 0) rest
digits_pass high [] rest h small lead = refl
digits_pass high (d ∷ ds) rest h small lead =
    let some : high ≡ 0 → 0 < d = λ e. lead e (omega arith) in
    let next : 0 < high * 128 + d = grind arith in
    let grows : high * 128 + d ≤ number_from_digits_after 128 (high * 128 + d) ds = number_after_ge 128 (high * 128 + d) ds (omega arith) in
    let digit : 128 * high + (128 + d - 128) ≡ high * 128 + d = omega arith in
    let octet : d < 128 = h.0 in
    let starts : not (nat_eq high 0 && nat_eq (128 + d) 128) ≡ true = grind (arith, nat_tests) in
    let lower : nat_lt high high_end ≡ true = lt-ltb high high_end (omega arith) in
    let byte : nat_lt (128 + d) 256 ≡ true = lt-ltb (128 + d) 256 (omega arith) in
    let fresh : false ≡ nat_eq (high * 128 + d) 0 = sym (ne_eqb _ 0 (λ e. omega arith)) in
    rw (le-ltb (128 + d) 128 (omega arith), starts, lower, byte)
    ((λ i. are_subidentifiers (digit i) (fresh i) (high_octets ds ++ rest)) ∙ digits_pass (high * 128 + d) ds rest h.1 small (λ e. absurd (omega arith)))

-- the first digit of a number is not 0
first_digit : (n : ℕ) → 0 < length (digits_of 128 n) → 0 < get_or (digits_of 128 n) 0 0
first_digit zero some = absurd (omega arith)
first_digit (suc n) some = first_digits_of 128 (suc n) (omega arith) (omega arith)

-- a subidentifier within the limit passes the test, whatever follows it
pub subidentifier_passes : (n : ℕ) (rest : List ℕ) → n ≤ subidentifier_limit → are_subidentifiers 0 true (subidentifier n ++ rest) ≡ are_subidentifiers 0 true rest
unfolding subidentifier
subidentifier_passes n rest small =
    let last : nat_lt (n % 128) 128 ≡ true = lt-ltb (n % 128) 128 (omega arith) in
    let read = number_read n in
    let lower : nat_lt (n / 128) high_end ≡ true = lt-ltb (n / 128) high_end (omega arith) in
    ap (are_subidentifiers 0 true) (append_assoc (high_octets (digits_of 128 (n / 128))) ((n % 128) ∷ []) rest)
    ∙ digits_pass 0 (digits_of 128 (n / 128)) ((n % 128) ∷ rest) (all_below_base_digits_of 128 (n / 128) (omega arith)) (omega arith) (λ z some. first_digit (n / 128) some)
    ∙ (λ i. are_subidentifiers (read i) (nat_eq (read i) 0) ((n % 128) ∷ rest))
    ∙ rw (last, lower) refl

-- octets made of subidentifiers within the limit pass the test
pub subidentifiers_pass : (ns : List ℕ) → AreSmall ns → are_subidentifiers 0 true (flat_map subidentifier ns) ≡ true
subidentifiers_pass [] h = refl
subidentifiers_pass (n ∷ ns) h = subidentifier_passes n (flat_map subidentifier ns) h.0 ∙ subidentifiers_pass ns h.1

-- what putting digits at the end leaves, and when there is no room
pub high_pushed : (old front : List ℕ) (n : ℕ) → 0 < n → front ≡ old ++ high_octets (digits_of 128 (n / 128)) → front ++ (128 + n % 128) ∷ [] ≡ old ++ high_octets (digits_of 128 n)
high_pushed old front n some e = ap (λ xs. xs ++ (128 + n % 128) ∷ []) e ∙ append_assoc old (high_octets (digits_of 128 (n / 128))) ((128 + n % 128) ∷ []) ∙ ap (λ xs. old ++ xs) (sym (high_octets_step n some))

-- how many octets one more digit makes
pub length-high_pushed : (n : ℕ) → 0 < n → length (digits_of 128 n) ≡ length (digits_of 128 (n / 128)) + 1
length-high_pushed n some = length-digits_of_step 128 n (omega arith) some

pub length-high_octets : (digits : List ℕ) → length (high_octets digits) ≡ length digits
length-high_octets digits = length-map digits (λ digit. 128 + digit)

-- the last octet behind the others makes the subidentifier
pub subidentifier_pushed : (old front : List ℕ) (n : ℕ) → front ≡ old ++ high_octets (digits_of 128 (n / 128)) → front ++ (n % 128) ∷ [] ≡ old ++ subidentifier n
unfolding subidentifier
subidentifier_pushed old front n e = ap (λ xs. xs ++ (n % 128) ∷ []) e ∙ append_assoc old (high_octets (digits_of 128 (n / 128))) ((n % 128) ∷ [])

pub length-subidentifier : (n : ℕ) → length (subidentifier n) ≡ length (digits_of 128 (n / 128)) + 1
unfolding subidentifier
length-subidentifier n = omega (arith, length-append (high_octets (digits_of 128 (n / 128))) ((n % 128) ∷ []), length-high_octets (digits_of 128 (n / 128)))

-- the octets of some subidentifiers and of the one behind them are no more than those of all
pub length-front : (ns : List ℕ) (i : ℕ) → i < length ns → length (flat_map subidentifier (take i ns)) + length (subidentifier (get_or ns i 0)) ≤ length (flat_map subidentifier ns)
length-front [] i h = absurd (omega arith)
length-front (n ∷ ns) zero h = omega (arith, length-append (subidentifier n) (flat_map subidentifier ns))
length-front (n ∷ ns) (suc i) h = omega (arith, length-front ns i (omega arith), length-append (subidentifier n) (flat_map subidentifier ns), length-append (subidentifier n) (flat_map subidentifier (take i ns)))
