-- Texts of one number, as `parse` reads them.
use Rattle.std.proofs.Common.{◌≡◌, ℕ, zero, suc, ◌^◌, ◌<◌, ◌≤◌, List, length, drop, get_or, Some, Result, Ok, Err, sym, ap, ◌∙◌, arith, length-drop, ⊎_elim}
use Rattle.std.specs.Prelude.{IfSome}
use Rattle.std.specs.Result.{result_ok, OkIff}
use Rattle.std.specs.Fmt.{decimal}
use Rattle.std.specs.Str.Parse.{ParsesUnsigned, digits_value, AllDigits}
use Rattle.std.proofs.lemmas.Bool.{cases_eq, cases_lt}
use Rattle.std.proofs.lemmas.Fmt.{decimal-digits_value, parse-decimal, first_decimal, decimal_digit}
use Rattle.std.proofs.lemmas.Str.Parse.{IsNumeralModel, numerals_by_value, tells_digits, parse_plain, parse_plus}

own : IsNumeralModel (AllDigits 10) (digits_value 10)
own = numerals_by_value _ tells_digits

-- a lone sign is no number
sign_alone : {E : Type 0} (bs : List ℕ) (r : Result ℕ E) → OkIff r (AllDigits 10 (drop 1 bs) × (0 < length (drop 1 bs)) × (digits_value 10 (drop 1 bs) < 2 ^ 32)) (digits_value 10 (drop 1 bs)) → length bs ≤ 1 → IfSome (result_ok r) (λ n. bs ≡ decimal n)
sign_alone bs (Ok n) h short = absurd (omega (arith, h.0.1, length-drop 1 bs))
sign_alone bs (Err e) h short = tt

-- a text that begins with less than '1' has one octet
alone : (bs : List ℕ) → (1 < length bs → 49 ≤ get_or bs 0 0) → get_or bs 0 0 ≤ 48 → length bs ≤ 1
alone bs lead first = ⊎_elim (λ (long : 1 < length bs). absurd (omega (arith, lead long))) (λ (short : length bs ≤ 1). short) (cases_lt 1 (length bs))

plain_number : {E : Type 0} (bs : List ℕ) (r : Result ℕ E) → OkIff r (AllDigits 10 bs × (0 < length bs) × (digits_value 10 bs < 2 ^ 32)) (digits_value 10 bs) → (1 < length bs → 49 ≤ get_or bs 0 0) → IfSome (result_ok r) (λ n. bs ≡ decimal n)
plain_number bs (Ok n) h lead =
    let zero_alone : get_or bs 0 0 ≡ 48 → length bs ≡ 1 = λ e. omega (arith, h.0.1, alone bs lead (omega arith)) in
    sym (ap decimal h.1 ∙ decimal-digits_value own bs h.0.0 h.0.1 zero_alone (omega (arith, h.0.2)))
plain_number bs (Err e) h lead = tt

-- what `parse` takes, with no sign and no leading zero, is the digits of the number
pub parsed_is_decimal : {E : Type 0} (bs : List ℕ) (r : Result ℕ E) → ParsesUnsigned 32 10 bs r → (1 < length bs → 49 ≤ get_or bs 0 0) → IfSome (result_ok r) (λ n. bs ≡ decimal n)
parsed_is_decimal bs r h lead = ⊎_elim
    (λ (plus : get_or bs 0 0 ≡ 43). sign_alone bs r (parse_plus own 32 bs r h plus) (alone bs lead (omega arith)))
    (λ (plain : get_or bs 0 0 ≡ 43 → ⊥). plain_number bs r (parse_plain own 32 bs r h plain) lead)
    (cases_eq (get_or bs 0 0) 43)

-- `parse` takes the digits of a number
pub decimal_is_parsed : {E : Type 0} (bs : List ℕ) (r : Result ℕ E) (n : ℕ) → ParsesUnsigned 32 10 bs r → n < 2 ^ 32 → bs ≡ decimal n → result_ok r ≡ Some n
decimal_is_parsed bs r n h small is = ap result_ok (parse-decimal 32 n bs r small (omega arith) is h)

-- the digits of a number have no sign and no leading zero
pub decimal_begins : (bs : List ℕ) (n : ℕ) → n < 2 ^ 32 → bs ≡ decimal n → 1 < length bs → 49 ≤ get_or bs 0 0
decimal_begins bs zero small is long = absurd (omega (arith, ap length (is ∙ decimal_digit 0 (omega arith))))
decimal_begins bs (suc n) small is long = rw is (first_decimal (suc n) (omega arith) (omega arith))
