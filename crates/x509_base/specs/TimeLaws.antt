-- Each content has one date-time, and each date-time one content.
use Rattle.std.specs.Prelude.{◌≡◌, ℕ, ◌+◌, ◌*◌, ◌/◌, ◌%◌, ◌≤◌, ◌<◌, Bool, true, false, ◌&&◌, nat_eq, nat_le, List, [], ◌∷◌, length, slice_index, Ok, Err, if◌then◌else◌, refl}
use Rattle.std.specs.Bool.{Decides}
use Rattle.std.specs.Cmp.Lexicographic.{pointwise, same_text, other_text}
use Rattle.std.specs.Int.{IsInRange}
use Rattle.std.proofs.Common.{arith, sym, ap, ◌∙◌, inl, inr}
use Rattle.std.proofs.lemmas.Bool.{cases_Bool, cases_lt, and_parts}
use Rattle.std.proofs.lemmas.Bool.Decides.{nat_tests, Decides-and, Decides-like}
use Rattle.x509_der.specs.declared.error.ErrorKind.{ErrorKind}
use Rattle.x509_der.specs.declared.error.ErrorKind.TheVariants.{Malformed}
use Rattle.x509_base.specs.CivilTime.{CivilTime, days_in_month, IsDateTime}
use Rattle.x509_base.specs.TimeText.{two_digits, octets_from_month, date_time_text, generalized_time_octets, utc_time_octets}
use Rattle.x509_base.specs.TimeReading.{IsUtcTime, two_digit_number, four_digit_number, full_year, time_from_month, named_generalized_time, named_utc_time, named_by_text, is_in_range, is_date_time, is_utc_time, read_as, generalized_time_reading, utc_time_reading}

-- ---- the tests

nat_le-Decides : (a b : ℕ) → Decides (nat_le a b) (a ≤ b)
nat_le-Decides a b = grind (arith, nat_tests)

is_in_range-Decides : (low high n : ℕ) → Decides (is_in_range low high n) (IsInRange low high n)
is_in_range-Decides low high n = Decides-and (nat_le low n) (nat_le n high) (nat_le-Decides low n) (nat_le-Decides n high)

pub is_date_time-Decides : (c : CivilTime) → Decides (is_date_time c) (IsDateTime c)
is_date_time-Decides c =
    Decides-like (is_date_time c) (λ p. (p.0, p.1.0, p.1.1.0, p.1.1.1.0, p.1.1.1.1.0, p.1.1.1.1.1)) (λ p. (p.0, (p.1, (p.2, (p.3, (p.4, p.5))))))
    (Decides-and _ _ (is_in_range-Decides 1970 9999 c.year) (Decides-and _ _ (is_in_range-Decides 1 12 c.month) (Decides-and _ _ (is_in_range-Decides 1 (days_in_month c.year c.month) c.day)
    (Decides-and _ _ (nat_le-Decides c.hour 23) (Decides-and _ _ (nat_le-Decides c.minutes 59) (nat_le-Decides c.seconds 59))))))

pub is_utc_time-Decides : (c : CivilTime) → Decides (is_utc_time c) (IsUtcTime c)
is_utc_time-Decides c =
    Decides-and (is_date_time c) (nat_le c.year 2049) (is_date_time-Decides c) (nat_le-Decides c.year 2049)

-- ---- the digits name the number again

number_again : (n : ℕ) → n < 100 → two_digit_number (48 + n / 10) (48 + n % 10) ≡ n
unfolding two_digit_number
number_again n h = grind (arith, nat_tests)

of_low : (high low : ℕ) → low < 100 → four_digit_number high low ≡ 100 * high + low
unfolding four_digit_number
of_low high low h = grind (arith, nat_tests)

long_number_again : (n : ℕ) → n < 10000 → four_digit_number (two_digit_number (48 + n / 100 / 10) (48 + n / 100 % 10)) (two_digit_number (48 + n % 100 / 10) (48 + n % 100 % 10)) ≡ n
long_number_again n h = rw (number_again (n / 100) (omega arith), number_again (n % 100) (omega arith), of_low (n / 100) (n % 100) (omega arith)) (omega arith)

-- ---- a number below 100 names its digits

digits_again : (tens ones : ℕ) → two_digit_number tens ones < 100 → (48 + two_digit_number tens ones / 10 ≡ tens) × (48 + two_digit_number tens ones % 10 ≡ ones)
unfolding two_digit_number
digits_again tens ones h = (grind (arith, nat_tests), grind (arith, nat_tests))

pub two_digits-number : (tens ones : ℕ) → two_digit_number tens ones < 100 → two_digits (two_digit_number tens ones) ≡ tens ∷ ones ∷ []
two_digits-number tens ones h = let same = digits_again tens ones h in λ i. same.0 i ∷ same.1 i ∷ []

full_year_again : (y : ℕ) → 1970 ≤ y → y ≤ 2049 → full_year (y % 100) ≡ y
full_year_again y low high = grind (arith, nat_tests)

days_in_month_low : (y m : ℕ) → days_in_month y m < 100
days_in_month_low y m = grind arith

day_low : (c : CivilTime) → IsDateTime c → c.day < 100
day_low c h = omega (arith, days_in_month_low c.year c.month)

pub named_generalized_time-octets : (c : CivilTime) → IsDateTime c → named_generalized_time (generalized_time_octets c) ≡ c
unfolding generalized_time_octets
named_generalized_time-octets c h =
    λ i. record {
      year = long_number_again c.year (omega arith) i;
      month = number_again c.month (omega arith) i;
      day = number_again c.day (day_low c h) i;
      hour = number_again c.hour (omega arith) i;
      minutes = number_again c.minutes (omega arith) i;
      seconds = number_again c.seconds (omega arith) i;
    }

pub named_by_text-text : (c : CivilTime) → IsDateTime c → named_by_text (date_time_text c) ≡ c
unfolding date_time_text
named_by_text-text c h =
    λ i. record {
      year = long_number_again c.year (omega arith) i;
      month = number_again c.month (omega arith) i;
      day = number_again c.day (day_low c h) i;
      hour = number_again c.hour (omega arith) i;
      minutes = number_again c.minutes (omega arith) i;
      seconds = number_again c.seconds (omega arith) i;
    }

pub named_utc_time-octets : (c : CivilTime) → IsUtcTime c → named_utc_time (utc_time_octets c) ≡ c
unfolding utc_time_octets
named_utc_time-octets c h =
    let year = ap full_year (number_again (c.year % 100) (omega arith)) ∙ full_year_again c.year h.0.0.0 h.1 in
    λ i. record {
      year = year i;
      month = number_again c.month (omega arith) i;
      day = number_again c.day (day_low c h.0) i;
      hour = number_again c.hour (omega arith) i;
      minutes = number_again c.minutes (omega arith) i;
      seconds = number_again c.seconds (omega arith) i;
    }

-- ---- octets that name a good value, and end with Z, are its spelling

no_number : (tens ones : ℕ) → 100 ≤ two_digit_number tens ones → two_digit_number tens ones ≡ 255
unfolding two_digit_number
no_number tens ones h = grind (arith, nat_tests)

year_number : (tens ones : ℕ) → full_year (two_digit_number tens ones) ≤ 2049 → two_digit_number tens ones < 100
year_number tens ones h =
    elim (cases_lt (two_digit_number tens ones) 100) [ inl lt ↦ lt | inr ge ↦ absurd (let far : 2155 ≤ 2049 = rw (no_number tens ones ge) at h in omega arith) ]

full_year_digits : (n : ℕ) → n < 100 → full_year n % 100 ≡ n
full_year_digits n h = grind (arith, nat_tests)

long_numbers : (high low : ℕ) → four_digit_number high low ≤ 9999 → (high < 100) × (low < 100) × (four_digit_number high low ≡ 100 * high + low)
unfolding four_digit_number
long_numbers high low h = (grind (arith, nat_tests), grind (arith, nat_tests), grind (arith, nat_tests))

-- the eleven octets from the month on
from_month_again : (year : ℕ) (bytes : List ℕ) → length bytes ≡ 11 → slice_index bytes 10 ≡ 90 → IsDateTime (time_from_month year bytes 0) → octets_from_month (time_from_month year bytes 0) ≡ bytes
from_month_again year (a ∷ b ∷ c ∷ d ∷ e ∷ f ∷ g ∷ h ∷ k ∷ l ∷ z ∷ []) n is good =
    let month = digits_again a b (omega arith) in
    let day = digits_again c d (day_low (time_from_month year (a ∷ b ∷ c ∷ d ∷ e ∷ f ∷ g ∷ h ∷ k ∷ l ∷ z ∷ []) 0) good) in
    let hour = digits_again e f (omega arith) in
    let minutes = digits_again g h (omega arith) in
    let seconds = digits_again k l (omega arith) in
    let last = sym is in
    λ i. month.0 i ∷ month.1 i ∷ day.0 i ∷ day.1 i ∷ hour.0 i ∷ hour.1 i ∷ minutes.0 i ∷ minutes.1 i ∷ seconds.0 i ∷ seconds.1 i ∷ last i ∷ []
from_month_again year bytes n is good = absurd (cc)

pub utc_time_octets-named : (bytes : List ℕ) → length bytes ≡ 13 → slice_index bytes 12 ≡ 90 → IsUtcTime (named_utc_time bytes) → utc_time_octets (named_utc_time bytes) ≡ bytes
unfolding utc_time_octets
utc_time_octets-named (a ∷ b ∷ rest) n is good =
    let small = year_number a b good.1 in
    let year = digits_again a b small in
    let same = full_year_digits (two_digit_number a b) small in
    let first = ap (λ (x : ℕ). 48 + x / 10) same ∙ year.0 in
    let second = ap (λ (x : ℕ). 48 + x % 10) same ∙ year.1 in
    let others = from_month_again (full_year (two_digit_number a b)) rest (omega arith) is good.0 in
    λ i. first i ∷ second i ∷ others i
utc_time_octets-named bytes n is good = absurd (cc)

pub generalized_time_octets-named : (bytes : List ℕ) → length bytes ≡ 15 → slice_index bytes 14 ≡ 90 → IsDateTime (named_generalized_time bytes) → generalized_time_octets (named_generalized_time bytes) ≡ bytes
unfolding generalized_time_octets
generalized_time_octets-named (a ∷ b ∷ c ∷ d ∷ rest) n is good =
    let numbers = long_numbers (two_digit_number a b) (two_digit_number c d) (omega arith) in
    let high : four_digit_number (two_digit_number a b) (two_digit_number c d) / 100 ≡ two_digit_number a b = omega arith in
    let low : four_digit_number (two_digit_number a b) (two_digit_number c d) % 100 ≡ two_digit_number c d = omega arith in
    let century = digits_again a b numbers.0 in
    let year = digits_again c d numbers.1 in
    let first = ap (λ (x : ℕ). 48 + x / 10) high ∙ century.0 in
    let second = ap (λ (x : ℕ). 48 + x % 10) high ∙ century.1 in
    let third = ap (λ (x : ℕ). 48 + x / 10) low ∙ year.0 in
    let fourth = ap (λ (x : ℕ). 48 + x % 10) low ∙ year.1 in
    let others = from_month_again (four_digit_number (two_digit_number a b) (two_digit_number c d)) rest (omega arith) is good in
    λ i. first i ∷ second i ∷ third i ∷ fourth i ∷ others i
generalized_time_octets-named bytes n is good = absurd (cc)

-- ---- reading

-- a test was passed
passed : (test : Bool) (v c : CivilTime) → (if test then Ok v else Err Malformed) ≡ Ok c → (test ≡ true) × (v ≡ c)
passed true v c e = (refl, cc)
passed false v c e = absurd cc

-- or the refusal is Malformed
failed : (test : Bool) (v : CivilTime) (kind : ErrorKind) → (if test then Ok v else Err Malformed) ≡ Err kind → kind ≡ Malformed
failed true v kind e = absurd cc
failed false v kind e = cc

same_bytes : (xs : List ℕ) → pointwise nat_eq xs xs ≡ true
same_bytes xs =
    elim (cases_Bool (pointwise nat_eq xs xs)) [ inl same ↦ same | inr other ↦ absurd (other_text xs xs (sym other) refl) ]

read_as_sound : {good : CivilTime → Type 0} (is_good : CivilTime → Bool) → ((c : CivilTime) → Decides (is_good c) (good c)) → (spelling : CivilTime → List ℕ) (bytes : List ℕ) (v c : CivilTime) → read_as is_good spelling bytes v ≡ Ok c → good c × (bytes ≡ spelling c)
read_as_sound {good} is_good decides spelling bytes v c e =
    let ok = passed (is_good v && pointwise nat_eq (spelling v) bytes) v c e in
    let parts = and_parts (is_good v) (pointwise nat_eq (spelling v) bytes) ok.0 in
    rw (← ok.1) ((decides v).0 parts.0, sym (same_text (spelling v) bytes (sym parts.1)))

read_as_complete : {good : CivilTime → Type 0} (is_good : CivilTime → Bool) → ((c : CivilTime) → Decides (is_good c) (good c)) → (spelling : CivilTime → List ℕ) (v c : CivilTime) → good c → v ≡ c → read_as is_good spelling (spelling c) v ≡ Ok c
read_as_complete is_good decides spelling v c h e = rw (e, (decides c).1 h, same_bytes (spelling c)) refl

pub generalized_time_sound : (bytes : List ℕ) (c : CivilTime) → generalized_time_reading bytes ≡ Ok c → IsDateTime c × (bytes ≡ generalized_time_octets c)
unfolding generalized_time_reading
generalized_time_sound bytes c e =
    read_as_sound is_date_time is_date_time-Decides generalized_time_octets bytes (named_generalized_time bytes) c e

pub generalized_time_complete : (c : CivilTime) → IsDateTime c → generalized_time_reading (generalized_time_octets c) ≡ Ok c
unfolding generalized_time_reading
generalized_time_complete c h =
    read_as_complete is_date_time is_date_time-Decides generalized_time_octets (named_generalized_time (generalized_time_octets c)) c h (named_generalized_time-octets c h)

pub generalized_time_refused : (bytes : List ℕ) (kind : ErrorKind) → generalized_time_reading bytes ≡ Err kind → kind ≡ Malformed
unfolding generalized_time_reading
generalized_time_refused bytes kind e = failed _ (named_generalized_time bytes) kind e

pub utc_time_sound : (bytes : List ℕ) (c : CivilTime) → utc_time_reading bytes ≡ Ok c → IsUtcTime c × (bytes ≡ utc_time_octets c)
unfolding utc_time_reading
utc_time_sound bytes c e =
    read_as_sound is_utc_time is_utc_time-Decides utc_time_octets bytes (named_utc_time bytes) c e

pub utc_time_complete : (c : CivilTime) → IsUtcTime c → utc_time_reading (utc_time_octets c) ≡ Ok c
unfolding utc_time_reading
utc_time_complete c h =
    read_as_complete is_utc_time is_utc_time-Decides utc_time_octets (named_utc_time (utc_time_octets c)) c h (named_utc_time-octets c h)

pub utc_time_refused : (bytes : List ℕ) (kind : ErrorKind) → utc_time_reading bytes ≡ Err kind → kind ≡ Malformed
unfolding utc_time_reading
utc_time_refused bytes kind e = failed _ (named_utc_time bytes) kind e
