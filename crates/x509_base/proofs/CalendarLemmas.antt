-- The count of days from 1970 is that of the library's calendar.
use Rattle.std.proofs.Common.{◌≡◌, ℕ, zero, suc, ◌+◌, ◌-◌, ◌≤◌, refl, arith, pos}
use Rattle.std.proofs.lemmas.Bool.Decides.{nat_tests}
use Rattle.jiff_core.specs.Calendar as library
use Rattle.jiff_core.proofs.SignedLemmas.{signed_arith}
use Rattle.jiff_core.proofs.CalendarLemmas.{day_count-epoch, day_count-next_year, day_count-next_month, day_count-day, days_from_civil-day_count}
use Rattle.x509_base.specs.CivilTime.{CivilTime, is_leap_year, days_in_year, days_in_month, days_of_years, days_of_months, days_since_1970}

is_leap_year-library : (y : ℕ) → library.is_leap_year (pos y) ≡ is_leap_year y
is_leap_year-library y = grind (arith, nat_tests)

pub days_in_month-library : (y m : ℕ) → library.days_in_month (pos y) m ≡ days_in_month y m
days_in_month-library y m = rw (is_leap_year-library y) refl

days_in_year-library : (y : ℕ) → library.days_in_year (pos y) ≡ days_in_year y
days_in_year-library y = rw (is_leap_year-library y) refl

-- the first day of the year 1970 + n
first_of_year : (n : ℕ) → library.day_count (pos (1970 + n)) 1 1 ≡ 4_371_953 + days_of_years n
unfolding days_of_years
first_of_year zero = day_count-epoch
first_of_year (suc n) =
    let step = day_count-next_year (pos (1970 + n)) (pos (1970 + suc n)) (omega (arith, signed_arith)) (omega (arith, signed_arith)) in
    omega (arith, step, days_in_year-library (1970 + n), first_of_year n)

-- the first day of the month n + 1
first_of_month : (y n : ℕ) → library.day_count (pos y) (suc n) 1 ≡ library.day_count (pos y) 1 1 + days_of_months y n
unfolding days_of_months
first_of_month y zero = omega arith
first_of_month y (suc n) =
    let next : suc n + 1 ≡ suc (suc n) = omega arith in
    omega (arith, rw next at (day_count-next_month (pos y) (suc n) (omega arith)), days_in_month-library y (suc n), first_of_month y n)

pub days_since_1970-library : (c : CivilTime) → 1970 ≤ c.year → 1 ≤ c.month → 1 ≤ c.day → library.days_from_civil (pos c.year) c.month c.day ≡ pos (days_since_1970 c)
days_since_1970-library c year month day =
    let y : 1970 + (c.year - 1970) ≡ c.year = omega arith in
    let m : suc (c.month - 1) ≡ c.month = omega arith in
    let first = rw y at (first_of_year (c.year - 1970)) in
    let first_day = rw m at (first_of_month c.year (c.month - 1)) in
    omega (arith, signed_arith, first, first_day, days_from_civil-day_count (pos c.year) c.month c.day, day_count-day (pos c.year) c.month c.day 1 day (omega arith))

pub days_in_month_bound : (y m : ℕ) → days_in_month y m ≤ 31
days_in_month_bound y m = grind arith
