-- Civil date-times of Coordinated Universal Time in the Gregorian calendar (ISO 8601 4.3.2), and the seconds since 1970.
use Rattle.std.specs.Prelude.{ℕ, zero, suc, ◌+◌, ◌-◌, ◌*◌, ◌%◌, ◌/◌, ◌≤◌, Bool, ◌&&◌, ◌||◌, not, ◌==◌, if◌then◌else◌}
use Rattle.std.specs.Int.{IsInRange}
use Rattle.std.specs.Duration.{as_nanos}
use Rattle.std.specs.declared.time.Duration.{Duration}

-- a day of the calendar and a time of that day
pub record CivilTime : Type 0 where
  pub year : ℕ
  pub month : ℕ
  pub day : ℕ
  pub hour : ℕ
  pub minutes : ℕ
  pub seconds : ℕ

abbrev pub civil_time : ℕ → ℕ → ℕ → ℕ → ℕ → ℕ → CivilTime
civil_time year month day hour minutes seconds =
    record { year = year; month = month; day = day; hour = hour; minutes = minutes; seconds = seconds }

-- A leap year is divisible by 4 and not by 100, or it is divisible by 400.
abbrev pub is_leap_year : ℕ → Bool
is_leap_year year = ((year % 4 == 0) && not (year % 100 == 0)) || (year % 400 == 0)

-- the days of a year
abbrev pub days_in_year : ℕ → ℕ
days_in_year year = if is_leap_year year then 366 else 365

-- February has 28 days, and 29 in a leap year. April, June, September and November have 30, the other months 31.
abbrev pub days_in_month : ℕ → ℕ → ℕ
days_in_month year month =
    if month == 2 then (if is_leap_year year then 29 else 28)
    else (if (month == 4) || (month == 6) || (month == 9) || (month == 11) then 30 else 31)

-- The calendar has the day, a clock shows the time, and the year is from 1970 to 9999. There are no leap seconds.
abbrev pub IsDateTime : CivilTime → Type 0
IsDateTime c =
    IsInRange 1970 9999 c.year × IsInRange 1 12 c.month × IsInRange 1 (days_in_month c.year c.month) c.day
    × (c.hour ≤ 23) × (c.minutes ≤ 59) × (c.seconds ≤ 59)

-- 9999-12-31T23:59:59Z
abbrev pub last_date_time : CivilTime
last_date_time = civil_time 9999 12 31 23 59 59

-- 2049-12-31T23:59:59Z, the last that a UTCTime spells (RFC 5280 4.1.2.5.1)
abbrev pub last_utc_time : CivilTime
last_utc_time = civil_time 2049 12 31 23 59 59

-- the days of the first n years from 1970 on
unfoldable pub days_of_years : ℕ → ℕ
days_of_years zero = 0
days_of_years (suc n) = days_of_years n + days_in_year (1970 + n)

-- the days of the first n months of a year
unfoldable pub days_of_months : ℕ → ℕ → ℕ
days_of_months year zero = 0
days_of_months year (suc n) = days_of_months year n + days_in_month year (suc n)

-- the days from 1 January 1970 to the day: those of the whole years, of the year's whole months, and of the month
abbrev pub days_since_1970 : CivilTime → ℕ
days_since_1970 c = days_of_years (c.year - 1970) + days_of_months c.year (c.month - 1) + (c.day - 1)

-- the seconds from 1970-01-01T00:00:00Z to the date-time, where each day has 86,400
unfoldable pub unix_seconds : CivilTime → ℕ
unix_seconds c = 86400 * days_since_1970 c + 3600 * c.hour + 60 * c.minutes + c.seconds

-- the whole seconds of a duration, without the fraction of a second
abbrev pub whole_seconds : Duration → ℕ
whole_seconds d = as_nanos d / 1_000_000_000
