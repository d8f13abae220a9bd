-- The date-time of a number of seconds since 1970.
use Rattle.std.specs.Prelude.{ℕ, zero, suc, ◌+◌, ◌-◌, ◌/◌, ◌%◌, nat_le, if◌then◌else◌}
use Rattle.x509_base.specs.CivilTime.{CivilTime, civil_time, days_of_years, days_of_months}

-- how many whole years from 1970 on, n at most, lie before the day with so many days before it
unfoldable pub whole_years : ℕ → ℕ → ℕ
whole_years zero days = 0
whole_years (suc n) days = if nat_le (days_of_years (suc n)) days then suc n else whole_years n days

-- how many whole months of a year, n at most, lie before the day with so many days of the year before it
unfoldable pub whole_months : ℕ → ℕ → ℕ → ℕ
whole_months year zero days = 0
whole_months year (suc n) days = if nat_le (days_of_months year (suc n)) days then suc n else whole_months year n days

-- the moment of a day, so many seconds after it began
abbrev pub at_clock : ℕ → ℕ → ℕ → ℕ → CivilTime
at_clock year month day seconds = civil_time year month day (seconds / 3600) (seconds / 60 % 60) (seconds % 60)

-- the day of a month, behind so many whole months of the year and so many days of it
abbrev pub in_month : ℕ → ℕ → ℕ → ℕ → CivilTime
in_month year months days seconds = at_clock year (suc months) (suc (days - days_of_months year months)) seconds

-- the day of a year with so many days of the year before it
abbrev pub in_year : ℕ → ℕ → ℕ → CivilTime
in_year year days seconds = in_month year (whole_months year 11 days) days seconds

-- the day of the calendar behind so many whole years from 1970 on, with so many days before it
abbrev pub behind_years : ℕ → ℕ → ℕ → CivilTime
behind_years years days seconds = in_year (1970 + years) (days - days_of_years years) seconds

-- the date-time with so many seconds since 1970-01-01T00:00:00Z, through the year 9999
unfoldable pub date_time_at : ℕ → CivilTime
date_time_at seconds = behind_years (whole_years 8029 (seconds / 86400)) (seconds / 86400) (seconds % 86400)
