-- A date-time is the one with its seconds since 1970.
use Rattle.std.proofs.Common.{◌≡◌, ℕ, zero, suc, ◌+◌, ◌-◌, ◌*◌, ◌/◌, ◌%◌, ◌<◌, ◌≤◌, inl, inr, refl, ap, ◌∙◌, arith}
use Rattle.std.proofs.lemmas.Bool.{cases_order, le-leb, lt-leb}
use Rattle.std.proofs.lemmas.Bool.Decides.{nat_tests}
use Rattle.x509_base.specs.CivilTime.{CivilTime, IsDateTime, days_in_month, days_in_year, days_of_years, days_of_months, days_since_1970, unix_seconds}
use Rattle.x509_text.specs.Dates.{whole_years, whole_months, at_clock, in_month, in_year, behind_years, date_time_at}

-- ---- whole years

years_rise : (n m : ℕ) → n ≤ m → days_of_years n ≤ days_of_years m
unfolding days_of_years
years_rise n zero h = let same : n ≡ zero = omega arith in rw same (omega arith)
years_rise n (suc m) h =
    elim (cases_order n (suc m)) [
      | inl same ↦ rw same (omega arith)
      | inr (inl less) ↦ let rise = years_rise n m (omega arith) in omega arith
      | inr (inr more) ↦ absurd (omega arith)
    ]

-- so many whole years lie before a day of the year behind them
whole_years_are : (n k days : ℕ) → k ≤ n → days_of_years k ≤ days → days < days_of_years (suc k) → whole_years n days ≡ k
unfolding whole_years
whole_years_are zero k days h low high = omega arith
whole_years_are (suc n) k days h low high =
    elim (cases_order k (suc n)) [
      | inl same ↦ rw (← same, le-leb (days_of_years k) days low) refl
      | inr (inl less) ↦
          let rise = years_rise (suc k) (suc n) (omega arith) in
          rw (lt-leb (days_of_years (suc n)) days (omega arith)) (whole_years_are n k days (omega arith) low high)
      | inr (inr more) ↦ absurd (omega arith)
    ]

-- ---- whole months

months_rise : (y n m : ℕ) → n ≤ m → days_of_months y n ≤ days_of_months y m
unfolding days_of_months
months_rise y n zero h = let same : n ≡ zero = omega arith in rw same (omega arith)
months_rise y n (suc m) h =
    elim (cases_order n (suc m)) [
      | inl same ↦ rw same (omega arith)
      | inr (inl less) ↦ let rise = months_rise y n m (omega arith) in omega arith
      | inr (inr more) ↦ absurd (omega arith)
    ]

whole_months_are : (y n k days : ℕ) → k ≤ n → days_of_months y k ≤ days → days < days_of_months y (suc k) → whole_months y n days ≡ k
unfolding whole_months
whole_months_are y zero k days h low high = omega arith
whole_months_are y (suc n) k days h low high =
    elim (cases_order k (suc n)) [
      | inl same ↦ rw (← same, le-leb (days_of_months y k) days low) refl
      | inr (inl less) ↦
          let rise = months_rise y (suc k) (suc n) (omega arith) in
          rw (lt-leb (days_of_months y (suc n)) days (omega arith)) (whole_months_are y n k days (omega arith) low high)
      | inr (inr more) ↦ absurd (omega arith)
    ]

-- twelve months are a year
twelve_months : (y : ℕ) → days_of_months y 12 ≡ days_in_year y
unfolding days_of_months
twelve_months y = grind (arith, nat_tests)

-- ---- date-times

-- the next month begins behind a month's days
next_month : (y k : ℕ) → days_of_months y (suc k) ≡ days_of_months y k + days_in_month y (suc k)
unfolding days_of_months
next_month y k = refl

next_year : (k : ℕ) → days_of_years (suc k) ≡ days_of_years k + days_in_year (1970 + k)
unfolding days_of_years
next_year k = refl

module _ (c : CivilTime) (is : IsDateTime c) where
  year_back : 1970 + (c.year - 1970) ≡ c.year
  year_back = omega (arith, is.0)

  month_back : suc (c.month - 1) ≡ c.month
  month_back = omega (arith, is.1)

  day_back : suc (c.day - 1) ≡ c.day
  day_back = omega (arith, is.2.0)

  abbrev days_before : ℕ
  days_before = days_of_months c.year (c.month - 1) + (c.day - 1)

  in_its_month : days_before < days_of_months c.year (suc (c.month - 1))
  in_its_month =
      let next = rw month_back at (next_month c.year (c.month - 1)) in
      let day = day_back in
      rw month_back (omega (arith, next, day, is.2.1))

  in_its_year : days_before < days_in_year c.year
  in_its_year =
      let rise = months_rise c.year (suc (c.month - 1)) 12 (omega (arith, is.1)) in
      omega (arith, rise, in_its_month, twelve_months c.year)

  abbrev clock : ℕ
  clock = 3600 * c.hour + 60 * c.minutes + c.seconds

  days_are : unix_seconds c / 86400 ≡ days_since_1970 c
  unfolding unix_seconds
  days_are = omega (arith, is.3, is.4, is.5)

  clock_is : unix_seconds c % 86400 ≡ clock
  unfolding unix_seconds
  clock_is = omega (arith, is.3, is.4, is.5)

  years_are : whole_years 8029 (days_since_1970 c) ≡ c.year - 1970
  years_are =
      let next = rw year_back at (next_year (c.year - 1970)) in
      whole_years_are 8029 (c.year - 1970) (days_since_1970 c) (omega (arith, is.0)) (omega arith) (omega (arith, next, in_its_year))

  months_are : whole_months c.year 11 days_before ≡ c.month - 1
  months_are = whole_months_are c.year 11 (c.month - 1) days_before (omega (arith, is.1)) (omega arith) in_its_month

  clock_back : at_clock c.year c.month c.day clock ≡ c
  clock_back =
      let hour : clock / 3600 ≡ c.hour = omega (arith, is.3, is.4, is.5) in
      let minutes : clock / 60 % 60 ≡ c.minutes = omega (arith, is.3, is.4, is.5) in
      let seconds : clock % 60 ≡ c.seconds = omega (arith, is.3, is.4, is.5) in
      λ i. record { year = c.year; month = c.month; day = c.day; hour = hour i; minutes = minutes i; seconds = seconds i }

  month_is : in_month c.year (c.month - 1) days_before clock ≡ c
  month_is =
      let day : suc (days_before - days_of_months c.year (c.month - 1)) ≡ c.day = omega (arith, day_back) in
      rw (month_back, day) clock_back

  year_is : in_year c.year days_before clock ≡ c
  year_is = ap (λ (months : ℕ). in_month c.year months days_before clock) months_are ∙ month_is

  years_is : behind_years (c.year - 1970) (days_since_1970 c) clock ≡ c
  years_is =
      let days : days_since_1970 c - days_of_years (c.year - 1970) ≡ days_before = omega arith in
      rw (year_back, days) year_is

  pub date_time_back : date_time_at (unix_seconds c) ≡ c
  unfolding date_time_at
  date_time_back =
      rw (days_are, clock_is) (ap (λ (years : ℕ). behind_years years (days_since_1970 c) clock) years_are ∙ years_is)
