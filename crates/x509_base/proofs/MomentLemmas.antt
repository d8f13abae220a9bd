-- The library's date-times have the seconds since 1970 of what they show.
use Rattle.std.proofs.Common.{◌≡◌, ℕ, ◌+◌, ◌*◌, ◌/◌, ◌%◌, ◌<◌, ◌≤◌, inl, refl, sym, ap, ◌∙◌, arith, ℤ, pos, negsuc, ◌≤ℤ◌, unsigned_abs}
use Rattle.std.proofs.lemmas.Int.{by_lt_z, to_z_pos}
use mir.Syntax.{w64}
use mir.Val.{of_z, to_z}
use Rattle.jiff_core.specs.Date.{epoch_day}
use Rattle.jiff_core.specs.DateTime.{civil_nanos, civil_seconds, IsCivilNanos}
use Rattle.jiff_core.specs.declared.civil.date.Date.{Date}
use Rattle.jiff_core.specs.declared.civil.datetime.DateTime.{DateTime}
use Rattle.jiff_core.proofs.SignedLemmas.{signed_arith}
use Rattle.jiff_core.proofs.CalendarLemmas.{day_count-epoch, days_from_civil-day_count}
use Rattle.jiff_core.proofs.DateLemmas.{epoch_day-lt, epoch_day_injective}
use Rattle.jiff_core.proofs.DateTimeLemmas.{time_nanos_bound, time_nanos_injective, civil_nanos-civil_seconds, civil_nanos-parts, civil_nanos_range, civil_nanos_injective}
use Rattle.x509_base.specs.CivilTime.{CivilTime, IsDateTime, days_since_1970, unix_seconds}
use Rattle.x509_base.specs.Moment.{shown_time}
use Rattle.x509_base.proofs.CalendarLemmas.{days_in_month-library, days_since_1970-library}

-- a year that is not negative
year_is : (y : ℤ) → pos 1970 ≤ℤ y → y ≡ pos (unsigned_abs y)
year_is (pos n) h = refl
year_is (negsuc n) h = absurd (omega (arith, signed_arith))

year_low : (y : ℤ) → pos 1970 ≤ℤ y → 1970 ≤ unsigned_abs y
year_low y h = omega (arith, signed_arith)

pub shown_is_date_time : (m : DateTime) → pos 1970 ≤ℤ m.date.year → IsDateTime (shown_time m)
shown_is_date_time m low =
    let y : m.date.year ≡ pos (unsigned_abs m.date.year) = year_is m.date.year low in
    let day_in = rw (y, days_in_month-library (unsigned_abs m.date.year) m.date.month) at m.date.day_in in
    (omega (arith, signed_arith, m.date.year_in), m.date.month_in, day_in, omega (arith, m.time.hour_in), omega (arith, m.time.minute_in), omega (arith, m.time.second_in))

pub epoch_day-shown : (m : DateTime) → pos 1970 ≤ℤ m.date.year → epoch_day m.date ≡ pos (days_since_1970 (shown_time m))
epoch_day-shown m low =
    rw (year_is m.date.year low) (days_since_1970-library (shown_time m) (year_low m.date.year low) m.date.month_in.0 m.date.day_in.0)

pub civil_nanos-shown : (m : DateTime) → pos 1970 ≤ℤ m.date.year → civil_nanos m ≡ pos (unix_seconds (shown_time m) * 1_000_000_000 + m.time.subsec_nanosecond)
unfolding unix_seconds
civil_nanos-shown m low =
    omega (arith, signed_arith, civil_nanos-parts m, epoch_day-shown m low)

-- a clock that shows these parts, and no fraction of a second, has the seconds of their date-time
pub civil_nanos-clock : (m : DateTime) (c : CivilTime) → 1970 ≤ c.year → m.date.year ≡ pos c.year → m.date.month ≡ c.month → m.date.day ≡ c.day → m.time.hour ≡ c.hour → m.time.minute ≡ c.minutes → m.time.second ≡ c.seconds → m.time.subsec_nanosecond ≡ 0 → civil_nanos m ≡ pos (unix_seconds c * 1_000_000_000)
civil_nanos-clock m c low year month day hour minute second fraction =
    let first : pos 1970 ≤ℤ m.date.year = rw year (omega (arith, signed_arith)) in
    let shown : shown_time m ≡ c = λ i. record { year = ap unsigned_abs year i; month = month i; day = day i; hour = hour i; minutes = minute i; seconds = second i } in
    let nanos = rw shown at (civil_nanos-shown m first) in
    omega (arith, signed_arith)

-- the whole seconds of a clock that shows no fraction of a second
pub civil_seconds-whole : (m : DateTime) (n : ℕ) → civil_nanos m ≡ pos (n * 1_000_000_000) → civil_seconds m ≡ pos n
civil_seconds-whole m n e = omega (arith, signed_arith, civil_nanos-civil_seconds m, m.time.subsec_in)

-- which the library's numbers can tell
pub second_as_number : (m : DateTime) (second : ℤ) (n : ℕ) → second ≡ civil_seconds m → civil_nanos m ≡ pos (n * 1_000_000_000) → to_z w64 (of_z w64 second) ≡ pos n
second_as_number m second n value e =
    let is : second ≡ pos n = value ∙ civil_seconds-whole m n e in
    rw is (to_z_pos w64 n (omega (arith, signed_arith, civil_nanos_range m)))

abbrev epoch_date : Date
epoch_date =
    record { year = pos 1970; month = 1; day = 1; year_in = omega (arith, signed_arith); month_in = omega arith; day_in = omega arith }

epoch_day-epoch_date : epoch_day epoch_date ≡ pos 0
epoch_day-epoch_date = omega (arith, signed_arith, days_from_civil-day_count (pos 1970) 1 1, day_count-epoch)

-- what lies at or after the epoch has a year from 1970 on
pub year_from_epoch : (m : DateTime) (n : ℕ) → civil_nanos m ≡ pos n → pos 1970 ≤ℤ m.date.year
year_from_epoch m n e =
    by_lt_z m.date.year (pos 1970) (λ lt. let before = epoch_day-lt m.date epoch_date (inl lt) in
    absurd (omega (arith, signed_arith, before, epoch_day-epoch_date, civil_nanos-parts m, time_nanos_bound m.time)))
    (λ ge. ge)

-- the seconds of what is shown are the whole seconds
pub unix_seconds-shown : (m : DateTime) (n : ℕ) → civil_nanos m ≡ pos n → unix_seconds (shown_time m) ≡ n / 1_000_000_000
unix_seconds-shown m n e =
    let nanos = civil_nanos-shown m (year_from_epoch m n e) in
    let fraction = m.time.subsec_in in
    let same : unix_seconds (shown_time m) * 1_000_000_000 + m.time.subsec_nanosecond ≡ n = omega (arith, signed_arith) in
    omega arith

-- the library's date-time with these parts and a fraction
abbrev pub plain_of : (c : CivilTime) → IsDateTime c → (k : ℕ) → k < 1_000_000_000 → DateTime
plain_of c h k small = record {
  date = record { year = pos c.year; month = c.month; day = c.day; year_in = omega (arith, signed_arith); month_in = h.1; day_in = rw (days_in_month-library c.year c.month) h.2 };
  time = record { hour = c.hour; minute = c.minutes; second = c.seconds; subsec_nanosecond = k; hour_in = omega arith; minute_in = omega arith; second_in = omega arith; subsec_in = small };
}

civil_nanos-plain_of : (c : CivilTime) (h : IsDateTime c) (k : ℕ) (small : k < 1_000_000_000) → civil_nanos (plain_of c h k small) ≡ pos (unix_seconds c * 1_000_000_000 + k)
civil_nanos-plain_of c h k small = civil_nanos-shown (plain_of c h k small) (omega (arith, signed_arith))

fraction_small : (n : ℕ) → n % 1_000_000_000 < 1_000_000_000
fraction_small n = omega arith

-- the date-time with the whole seconds, and the fraction
civil_nanos-whole : (c : CivilTime) (h : IsDateTime c) (n : ℕ) → unix_seconds c ≡ n / 1_000_000_000 → civil_nanos (plain_of c h (n % 1_000_000_000) (fraction_small n)) ≡ pos n
civil_nanos-whole c h n e =
    let same : unix_seconds c * 1_000_000_000 + n % 1_000_000_000 ≡ n = omega arith in
    rw same at (civil_nanos-plain_of c h (n % 1_000_000_000) (fraction_small n))

-- so the library has it
pub in_range : (c : CivilTime) (n : ℕ) → IsDateTime c → unix_seconds c ≡ n / 1_000_000_000 → IsCivilNanos (pos n)
in_range c n h e =
    rw (civil_nanos-whole c h n e) at (civil_nanos_range (plain_of c h (n % 1_000_000_000) (fraction_small n)))

same_shown : (m p : DateTime) → civil_nanos m ≡ civil_nanos p → shown_time m ≡ shown_time p
same_shown m p e =
    let parts = civil_nanos_injective m p e in
    let date = epoch_day_injective m.date p.date parts.0 in
    let time = time_nanos_injective m.time p.time parts.1 in
    λ i. record { year = ap unsigned_abs date.0 i; month = date.1 i; day = date.2 i; hour = time.0 i; minutes = time.1 i; seconds = time.2 i }

-- and it is the one that has these seconds
pub shown_time-whole : (m : DateTime) (n : ℕ) (c : CivilTime) → civil_nanos m ≡ pos n → IsDateTime c → unix_seconds c ≡ n / 1_000_000_000 → shown_time m ≡ c
shown_time-whole m n c is h e =
    same_shown m (plain_of c h (n % 1_000_000_000) (fraction_small n)) (is ∙ sym (civil_nanos-whole c h n e))

-- within its range alone
pub in_range_only : (n : ℕ) → IsCivilNanos (pos n) → n / 1_000_000_000 ≤ 253_402_300_799
in_range_only n e = omega (arith, signed_arith)

pub range_in : (n : ℕ) → n / 1_000_000_000 ≤ 253_402_300_799 → IsCivilNanos (pos n)
range_in n h = omega (arith, signed_arith)
