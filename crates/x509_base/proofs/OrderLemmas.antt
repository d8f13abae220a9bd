-- What comes first by year, month, day, hour, minutes and seconds has fewer seconds since 1970.
use Rattle.std.proofs.Common.{◌≡◌, ◌↔◌, ℕ, ◌+◌, ◌*◌, ◌<◌, ◌≤◌, inl, inr, refl, sym, ap, arith, pos}
use Rattle.std.specs.Cmp.{nat_cmp_is}
use Rattle.std.specs.Ordering.{nat_cmp, ordering_then}
use Rattle.std.specs.declared.cmp.Ordering.{Ordering}
use Rattle.std.specs.declared.cmp.Ordering.TheVariants.{Less, Equal, Greater}
use Rattle.std.proofs.lemmas.Bool.{cases_lt, cases_order}
use Rattle.jiff_core.specs.declared.civil.date.Date.{Date}
use Rattle.jiff_core.proofs.SignedLemmas.{signed_arith}
use Rattle.jiff_core.proofs.DateLemmas.{IsEarlier, epoch_day-lt}
use Rattle.x509_base.specs.CivilTime.{CivilTime, IsDateTime, days_since_1970, last_utc_time, unix_seconds}
use Rattle.x509_base.proofs.CalendarLemmas.{days_in_month_bound}
use Rattle.x509_base.proofs.MomentLemmas.{plain_of, epoch_day-shown}

-- the order of two date-times by year, then month, day, hour, minutes and seconds
abbrev pub time_cmp : CivilTime → CivilTime → Ordering
time_cmp c d =
    ordering_then (nat_cmp c.year d.year) (ordering_then (nat_cmp c.month d.month) (ordering_then (nat_cmp c.day d.day)
    (ordering_then (nat_cmp c.hour d.hour) (ordering_then (nat_cmp c.minutes d.minutes) (nat_cmp c.seconds d.seconds)))))

-- the library's date
abbrev date_of : (c : CivilTime) → IsDateTime c → Date
date_of c h = (plain_of c h 0 (omega arith)).date

days-lt : (c d : CivilTime) (h : IsDateTime c) (k : IsDateTime d) → IsEarlier (date_of c h) (date_of d k) → days_since_1970 c < days_since_1970 d
days-lt c d h k e =
    let first = epoch_day-shown (plain_of c h 0 (omega arith)) (omega (arith, signed_arith)) in
    let second = epoch_day-shown (plain_of d k 0 (omega arith)) (omega (arith, signed_arith)) in
    omega (arith, signed_arith, epoch_day-lt (date_of c h) (date_of d k) e, first, second)

-- an earlier day, at any time
unix_seconds-day : (c d : CivilTime) → IsDateTime c → days_since_1970 c < days_since_1970 d → unix_seconds c < unix_seconds d
unfolding unix_seconds
unix_seconds-day c d h lt = omega arith

earlier_day : (c d : CivilTime) (h : IsDateTime c) (k : IsDateTime d) → IsEarlier (date_of c h) (date_of d k) → unix_seconds c < unix_seconds d
earlier_day c d h k e = unix_seconds-day c d h (days-lt c d h k e)

same_days : (c d : CivilTime) → c.year ≡ d.year → c.month ≡ d.month → c.day ≡ d.day → days_since_1970 c ≡ days_since_1970 d
same_days c d year month day = rw (year, month, day) refl

-- an earlier time on the same day
unix_seconds-time : (c d : CivilTime) → days_since_1970 c ≡ days_since_1970 d → 3600 * c.hour + 60 * c.minutes + c.seconds < 3600 * d.hour + 60 * d.minutes + d.seconds → unix_seconds c < unix_seconds d
unfolding unix_seconds
unix_seconds-time c d days lt = omega arith

unix_seconds-same : (c d : CivilTime) → days_since_1970 c ≡ days_since_1970 d → c.hour ≡ d.hour → c.minutes ≡ d.minutes → c.seconds ≡ d.seconds → unix_seconds c ≡ unix_seconds d
unfolding unix_seconds
unix_seconds-same c d days hour minutes seconds = omega arith

-- ---- the last date-time of a UTCTime

last_is_date_time : IsDateTime last_utc_time
last_is_date_time = ((omega arith, omega arith), (omega arith, omega arith), (omega arith, omega arith), omega arith, omega arith, omega arith)

-- on its day
on_last_day : (c : CivilTime) → IsDateTime c → days_since_1970 c ≡ days_since_1970 last_utc_time → unix_seconds c ≤ unix_seconds last_utc_time
unfolding unix_seconds
on_last_day c h days = omega arith

before_last : (c : CivilTime) (h : IsDateTime c) → IsEarlier (date_of c h) (date_of last_utc_time last_is_date_time) → unix_seconds c ≤ unix_seconds last_utc_time
before_last c h e = let less = earlier_day c last_utc_time h last_is_date_time e in omega arith

until_last : (c : CivilTime) → IsDateTime c → c.year ≤ 2049 → unix_seconds c ≤ unix_seconds last_utc_time
until_last c h low = elim (cases_lt c.year 2049) [
  | inl lt ↦ before_last c h (inl (omega (arith, signed_arith)))
  | inr ge ↦ (let year : c.year ≡ 2049 = omega arith in elim (cases_lt c.month 12) [
    | inl lt ↦ before_last c h (inr (ap pos year, inl lt))
    | inr ge ↦ (let month : c.month ≡ 12 = omega (arith, h.1) in elim (cases_lt c.day 31) [
      | inl lt ↦ before_last c h (inr (ap pos year, inr (month, lt)))
      | inr ge ↦ (let day : c.day ≡ 31 = omega (arith, h.2.1, days_in_month_bound c.year c.month) in on_last_day c h (same_days c last_utc_time year month day))
    ])
  ])
]

-- the years through 2049 are those up to its seconds
pub through_2049 : (c : CivilTime) → IsDateTime c → (c.year ≤ 2049) ↔ (unix_seconds c ≤ unix_seconds last_utc_time)
through_2049 c h = (
  until_last c h,
  λ near. elim (cases_lt 2049 c.year) [
    | inl later ↦ absurd (let more = earlier_day last_utc_time c last_is_date_time h (inl (omega (arith, signed_arith))) in omega arith)
    | inr until ↦ until
  ],
)

-- to compare two parts and then the rest is to compare the wholes
then_agrees : (x y m n : ℕ) (rest : Ordering) → (x < y → m < n) → (y < x → n < m) → (x ≡ y → rest ≡ nat_cmp m n) → ordering_then (nat_cmp x y) rest ≡ nat_cmp m n
then_agrees x y m n rest below above same =
    elim (cases_order x y) [
      | inl e ↦ rw (← nat_cmp_is x y Equal e) (same e)
      | inr (inl lt) ↦ rw (← nat_cmp_is x y Less lt, ← nat_cmp_is m n Less (below lt)) refl
      | inr (inr gt) ↦ rw (← nat_cmp_is x y Greater gt, ← nat_cmp_is m n Greater (above gt)) refl
    ]

last_agrees : (x y m n : ℕ) → (x < y → m < n) → (y < x → n < m) → (x ≡ y → m ≡ n) → nat_cmp x y ≡ nat_cmp m n
last_agrees x y m n below above same =
    elim (cases_order x y) [
      | inl e ↦ rw (← nat_cmp_is x y Equal e, ← nat_cmp_is m n Equal (same e)) refl
      | inr (inl lt) ↦ rw (← nat_cmp_is x y Less lt, ← nat_cmp_is m n Less (below lt)) refl
      | inr (inr gt) ↦ rw (← nat_cmp_is x y Greater gt, ← nat_cmp_is m n Greater (above gt)) refl
    ]

pub time_cmp-unix_seconds : (c d : CivilTime) → IsDateTime c → IsDateTime d → time_cmp c d ≡ nat_cmp (unix_seconds c) (unix_seconds d)
time_cmp-unix_seconds c d h k =
    then_agrees c.year d.year _ _ _ (λ lt. earlier_day c d h k (inl (omega (arith, signed_arith)))) (λ gt. earlier_day d c k h (inl (omega (arith, signed_arith)))) (λ year.
    then_agrees c.month d.month _ _ _ (λ lt. earlier_day c d h k (inr (ap pos year, inl lt))) (λ gt. earlier_day d c k h (inr (ap pos (sym year), inl gt))) (λ month.
    then_agrees c.day d.day _ _ _ (λ lt. earlier_day c d h k (inr (ap pos year, inr (month, lt)))) (λ gt. earlier_day d c k h (inr (ap pos (sym year), inr (sym month, gt)))) (λ day.
    let days = same_days c d year month day in
    then_agrees c.hour d.hour _ _ _ (λ lt. unix_seconds-time c d days (omega arith)) (λ gt. unix_seconds-time d c (sym days) (omega arith)) (λ hour.
    then_agrees c.minutes d.minutes _ _ _ (λ lt. unix_seconds-time c d days (omega arith)) (λ gt. unix_seconds-time d c (sym days) (omega arith)) (λ minutes.
    last_agrees c.seconds d.seconds _ _ (λ lt. unix_seconds-time c d days (omega arith)) (λ gt. unix_seconds-time d c (sym days) (omega arith)) (λ seconds.
    unix_seconds-same c d days hour minutes seconds))))))
