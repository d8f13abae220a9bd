-- Equality of times and of validities is exact.
use Rattle.std.specs.Prelude.{true, ◌&&◌, refl}
use Rattle.x509_base.specs.CivilTime.{CivilTime}
use Rattle.x509_base.specs.contracts.date_time.DateTimePartialEq.TheImpl as date_time_eq
use Rattle.x509_base.specs.contracts.time.Time.{enum as times}
use Rattle.x509_base.specs.contracts.time.TimePartialEq.TheImpl as time_eq
use Rattle.x509_base.specs.declared.validity.Validity.{Validity}
use Rattle.x509_der.specs.Exact.{IsExact, exact_number, exact_unit, exact_both, exact_last, exact_by, exact_cases}

pub exact_date_time : IsExact date_time_eq.ghosts.eq
exact_date_time =
    exact_by (λ (c : CivilTime). (c.year, (c.month, (c.day, (c.hour, (c.minutes, c.seconds)))))) (λ (year, (month, (day, (hour, (minutes, seconds))))). record { year = year; month = month; day = day; hour = hour; minutes = minutes; seconds = seconds }) (λ c. refl)
    (exact_both exact_number (exact_both exact_number (exact_both exact_number (exact_both exact_number (exact_both exact_number exact_number)))))

pub exact_time : IsExact time_eq.ghosts.eq
exact_time = exact_cases times _ (exact_last exact_date_time, (exact_last exact_date_time, tt))

-- the last test is that of the profiles, which have no content
pub exact_validity : {P : Type 0} → IsExact (λ (a b : Validity P). time_eq.ghosts.eq a.not_before b.not_before && (time_eq.ghosts.eq a.not_after b.not_after && true))
exact_validity {P} = exact_by (λ (v : Validity P). (v.not_before, (v.not_after, tt))) (λ (before, (after, _)). record { not_before = before; not_after = after; profile = record {} }) (λ v. refl) (exact_both exact_time (exact_both exact_time exact_unit))
