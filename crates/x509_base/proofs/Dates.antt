-- Dates that a profile has spelled, spelled once more; sums of durations that are too long.
use Rattle.std.proofs.Common.{◌≡◌, refl, None, Result, Ok, Err, nat_le, subst, ap, inl, inr}
use Rattle.std.proofs.lemmas.Bool.{cases_Bool, leb-true}
use Rattle.x509_der.specs.declared.error.ErrorKind.{ErrorKind}
use Rattle.x509_der.specs.StableLaws.{first_none}
use Rattle.x509_der.specs.Writing.{respelled, respelling, IsStable}
use Rattle.x509_der.specs.OutcomeLaws.{ok_is}
use Rattle.x509_der.specs.Choice as choice
use Rattle.x509_der.specs.Frames as frames
use Rattle.x509_base.specs.CivilTime.{last_date_time, unix_seconds, days_of_years, days_of_months}
use Rattle.x509_base.specs.Time.{time}
use Rattle.x509_base.specs.Validity.{validity, validity_fields, respelled_validity}
use Rattle.x509_base.specs.Profiles.{rfc5280_time}
use Rattle.x509_base.specs.declared.time.Time.{Time}
use Rattle.x509_base.specs.declared.time.Time.TheVariants.{UtcTime, GeneralTime}

module _ (time_of : Time → Result Time ErrorKind) (once : (t u : Time) → time.good t → time_of t ≡ Ok u → time.good u × (time_of u ≡ Ok u)) where
  date : (t : Time) (r : Result Time ErrorKind) → time_of t ≡ r → time.good t → (respelled t r).refusal ≡ None → time.good (respelled t r).value × (time_of (respelled t r).value ≡ Ok (respelled t r).value)
  date t (Ok u) e g n = once t u g e
  date t (Err k) e g n = absurd cc

  pub dates_stable : {P : Type 0} → IsStable (validity {P = P}).good (respelling (respelled_validity time_of))
  unfolding validity_fields frames.fields_good
  dates_stable = record {
    kept = λ v g n.
        let free = first_none _ _ n in
        ((date v.not_before (time_of v.not_before) refl g.0 free.0).0, (date v.not_after (time_of v.not_after) refl g.1 free.1).0);
    again = λ v g n.
        let free = first_none _ _ n in
        let before = (date v.not_before (time_of v.not_before) refl g.0 free.0).1 in
        let after = (date v.not_after (time_of v.not_after) refl g.1 free.1).1 in
        rw (before, after) refl;
  }

-- a date that RFC 5280's profile has spelled is spelled as it is
rfc5280_kept : (t : Time) → time.good t → time.good (rfc5280_time t) × (rfc5280_time (rfc5280_time t) ≡ rfc5280_time t)
unfolding choice.either_good
rfc5280_kept (UtcTime c) g = (g, refl)
rfc5280_kept (GeneralTime c) g = elim (cases_Bool (nat_le c.year 2049)) [
  | inl low ↦ rw low ((g, leb-true c.year 2049 low), refl)
  | inr high ↦ rw high (g, rw high refl)
]

abbrev spelled : Time → Result Time ErrorKind
spelled t = Ok (rfc5280_time t)

pub rfc5280_once : (t u : Time) → time.good t → spelled t ≡ Ok u → time.good u × (spelled u ≡ Ok u)
rfc5280_once t u g e =
    let same : rfc5280_time t ≡ u = ok_is (rfc5280_time t) u e in
    let kept = rfc5280_kept t g in
    subst (λ (v : Time). time.good v × (spelled v ≡ Ok v)) same (kept.0, ap (λ (v : Time). Ok v) kept.1)

abbrev as_it_is : Time → Result Time ErrorKind
as_it_is t = Ok t

pub raw_once : (t u : Time) → time.good t → as_it_is t ≡ Ok u → time.good u × (as_it_is u ≡ Ok u)
raw_once t u g e = (subst time.good (ok_is t u e) g, refl)

-- 9999-12-31T23:59:59Z
pub last_second : unix_seconds last_date_time ≡ 253_402_300_799
unfolding unix_seconds days_of_years days_of_months
last_second = refl
