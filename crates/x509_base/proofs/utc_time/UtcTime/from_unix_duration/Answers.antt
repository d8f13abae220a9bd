use Rattle.std.proofs.Common.{◌≤◌, IsOk, Result, Ok, Err, sym, arith, true≢false}
use Rattle.std.specs.Result.{IsErr}
use Rattle.x509_base.specs.CivilTime.{last_date_time, unix_seconds, whole_seconds}
use Rattle.x509_base.proofs.OrderLemmas.{through_2049}
use Rattle.x509_base.proofs.StandardFacts.{unix_seconds-last, unix_seconds-last_utc_time}
use Rattle.x509_base.proofs.utc_time.UtcTime.from_unix_duration.Goals as goal

no_ok : {A E : Type 0} (r : Result A E) → IsErr r → IsOk r → ⊥
no_ok (Ok a) err ok = true≢false (sym err)
no_ok (Err e) err ok = true≢false (sym ok)

pub returns-in_err-from_unix_duration-clause-succeeds :
    goal.returns-in_err-from_unix_duration-clause-succeeds
returns-in_err-from_unix_duration-clause-succeeds c = (
  λ ok. absurd (no_ok c.from_residual.result c.from_residual.ensures.0 ok),
  λ near.
      let within : whole_seconds c.args.duration ≤ unix_seconds last_date_time = omega (arith, unix_seconds-last, unix_seconds-last_utc_time) in
      absurd (true≢false (sym (c.in_err-from_unix_duration.ensures.succeeds.1 within))),
)

pub returns-clause-succeeds : goal.returns-clause-succeeds
returns-clause-succeeds c =
    let found = c.in_ok-from_unix_duration.ensures.found in
    let years = through_2049 c.in_ok-from_unix_duration.field-0 found.0 in
    let seconds = found.1 in
    let made = c.from_date_time.ensures.succeeds in
    (λ ok. rw (← seconds) (years.0 (made.0 ok)), λ near. made.1 (years.1 (rw seconds near)))
