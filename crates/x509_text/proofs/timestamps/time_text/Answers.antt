use Rattle.std.proofs.Common.{◌≡◌, ◌/◌, ◌≤◌, ◌<◌, inl, inr, sym, refl, true≢false}
use Rattle.std.proofs.lemmas.Bool.{cases_lt, le-leb, lt-leb}
use Rattle.x509_base.specs.CivilTime.{last_date_time, unix_seconds}
use Rattle.x509_text.specs.Dates.{date_time_at}
use Rattle.x509_text.specs.Timestamps.{time_text}
use Rattle.x509_text.proofs.Dates.{date_time_back}
use Rattle.x509_text.proofs.timestamps.time_text.Goals as goal

pub returns-in-Ok : goal.returns-in-Ok
unfolding time_text
returns-in-Ok c =
    let millis = c.args.timestamp.now.timestamp in
    let within : millis / 1000 ≤ unix_seconds last_date_time = c.in-Ok.ensures.succeeds.0 refl in
    let found = c.in-Ok.ensures.found in
    let same : date_time_at (millis / 1000) ≡ c.in-Ok.moment = rw (← found.1) (date_time_back c.in-Ok.moment found.0) in
    rw (le-leb (millis / 1000) (unix_seconds last_date_time) within, same) c.precise_text.ensures

pub returns-in-Err : goal.returns-in-Err
unfolding time_text
returns-in-Err c =
    let millis = c.args.timestamp.now.timestamp in
    let late : unix_seconds last_date_time < millis / 1000 =
    elim (cases_lt (unix_seconds last_date_time) (millis / 1000)) [ inl late ↦ late | inr within ↦ absurd (true≢false (sym (c.in-Err.ensures.succeeds.1 within))) ] in
    rw (lt-leb (millis / 1000) (unix_seconds last_date_time) late) c.late_text.ensures
