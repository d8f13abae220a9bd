use Rattle.std.proofs.Common.{◌≡◌, length, slice_index, List, ℕ, refl, ap, sym, ◌∙◌, true≢false}
use Rattle.x509_der.specs.declared.error.ErrorKind.TheVariants.{Malformed}
use Rattle.x509_base.specs.CivilTime.{CivilTime, IsDateTime}
use Rattle.x509_base.specs.TimeText.{utc_time_octets}
use Rattle.x509_base.specs.TimeReading.{IsUtcTime, full_year, named_utc_time, utc_time_reading, time_from_month}
use Rattle.x509_base.specs.TimeLaws.{named_utc_time-octets, utc_time_octets-named, utc_time_sound, utc_time_complete, utc_time_refused}
use Rattle.x509_base.proofs.ReadingLemmas.{reads_ok, reads_err_named, answers_reading, kind_of, is_date_time_too}
use Rattle.x509_base.proofs.utc_time.UtcTime.from_content.Goals.{then-content-ne13-via-then-content-ne13, then-content-ne13-via-else-content-ne13+then-content-ne90}
use Rattle.x509_base.proofs.utc_time.UtcTime.from_content.Goals as goal

length-octets : (c : CivilTime) → length (utc_time_octets c) ≡ 13
unfolding utc_time_octets
length-octets c = refl

last-octets : (c : CivilTime) → slice_index (utc_time_octets c) 12 ≡ 90
unfolding utc_time_octets
last-octets c = refl

-- the date-time with this year is what the content names
named : (y n : ℕ) (content : List ℕ) (m : ℕ) → y ≡ full_year n → n ≡ m → time_from_month y content 2 ≡ time_from_month (full_year m) content 2
named y n content m e f = ap (λ (x : ℕ). time_from_month x content 2) (e ∙ ap full_year f)

pub returns-then-content-ne13-clause-reads : goal.returns-then-content-ne13-clause-reads
returns-then-content-ne13-clause-reads c =
    let bad : c.args.content.now ≡ utc_time_octets (named_utc_time c.args.content.now) → ⊥ = λ same.
    elim c.then-content-ne13.branch [
      | then-content-ne13-via-then-content-ne13 w ↦ w.if-content-ne13.true (ap length same ∙ length-octets (named_utc_time c.args.content.now))
      | then-content-ne13-via-else-content-ne13+then-content-ne90 w ↦ w.if-content-ne90.true (ap (λ (octets : List ℕ). slice_index octets 12) same ∙ last-octets (named_utc_time c.args.content.now))
    ] in
    reads_err_named named_utc_time named_utc_time-octets Malformed c.args.content.now _ (kind_of _ _ c.into.ensures) (λ h. bad)

pub returns-in_default-clause-reads : goal.returns-in_default-clause-reads
returns-in_default-clause-reads c =
    let is = named _ _ c.args.content.now _ c.full_year.ensures c.number_at.ensures in
    reads_err_named named_utc_time named_utc_time-octets Malformed c.args.content.now _ (kind_of _ _ c.into-in_default.ensures) (λ h same. true≢false (sym (c.in_default.ensures.succeeds.1 (is_date_time_too _ _ is h.0))))

pub returns-in-Err-clause-reads : goal.returns-in-Err-clause-reads
returns-in-Err-clause-reads c =
    let is = c.in-Ok.ensures.value ∙ named _ _ c.args.content.now _ c.full_year.ensures c.number_at.ensures in
    reads_err_named named_utc_time named_utc_time-octets Malformed c.args.content.now _ (kind_of _ _ c.into-in-Err.ensures) (λ h same. true≢false (sym (c.in-Err.ensures.succeeds.1 (rw is h.1))))

pub returns-in-Ok-from_date_time-clause-reads : goal.returns-in-Ok-from_date_time-clause-reads
returns-in-Ok-from_date_time-clause-reads c =
    let date_time = c.in-Ok.ensures.value ∙ named _ _ c.args.content.now _ c.full_year.ensures c.number_at.ensures in
    let is = c.in-Ok-from_date_time.ensures.value ∙ date_time in
    let real : IsDateTime c.in-Ok.date_time = is_date_time_too _ _ c.in-Ok.ensures.value (c.in-Ok.ensures.succeeds.0 refl) in
    let good : IsUtcTime (named_utc_time c.args.content.now) = (rw date_time at real, rw date_time at (c.in-Ok-from_date_time.ensures.succeeds.0 refl)) in
    let octets = ap utc_time_octets is ∙ utc_time_octets-named c.args.content.now c.if-content-ne13.false c.if-content-ne90.false good in
    reads_ok named_utc_time named_utc_time-octets Malformed c.args.content.now c.in-Ok-from_date_time.time (rw is good) (sym octets)

pub returns-then-content-ne13-clause-answers : goal.returns-then-content-ne13-clause-answers
returns-then-content-ne13-clause-answers c =
    answers_reading utc_time_reading utc_time_sound utc_time_complete utc_time_refused c.args.content.now _ (returns-then-content-ne13-clause-reads c)

pub returns-in_default-clause-answers : goal.returns-in_default-clause-answers
returns-in_default-clause-answers c =
    answers_reading utc_time_reading utc_time_sound utc_time_complete utc_time_refused c.args.content.now _ (returns-in_default-clause-reads c)

pub returns-in-Err-clause-answers : goal.returns-in-Err-clause-answers
returns-in-Err-clause-answers c =
    answers_reading utc_time_reading utc_time_sound utc_time_complete utc_time_refused c.args.content.now _ (returns-in-Err-clause-reads c)

pub returns-in-Ok-from_date_time-clause-answers : goal.returns-in-Ok-from_date_time-clause-answers
returns-in-Ok-from_date_time-clause-answers c =
    answers_reading utc_time_reading utc_time_sound utc_time_complete utc_time_refused c.args.content.now _ (returns-in-Ok-from_date_time-clause-reads c)
