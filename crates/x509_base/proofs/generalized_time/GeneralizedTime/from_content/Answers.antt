use Rattle.std.proofs.Common.{◌≡◌, length, slice_index, List, ℕ, refl, ap, sym, ◌∙◌, true≢false}
use Rattle.x509_der.specs.declared.error.ErrorKind.TheVariants.{Malformed}
use Rattle.x509_base.specs.CivilTime.{CivilTime, IsDateTime}
use Rattle.x509_base.specs.TimeText.{generalized_time_octets}
use Rattle.x509_base.specs.TimeReading.{named_generalized_time, generalized_time_reading, time_from_month}
use Rattle.x509_base.specs.TimeLaws.{named_generalized_time-octets, generalized_time_octets-named, generalized_time_sound, generalized_time_complete, generalized_time_refused}
use Rattle.x509_base.proofs.ReadingLemmas.{reads_ok, reads_err_named, answers_reading, kind_of, is_date_time_too}
use Rattle.x509_base.proofs.generalized_time.GeneralizedTime.from_content.Goals.{then-content-ne15-via-then-content-ne15, then-content-ne15-via-else-content-ne15+then-content-ne90}
use Rattle.x509_base.proofs.generalized_time.GeneralizedTime.from_content.Goals as goal

length-octets : (c : CivilTime) → length (generalized_time_octets c) ≡ 15
unfolding generalized_time_octets
length-octets c = refl

last-octets : (c : CivilTime) → slice_index (generalized_time_octets c) 14 ≡ 90
unfolding generalized_time_octets
last-octets c = refl

pub returns-then-content-ne15-clause-reads : goal.returns-then-content-ne15-clause-reads
returns-then-content-ne15-clause-reads c =
    let bad : c.args.content.now ≡ generalized_time_octets (named_generalized_time c.args.content.now) → ⊥ = λ same.
    elim c.then-content-ne15.branch [
      | then-content-ne15-via-then-content-ne15 w ↦ w.if-content-ne15.true (ap length same ∙ length-octets (named_generalized_time c.args.content.now))
      | then-content-ne15-via-else-content-ne15+then-content-ne90 w ↦ w.if-content-ne90.true (ap (λ (octets : List ℕ). slice_index octets 14) same ∙ last-octets (named_generalized_time c.args.content.now))
    ] in
    reads_err_named named_generalized_time named_generalized_time-octets Malformed c.args.content.now _ (kind_of _ _ c.into.ensures) (λ h. bad)

pub returns-in_default-clause-reads : goal.returns-in_default-clause-reads
returns-in_default-clause-reads c =
    let year = c.long_number_at.ensures in
    reads_err_named named_generalized_time named_generalized_time-octets Malformed c.args.content.now _ (kind_of _ _ c.into-in_default.ensures) (λ h same. true≢false (sym (c.in_default.ensures.succeeds.1 (rw year h))))

pub returns-clause-reads : goal.returns-clause-reads
returns-clause-reads c =
    let date_time = c.in-Ok.ensures.value ∙ ap (λ (y : ℕ). time_from_month y c.args.content.now 4) c.long_number_at.ensures in
    let is = c.from_date_time.ensures ∙ date_time in
    let real : IsDateTime c.in-Ok.date_time = is_date_time_too _ _ c.in-Ok.ensures.value (c.in-Ok.ensures.succeeds.0 refl) in
    let good : IsDateTime (named_generalized_time c.args.content.now) = rw date_time at real in
    let octets = ap generalized_time_octets is ∙ generalized_time_octets-named c.args.content.now c.if-content-ne15.false c.if-content-ne90.false good in
    reads_ok named_generalized_time named_generalized_time-octets Malformed c.args.content.now c.from_date_time.result (rw is good) (sym octets)

pub returns-then-content-ne15-clause-answers : goal.returns-then-content-ne15-clause-answers
returns-then-content-ne15-clause-answers c =
    answers_reading generalized_time_reading generalized_time_sound generalized_time_complete generalized_time_refused c.args.content.now _ (returns-then-content-ne15-clause-reads c)

pub returns-in_default-clause-answers : goal.returns-in_default-clause-answers
returns-in_default-clause-answers c =
    answers_reading generalized_time_reading generalized_time_sound generalized_time_complete generalized_time_refused c.args.content.now _ (returns-in_default-clause-reads c)

pub returns-clause-answers : goal.returns-clause-answers
returns-clause-answers c =
    answers_reading generalized_time_reading generalized_time_sound generalized_time_complete generalized_time_refused c.args.content.now _ (returns-clause-reads c)
