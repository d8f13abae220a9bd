use Rattle.std.proofs.Common.{◌≡◌, length, List, ℕ, refl, ap, sym, ◌∙◌, true≢false}
use Rattle.x509_der.specs.declared.error.ErrorKind.TheVariants.{Failed}
use Rattle.x509_base.specs.CivilTime.{CivilTime, civil_time}
use Rattle.x509_base.specs.TimeText.{date_time_text}
use Rattle.x509_base.specs.TimeReading.{number_at, long_number_at, named_by_text}
use Rattle.x509_base.specs.TimeLaws.{named_by_text-text}
use Rattle.x509_base.proofs.ReadingLemmas.{reads_ok, reads_err_named, equal_bytes, other_bytes, kind_of, is_date_time_too}
use Rattle.x509_base.proofs.date_time.DateTimeFromStr.from_str.Goals as goal

length-text : (c : CivilTime) → length (date_time_text c) ≡ 20
unfolding date_time_text
length-text c = refl

-- the date-time with these parts is what the text names
named : (bytes : List ℕ) (year month day hour minutes seconds : ℕ) → year ≡ long_number_at bytes 0 → month ≡ number_at bytes 5 → day ≡ number_at bytes 8 → hour ≡ number_at bytes 11 → minutes ≡ number_at bytes 14 → seconds ≡ number_at bytes 17 → civil_time year month day hour minutes seconds ≡ named_by_text bytes
named bytes year month day hour minutes seconds y m d h n s =
    λ i. record { year = y i; month = m i; day = d i; hour = h i; minutes = n i; seconds = s i }

pub returns-then-bytes-ne20 : goal.returns-then-bytes-ne20
returns-then-bytes-ne20 c =
    let bytes = c.as_bytes-bytes.ensures.value in
    rw (← bytes) (reads_err_named named_by_text named_by_text-text Failed c.as_bytes-bytes.result.now _ (kind_of _ _ c.into.ensures) (λ h same. c.if-bytes-ne20.true (ap length same ∙ length-text (named_by_text c.as_bytes-bytes.result.now))))

pub returns-in_default : goal.returns-in_default
returns-in_default c =
    let bytes = c.as_bytes-bytes.ensures.value in
    let is = named c.as_bytes-bytes.result.now _ _ _ _ _ _ c.long_number_at.ensures c.number_at.ensures c.number_at-2.ensures c.number_at-3.ensures c.number_at-4.ensures c.number_at-5.ensures in
    rw (← bytes) (reads_err_named named_by_text named_by_text-text Failed c.as_bytes-bytes.result.now _ (kind_of _ _ c.into-in_default.ensures) (λ h same. true≢false (sym (c.in_default.ensures.succeeds.1 (is_date_time_too _ _ is h)))))

pub returns-then-ne : goal.returns-then-ne
returns-then-ne c =
    let bytes = c.as_bytes-bytes.ensures.value in
    let is = c.in-Ok.ensures.value ∙ named c.as_bytes-bytes.result.now _ _ _ _ _ _ c.long_number_at.ensures c.number_at.ensures c.number_at-2.ensures c.number_at-3.ensures c.number_at-4.ensures c.number_at-5.ensures in
    let text = c.as_slice.ensures ∙ c.text.ensures ∙ ap date_time_text is in
    rw (← bytes) (reads_err_named named_by_text named_by_text-text Failed c.as_bytes-bytes.result.now _ (kind_of _ _ c.into-then-ne.ensures) (λ h same. other_bytes _ _ _ c.ne.ensures c.if-ne.true (text ∙ sym same)))

pub returns : goal.returns
returns c =
    let bytes = c.as_bytes-bytes.ensures.value in
    let text = c.as_slice.ensures ∙ c.text.ensures in
    rw (← bytes) (reads_ok named_by_text named_by_text-text Failed c.as_bytes-bytes.result.now c.in-Ok.date_time (rw c.in-Ok.ensures.value (c.in-Ok.ensures.succeeds.0 refl)) (sym (equal_bytes _ _ _ c.ne.ensures c.if-ne.false) ∙ text))
