use Rattle.std.proofs.Common.{◌++◌, ◌∙◌, refl, append_assoc}
use Rattle.x509_c_calls.proofs.Notices.{is_display}
use Rattle.x509_c_calls.proofs.Octets.{is_sequence}
use Rattle.x509_c_calls.proofs.Optional.{element_at}
use Rattle.x509_c_calls.proofs.payloads.notice.step_reference.Goals as goal
use Rattle.x509_c_calls.specs.Notices.{notice_numbers}
use Rattle.x509_der.specs.Frames.{fields_octets, optional_octets}
use Rattle.x509_der.specs.Form.{spelling}
use Rattle.x509_ext.specs.DisplayText.{display_text}
use Rattle.x509_ext.specs.NoticeReference.{notice_reference, notice_reference_fields}

pub returns-in-Some-clause-stands : goal.returns-in-Some-clause-stands
unfolding fields_octets notice_reference_fields
returns-in-Some-clause-stands c = λ more e.
    let it = c.in-Some.reference in
    let here = rw c.in-Some.is at e in
    let numbers_text = optional_octets (spelling notice_numbers) it.notice_numbers in
    let inside = c.enter.ensures.stands 48 (notice_reference.content it) more is_sequence here in
    let whole = c.step.ensures.stands (spelling notice_reference it) more (48, notice_reference.content it, is_sequence, refl) here in
    let organization = c.step-organization.ensures.stands (spelling display_text it.organization) (numbers_text ++ more) (display_text.tag it.organization, display_text.content it.organization, is_display it.organization, refl) (inside.1 ∙ append_assoc (spelling display_text it.organization) numbers_text more) in
    let numbers = element_at notice_numbers (λ v. is_sequence) it.notice_numbers _ more _ _ _ _ c.is_some.ensures organization.1 c.step_optional-numbers.ensures.there c.step_optional-numbers.ensures.absent in
    rw c.in-Some.is ((organization.0, numbers.0), whole.1)
