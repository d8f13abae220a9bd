use Rattle.std.proofs.Common.{◌++◌, ◌∙◌, append_assoc}
use Rattle.x509_c_calls.proofs.Notices.{is_display}
use Rattle.x509_c_calls.proofs.Octets.{is_sequence}
use Rattle.x509_c_calls.proofs.Optional.{element_at}
use Rattle.x509_c_calls.proofs.payloads.notice.UserNoticeViewView.view.Goals as goal
use Rattle.x509_c_calls.specs.Notices.{explicit_octets, reference_text}
use Rattle.x509_der.specs.Frames.{fields_octets}
use Rattle.x509_ext.specs.DisplayText.{display_text}
use Rattle.x509_ext.specs.UserNotice.{user_notice, user_notice_fields}

pub returns : goal.returns
unfolding fields_octets user_notice_fields
returns c = λ behind e.
    let it = c.args.value.now in
    let inside = c.enter.ensures.stands 48 (user_notice.content it) behind is_sequence e in
    let reference = c.step_reference.ensures.stands (explicit_octets it ++ behind) (inside.1 ∙ append_assoc (reference_text it.notice_ref) (explicit_octets it) behind) in
    let text = element_at display_text is_display it.explicit_text _ behind _ _ _ _ c.is_some.ensures reference.1 c.step_optional.ensures.there c.step_optional.ensures.absent in
    record { reference = reference.0; explicit_text = text.0 }
