use Rattle.std.proofs.Common.{◌++◌, ◌∙◌, ap, append_assoc}
use Rattle.x509_c_calls.proofs.Octets.{is_implicit_1, is_list_2, is_sequence}
use Rattle.x509_c_calls.proofs.Optional.{element_at, is_field}
use Rattle.x509_c_calls.proofs.payloads.point.DistributionPointViewView.view.Goals as goal
use Rattle.x509_c_calls.specs.Points.{issuer_text, name_text, reasons_text}
use Rattle.x509_der.specs.Frames.{fields_octets, implicit}
use Rattle.x509_ext.specs.GeneralName.{general_names}
use Rattle.x509_ext.specs.DistributionPoint.{distribution_point, distribution_point_fields}
use Rattle.x509_ext.specs.Reasons.{reasons}

pub returns : goal.returns
unfolding fields_octets distribution_point_fields
returns c = λ behind e.
    let it = c.args.value.now in
    let name = name_text it.distribution_point in
    let inside = c.enter.ensures.stands 48 (distribution_point.content it) behind is_sequence e in
    let laid_out = append_assoc name (reasons_text it ++ issuer_text it) behind ∙ ap (λ x. name ++ x) (append_assoc (reasons_text it) (issuer_text it) behind) in
    let names = c.step_name.ensures.stands (reasons_text it ++ (issuer_text it ++ behind)) (inside.1 ∙ laid_out) in
    let some = c.step.ensures.stands (reasons_text it) (issuer_text it ++ behind) (is_field (implicit 1 reasons) (λ v. is_implicit_1) it.reasons _ c.is_some.ensures) names.1 in
    let issuer = element_at (implicit 2 general_names) (λ v. is_list_2) it.crl_issuer _ behind _ _ _ _ c.is_some-2.ensures some.1 c.step_optional.ensures.there c.step_optional.ensures.absent in
    record { name = names.0; reasons = c.reason_bits-has_reasons.ensures; crl_issuer = issuer.0 }
