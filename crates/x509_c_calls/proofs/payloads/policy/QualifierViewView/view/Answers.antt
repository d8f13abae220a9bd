use Rattle.std.proofs.Common.{◌++◌, ◌∙◌, append_assoc}
use Rattle.x509_c_calls.proofs.Octets.{is_oid, is_sequence}
use Rattle.x509_c_calls.proofs.Optional.{element_at}
use Rattle.x509_c_calls.proofs.payloads.policy.QualifierViewView.view.Goals as goal
use Rattle.x509_der.specs.ObjectIdentifierForm.{object_identifier}
use Rattle.x509_der.specs.TagLaws.{tag_is_identifier}
use Rattle.x509_der.specs.Any.{any}
use Rattle.x509_der.specs.Frames.{fields_octets, optional_octets}
use Rattle.x509_der.specs.Form.{spelling}
use Rattle.x509_ext.specs.PolicyQualifierInfo.{policy_qualifier_info, policy_qualifier_info_fields}

pub returns : goal.returns
unfolding fields_octets policy_qualifier_info_fields
returns c = λ behind e.
    let it = c.args.value.now in
    let rest = optional_octets (spelling any) it.qualifier in
    let inside = c.enter.ensures.stands 48 (policy_qualifier_info.content it) behind is_sequence e in
    let identifier = c.step_content.ensures.stands 6 it.policy_qualifier_id (rest ++ behind) is_oid (inside.1 ∙ append_assoc (spelling object_identifier it.policy_qualifier_id) rest behind) in
    let qualifier = element_at any (λ v. tag_is_identifier v.tag) it.qualifier _ behind _ _ _ _ c.is_some.ensures identifier.1 c.step_optional.ensures.there c.step_optional.ensures.absent in
    record { identifier = identifier.0; qualifier = qualifier.0 }
