use Rattle.std.proofs.Common.{◌++◌, ◌∙◌, append_assoc}
use Rattle.x509_c_calls.proofs.Octets.{is_oid, is_sequence}
use Rattle.x509_c_calls.proofs.payloads.policy.MappingViewView.view.Goals as goal
use Rattle.x509_der.specs.ObjectIdentifierForm.{object_identifier}
use Rattle.x509_der.specs.Frames.{fields_octets}
use Rattle.x509_der.specs.Form.{spelling}
use Rattle.x509_ext.specs.PolicyMapping.{policy_mapping, policy_mapping_fields}

pub returns : goal.returns
unfolding fields_octets policy_mapping_fields
returns c = λ behind e.
    let it = c.args._value.now in
    let inside = c.enter.ensures.stands 48 (policy_mapping.content it) behind is_sequence e in
    let issuer = c.step_content.ensures.stands 6 it.issuer_domain_policy (spelling object_identifier it.subject_domain_policy ++ behind) is_oid (inside.1 ∙ append_assoc (spelling object_identifier it.issuer_domain_policy) (spelling object_identifier it.subject_domain_policy) behind) in
    let subject = c.step_content-2.ensures.stands 6 it.subject_domain_policy behind is_oid issuer.1 in
    record { issuer_policy = issuer.0; subject_policy = subject.0 }
