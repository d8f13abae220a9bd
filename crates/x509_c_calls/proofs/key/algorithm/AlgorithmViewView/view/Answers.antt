use Rattle.std.proofs.Common.{◌++◌, ◌∙◌, ap, append_assoc}
use Rattle.x509_base.specs.AlgorithmIdentifier.{algorithm_identifier, algorithm_identifier_fields}
use Rattle.x509_c_calls.specs.Algorithms.{parameters_text}
use Rattle.x509_c_calls.specs.Kinds.{signature_number}
use Rattle.x509_c_calls.proofs.key.algorithm.AlgorithmViewView.view.Goals as goal
use Rattle.x509_c_calls.proofs.Octets.{is_oid, is_sequence}
use Rattle.x509_c_calls.proofs.Optional.{element_at}
use Rattle.x509_der.specs.ObjectIdentifierForm.{object_identifier}
use Rattle.x509_der.specs.TagLaws.{tag_is_identifier}
use Rattle.x509_der.specs.Any.{any}
use Rattle.x509_der.specs.Frames.{fields_octets}
use Rattle.x509_der.specs.Form.{spelling}

pub returns : goal.returns
unfolding fields_octets algorithm_identifier_fields
returns c = λ behind e.
    let it = c.args.value.now in
    let inside = c.enter.ensures.stands 48 (algorithm_identifier.content it) behind is_sequence e in
    let oid = c.step_content.ensures.stands 6 it.oid (parameters_text it ++ behind) is_oid (inside.1 ∙ append_assoc (spelling object_identifier it.oid) (parameters_text it) behind) in
    let parameters = element_at any (λ v. tag_is_identifier v.tag) it.parameters _ behind _ _ _ _ c.is_some.ensures oid.1 c.step_optional.ensures.there c.step_optional.ensures.absent in
    record { kind = c.number.ensures ∙ ap signature_number c.of.ensures; oid = oid.0; parameters = parameters.0 }
