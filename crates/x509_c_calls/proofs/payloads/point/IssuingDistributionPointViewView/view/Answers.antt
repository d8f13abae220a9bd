use Rattle.std.proofs.Common.{◌++◌, ◌∙◌, append_assoc, ap}
use Rattle.x509_c_calls.proofs.Octets.{is_sequence}
use Rattle.x509_c_calls.proofs.payloads.point.IssuingDistributionPointViewView.view.Goals as goal
use Rattle.x509_c_calls.specs.Points.{name_text, scope_text, said_text}
use Rattle.x509_der.specs.Frames.{fields_octets, implicit, optional_octets}
use Rattle.x509_der.specs.Form.{spelling}
use Rattle.x509_ext.specs.IssuingDistributionPoint.{issuing_distribution_point, issuing_distribution_point_fields}
use Rattle.x509_ext.specs.Reasons.{reasons}

pub returns : goal.returns
unfolding fields_octets issuing_distribution_point_fields
returns c = λ behind e.
    let it = c.args.value.now in
    let name = name_text it.distribution_point in
    let kinds = said_text 1 it.only_contains_user_certs ++ said_text 2 it.only_contains_ca_certs in
    let others = optional_octets (spelling (implicit 3 reasons)) it.only_some_reasons ++ (said_text 4 it.indirect_crl ++ said_text 5 it.only_contains_attribute_certs) in
    let inside = c.enter.ensures.stands 48 (issuing_distribution_point.content it) behind is_sequence e in
    let names = c.step_name.ensures.stands (scope_text it ++ behind) (inside.1 ∙ ap (λ x. x ++ behind) (append_assoc name kinds others) ∙ append_assoc name (scope_text it) behind) in
    record { name = names.0; only_contains_user_certs = c.flag.ensures; only_contains_ca_certs = c.flag-2.ensures; only_some_reasons = c.reason_bits-has_only_some_reasons.ensures; indirect_crl = c.flag-3.ensures; only_contains_attribute_certs = c.flag-4.ensures }
