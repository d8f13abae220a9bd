use Rattle.std.proofs.Common.{◌∙◌, ap}
use Rattle.x509_c_calls.proofs.Texts.{fills_with, is_dotted}
use Rattle.x509_c_calls.proofs.payloads.identifiers.oid_text.Goals as goal
use Rattle.x509_der.specs.Arcs.{dotted}
use Rattle.x509_der.specs.ObjectIdentifier.{arcs_of}
use Rattle.x509_der.specs.ObjectIdentifierForm.{arcs_pass}

pub returns-in-Ok-to_string-clause-filled : goal.returns-in-Ok-to_string-clause-filled
returns-in-Ok-to_string-clause-filled c =
    let found = c.in-Ok.ensures.ok in
    let text = c.as_bytes.ensures.value ∙ c.as_str.ensures.value ∙ c.in-Ok-to_string.ensures.ok ∙ ap (λ o. dotted (arcs_of o)) found.3 in
    fills_with _ _ _ _ _ _ _ (is_dotted _ _ (arcs_pass _ (found.0, found.1, found.2)) text) c.fill.ensures.left c.fill.ensures.accepted
