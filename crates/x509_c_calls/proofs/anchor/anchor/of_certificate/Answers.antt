use Rattle.std.proofs.Common.{◌∙◌, refl}
use Rattle.x509_base.specs.AlgorithmIdentifier.{algorithm_identifier}
use Rattle.x509_base.specs.Profiles.{rfc5280_serial_number}
use Rattle.x509_c_calls.proofs.AnchorFields.{three}
use Rattle.x509_c_calls.proofs.anchor.anchor.of_certificate.Goals as goal
use Rattle.x509_c_calls.specs.Anchors.{behind_part}
use Rattle.x509_c_calls.proofs.Octets.{is_sequence}
use Rattle.x509_cert.specs.Certificate.{certificate, certificate_fields}
use Rattle.x509_cert.specs.TbsCertificate.{tbs_certificate}
use Rattle.x509_der.specs.Frames.{fields_octets}
use Rattle.x509_der.specs.Form.{spelling}
use Rattle.x509_prim.specs.BitString.{bit_string}

pub returns : goal.returns
unfolding fields_octets certificate_fields
returns c = λ behind e.
    let it = c.args.value.now in
    let content = (certificate rfc5280_serial_number).content it in
    let element = c.step-element.ensures.stands (spelling (certificate rfc5280_serial_number) it) behind (48, content, is_sequence, refl) e in
    let inside = c.enter.ensures.stands 48 content behind is_sequence e in
    let laid_out = inside.1 ∙ three (spelling (tbs_certificate rfc5280_serial_number) it.tbs_certificate) (spelling algorithm_identifier it.signature_algorithm) (spelling bit_string it.signature) behind in
    let viewed = rw c.tbs_certificate.ensures at c.view-part.ensures in
    rw c.with_part.ensures (record { kind = refl; element = element.0; part = viewed (behind_part it behind) laid_out; others = (refl, refl, refl, refl) })
