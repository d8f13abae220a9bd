use Rattle.x509_der.specs.Frames.{fields_octets}
use Rattle.x509_der.specs.FrameWriting.{text_in_option, refusal_in_option}
use Rattle.x509_cert.proofs.Refusals.{never_refused, before_none}
use Rattle.x509_cert.specs.CertPathControls.{cert_path_controls_fields}
use Rattle.x509_cert.proofs.anchor.cert_path_controls.CertPathControlsContent.write_content.Goals as goal

pub returns : goal.returns
unfolding fields_octets cert_path_controls_fields
returns g c =
    let texts = rw (c.optional_implicit.ensures.text, c.optional_implicit-2.ensures.text, c.optional_implicit-3.ensures.text, c.optional_implicit-4.ensures.text, c.optional_implicit-5.ensures.text) at c.put_part.ensures in
    let refusals = rw (c.optional_implicit.ensures.refusal, c.optional_implicit-2.ensures.refusal, c.optional_implicit-3.ensures.refusal, c.optional_implicit-4.ensures.refusal, c.optional_implicit-5.ensures.refusal) at texts in
    let known = simp (never_refused, before_none) at refusals in
    rw (text_in_option, text_in_option, refusal_in_option, refusal_in_option) known
