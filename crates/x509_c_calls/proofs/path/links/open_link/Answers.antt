use Rattle.std.proofs.Common.{◌∙◌, sym, subst}
use Rattle.x509_base.specs.SubjectPublicKeyInfo.{subject_public_key_info}
use Rattle.x509_cert.specs.Certificate.{rfc5280_certificate}
use Rattle.x509_cert.specs.Signed.{IsSignedPart}
use Rattle.x509_der.specs.Form.{Spells}
use Rattle.x509_c_calls.proofs.path.links.open_link.Goals as goal

pub returns : goal.returns
returns c =
    let part = c.in-Some.ensures in
    let key_part = c.in-Some-part_of.ensures in
    let found = c.in-Ok.ensures.found in
    let certificate = found.1.0 in
    let key = c.in_default-check.ensures.found in
    let lends = subst (λ octets. Spells rfc5280_certificate certificate octets) (sym found.0) found.1.1 in
    let here = subst (λ octets. Spells rfc5280_certificate certificate octets) part.1 found.1.1 in (
      record { within = (part.0, key_part.0); certificate = (certificate, here); key = (key.0, subst (λ octets. Spells subject_public_key_info key.0 octets) key_part.1 key.1) },
      record {
        certificate = certificate;
        spells = here;
        algorithm = c.signature_algorithm.ensures certificate lends;
        key = key_part.1;
        message = subst (λ octets. IsSignedPart octets c.signed_part.result.now) (found.0 ∙ part.1) c.signed_part.ensures.signed;
        signature = c.signature.ensures certificate lends;
      },
    )
