use Rattle.std.proofs.Common.{◌≡◌, ◌++◌, ◌∙◌, refl}
use Rattle.x509_base.specs.AlgorithmIdentifier.{algorithm_identifier}
use Rattle.x509_base.specs.SubjectPublicKeyInfo.{subject_public_key_info}
use Rattle.x509_c_calls.proofs.Octets.{is_explicit_0, is_sequence}
use Rattle.x509_c_calls.proofs.RequestFields.{is_integer, three, four}
use Rattle.x509_c_calls.proofs.request.view.request_at.Goals as goal
use Rattle.x509_c_calls.specs.RequestView.{behind_part, behind_key, behind_subject, version_of}
use Rattle.x509_cert.specs.declared.request.version.Version.{Version}
use Rattle.x509_cert.specs.declared.request.version.Version.TheVariants.{V1}
use Rattle.x509_cert.specs.CertReq.{attributes, cert_req, cert_req_fields, cert_req_info, cert_req_info_fields}
use Rattle.x509_cert.specs.RequestVersion.{version}
use Rattle.x509_der.specs.Element.{element}
use Rattle.x509_der.specs.Frames.{fields_octets, implicit}
use Rattle.x509_der.specs.Form.{spelling}
use Rattle.x509_name.specs.Names.{name}
use Rattle.x509_prim.specs.BitString.{bit_string}

version_alone : (v : Version) → 1 ≡ version_of v
version_alone V1 = refl

pub returns : goal.returns
unfolding fields_octets cert_req_fields cert_req_info_fields
returns c = λ it behind e.
    let part = it.info in
    let part_text = cert_req_info.content part in
    let version_text = spelling version part.version in
    let subject_text = spelling name part.subject in
    let key_text = spelling subject_public_key_info part.public_key in
    let attributes_text = spelling (implicit 0 attributes) part.attributes in
    let outside = c.enter.ensures.stands 48 (cert_req.content it) behind is_sequence e in
    let fields = outside.1 ∙ three (element 48 part_text) (spelling algorithm_identifier it.algorithm) (spelling bit_string it.signature) behind in
    let signature = c.signature_at-signature.ensures part_text it.algorithm it.signature behind fields in
    let inside = c.enter-2.ensures.stands 48 part_text (behind_part it behind) is_sequence fields in
    let versioned = c.step.ensures.stands version_text (subject_text ++ behind_subject it behind) (2, version.content part.version, is_integer, refl) (inside.1 ∙ four version_text subject_text key_text attributes_text (behind_part it behind)) in
    let subject = c.step-subject.ensures.stands subject_text (behind_subject it behind) (48, name.content part.subject, is_sequence, refl) versioned.1 in
    let key = c.step-subject_public_key_info.ensures.stands key_text (behind_key it behind) (48, subject_public_key_info.content part.public_key, is_sequence, refl) subject.1 in
    let set = c.step-2.ensures.stands attributes_text (behind_part it behind) (160, (implicit 0 attributes).content part.attributes, is_explicit_0, refl) key.1 in
    record { version = version_alone part.version; subject = subject.0; subject_public_key_info = key.0; attributes = set.0; signature = signature }
