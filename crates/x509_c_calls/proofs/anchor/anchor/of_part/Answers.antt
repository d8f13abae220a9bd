use Rattle.std.proofs.Common.{refl}
use Rattle.x509_base.specs.Profiles.{rfc5280_serial_number}
use Rattle.x509_c_calls.proofs.anchor.anchor.of_part.Goals as goal
use Rattle.x509_c_calls.proofs.Octets.{is_list_1}
use Rattle.x509_cert.specs.TbsCertificate.{tbs_certificate}
use Rattle.x509_der.specs.Form.{spelling}

pub returns : goal.returns
returns c = λ behind e.
    let it = c.args.value.now in
    let element = c.content_at-element.ensures.stands 161 (spelling (tbs_certificate rfc5280_serial_number) it) behind is_list_1 e in
    rw c.with_part.ensures (record { kind = refl; element = element; part = c.view-part.ensures behind element.0; others = (refl, refl, refl, refl) })
