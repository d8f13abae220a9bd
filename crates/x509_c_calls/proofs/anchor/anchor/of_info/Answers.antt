use Rattle.std.proofs.Common.{refl}
use Rattle.x509_base.specs.Profiles.{rfc5280_serial_number}
use Rattle.x509_c_calls.proofs.anchor.anchor.of_info.Goals as goal
use Rattle.x509_c_calls.proofs.Octets.{is_list_2}
use Rattle.x509_cert.specs.TrustAnchorInfo.{trust_anchor_info}
use Rattle.x509_der.specs.Form.{spelling}

pub returns : goal.returns
returns c = λ behind e.
    let it = c.args.value.now in
    let element = c.content_at-element.ensures.stands 162 (spelling (trust_anchor_info rfc5280_serial_number) it) behind is_list_2 e in
    record { kind = refl; element = element; info = c.view-info.ensures behind element.0 }
