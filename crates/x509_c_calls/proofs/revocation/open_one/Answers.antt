use Rattle.std.proofs.Common.{◌∙◌, Some, refl, subst, sym}
use Rattle.x509_base.specs.SubjectPublicKeyInfo.{subject_public_key_info}
use Rattle.x509_cert.specs.CertificateList.{rfc5280_certificate_list}
use Rattle.x509_der.specs.Form.{Spells}
use Rattle.x509_name.specs.Names.{name}
use Rattle.x509_c_calls.proofs.revocation.open_one.Goals as goal
use Rattle.x509_c_calls.specs.RevocationStatus.{part_of}
use Rattle.x509_path.specs.declared.anchor.Anchor.{Anchor}
use Rattle.x509_revocation.specs.Lent.{LendsCrl}
use Rattle.x509_revocation.specs.Says.{GivenCrl}

pub returns : goal.returns
returns c =
    let bytes = c.args.bytes.now in
    let spans = c.args.spans.now in
    let list_part = c.in-Some.ensures in
    let name_part = c.in-Some-part_of.ensures in
    let key_part = c.in-Some-part_of-2.ensures in
    let list = c.in-Ok.ensures.found in
    let named = c.in_default-check.ensures.found in
    let keyed = c.in_default-check-2.ensures.found in
    let signer : Anchor = record { name = named.0; key = keyed.0 } in
    let given : GivenCrl = record { crl = list.1.0; bytes = part_of bytes spans.crl; signer = Some signer } in (
      given,
      record {
        within = (list_part.0, name_part.0, key_part.0);
        bytes_are = refl;
        crl = subst (λ octets. Spells rfc5280_certificate_list given.crl octets) list_part.1 list.1.1;
        signer = signer;
        is_signer = refl;
        name = subst (λ octets. Spells name signer.name octets) name_part.1 named.1;
        key = subst (λ octets. Spells subject_public_key_info signer.key octets) key_part.1 keyed.1;
      },
      record { bytes = list.0 ∙ list_part.1; crl = subst (λ octets. LendsCrl octets given.crl) (sym list.0) list.1.1; signer = (named.1, keyed.1) },
    )
