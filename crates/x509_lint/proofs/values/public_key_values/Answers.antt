use Rattle.std.proofs.Common.{◌∙◌, ap, subst}
use Rattle.x509_base.specs.declared.profile.Raw.{Raw}
use Rattle.x509_base.specs.declared.subject_public_key_info.SubjectPublicKeyInfo.{SubjectPublicKeyInfo}
use Rattle.x509_cert.specs.declared.certificate.tbs_certificate.TbsCertificateInner.{TbsCertificateInner}
use Rattle.x509_ext.specs.Identifiers.{id_ce}
use Rattle.x509_ext.specs.KeyUsage.{key_usage}
use Rattle.x509_lint.specs.PublicKey.{numbers}
use Rattle.x509_lint.specs.Words.{IsSpelled, IsValue}
use Rattle.x509_lint.proofs.values.public_key_values.Goals as goal

pub returns-clause-ok : goal.returns-clause-ok
returns-clause-ok c =
    let same_key = c.subject_public_key_info-key.ensures ∙ ap (λ (t : TbsCertificateInner Raw). t.subject_public_key_info) c.tbs_certificate.ensures in (
      subst (λ octets. IsSpelled numbers octets c.in_ok-spelled.field-0) (c.raw_bytes.ensures.octets ∙ ap (λ (k : SubjectPublicKeyInfo). k.subject_public_key.octets) same_key) c.in_ok-spelled.ensures.ok,
      subst (λ es. IsValue key_usage (id_ce 15) es c.in_ok-payload.field-0) c.extensions_of.ensures c.in_ok-payload.ensures.ok,
    )
