use Rattle.std.proofs.Common.{◌∙◌, IfOk, ap, subst}
use Rattle.x509_base.specs.declared.profile.Raw.{Raw}
use Rattle.x509_cert.specs.declared.certificate.tbs_certificate.TbsCertificateInner.{TbsCertificateInner}
use Rattle.x509_lint.specs.Words.{extensions_of}
use Rattle.x509_lint_web.specs.Values.{AreKeyValues, AreNameValues}
use Rattle.x509_lint_web.specs.Words.{AreValuesOf, key_of}
use Rattle.x509_lint_web.proofs.values.web_values.Goals as goal

pub returns-clause-ok : goal.returns-clause-ok
returns-clause-ok c =
    let same_key = c.subject_public_key_info-key.ensures ∙ ap (λ (t : TbsCertificateInner Raw). t.subject_public_key_info) c.tbs_certificate-part.ensures in
    let same_subject = c.subject-subject.ensures ∙ ap (λ (t : TbsCertificateInner Raw). t.subject) c.tbs_certificate-part.ensures in
    subst (λ subject. IfOk c.values_of.result (λ v. AreValuesOf (extensions_of c.args.certificate.now) (key_of c.args.certificate.now) v × AreKeyValues (key_of c.args.certificate.now) v × AreNameValues subject v)) same_subject
    (subst (λ key. IfOk c.values_of.result (λ v. AreValuesOf (extensions_of c.args.certificate.now) key v × AreKeyValues key v × AreNameValues c.subject-subject.result.now v)) same_key
    (subst (λ es. IfOk c.values_of.result (λ v. AreValuesOf es c.subject_public_key_info-key.result.now v × AreKeyValues c.subject_public_key_info-key.result.now v × AreNameValues c.subject-subject.result.now v)) c.extensions_of.ensures c.values_of.ensures.ok))
