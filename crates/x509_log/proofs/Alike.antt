-- What a log signs of a certificate and of its precertificate.
use Rattle.std.proofs.Common.{◌≡◌, ℕ, List, [], ◌∷◌, None, Result, refl, sym, ap, ◌∙◌}
use Rattle.x509_cert.specs.TbsCertificate.{tbs_certificate, tbs_certificate_lawful}
use Rattle.x509_cert.specs.Without.{where_any, without_oid}
use Rattle.x509_cert.specs.declared.certificate.tbs_certificate.TbsCertificateInner.{TbsCertificateInner}
use Rattle.x509_der.specs.Form.{Spells, spelling}
use Rattle.x509_der.specs.SpellingLaws.{values}
use Rattle.x509_der.specs.declared.error.ErrorKind.{ErrorKind}
use Rattle.x509_ext.specs.LookUp.{members}
use Rattle.x509_ext.specs.declared.extension.Extension.{Extension}
use Rattle.x509_log.specs.Logged.{AgreeButFor, without_poison, without_timestamps}
use Rattle.x509_sct.specs.Identifier.{embedded_timestamps, precertificate_poison}

members_where : (xs : List Extension) → members (where_any xs) ≡ xs
members_where [] = refl
members_where (x ∷ xs) = refl

module _ {P : Type 0} (certificate precertificate : TbsCertificateInner P) where
  same_value : AgreeButFor certificate precertificate → without_timestamps certificate ≡ without_poison precertificate
  same_value agree =
      ap (λ (t : TbsCertificateInner P). record t { extensions = where_any (without_oid embedded_timestamps (members certificate.extensions)) }) agree.0
      ∙ ap (λ (xs : List Extension). record precertificate { extensions = where_any xs }) agree.1

  agree_so : without_timestamps certificate ≡ without_poison precertificate → AgreeButFor certificate precertificate
  agree_so same = (
    ap (λ (t : TbsCertificateInner P). record t { extensions = None }) same,
    sym (members_where (without_oid embedded_timestamps (members certificate.extensions)))
        ∙ ap (λ (t : TbsCertificateInner P). members t.extensions) same
        ∙ members_where (without_oid precertificate_poison (members precertificate.extensions)),
  )

  module _ (check : List ℕ → Result Unit ErrorKind) where
    pub alike : (a b : List ℕ) → AgreeButFor certificate precertificate → Spells (tbs_certificate check) (without_timestamps certificate) a → Spells (tbs_certificate check) (without_poison precertificate) b → a ≡ b
    alike a b agree s t = s.1 ∙ ap (spelling (tbs_certificate check)) (same_value agree) ∙ sym t.1

    pub agree_only : (a : List ℕ) → Spells (tbs_certificate check) (without_timestamps certificate) a → Spells (tbs_certificate check) (without_poison precertificate) a → AgreeButFor certificate precertificate
    agree_only a s t = agree_so (values (tbs_certificate check) (tbs_certificate_lawful check) _ _ a s t)
