-- Versions of certificates, and their extensions.
use Rattle.std.proofs.Common.{◌≡◌, ◌↔◌, ◌∙◌, inl, inr, Bool, false, List, [], ◌∷◌, refl, sym}
use Rattle.std.proofs.lemmas.Bool.{true≢false}
use Rattle.std.specs.Bool.{IsTrue}
use Rattle.x509_cert.specs.declared.certificate.version.Version.TheVariants.{V1, V2, V3}
use Rattle.x509_check.specs.ExtensionRefs.{lent_extension}
use Rattle.x509_check.specs.declared.lent.extension.ExtensionRef.{ExtensionRef}
use Rattle.x509_ext.specs.declared.extension.Extension.{Extension}
use Rattle.x509_path.specs.Certificates as certificates
use Rattle.x509_path.specs.Certificates.{Certificate, extensions_of}
use Rattle.x509_path.specs.Lent.{lent_extensions}
use Rattle.x509_path_steps.specs.Validation.{IsAuthority}

module _ (allows : Bool) (c : Certificate) where
  pub of_first : V1 ≡ c.tbs_certificate.version → IsTrue allows ↔ IsAuthority allows c
  of_first is = (
    (λ so. inr (so, sym is)),
    elim [ inl (third, ca) ↦ (let e : V1 ≡ V3 = is ∙ third in cc) | inr (so, first) ↦ so ],
  )

  pub of_second : V2 ≡ c.tbs_certificate.version → IsTrue false ↔ IsAuthority allows c
  of_second is = (
    (λ never. absurd (true≢false (sym never))),
    elim [ inl (third, ca) ↦ (let e : V2 ≡ V3 = is ∙ third in cc) | inr (so, first) ↦ (let e : V2 ≡ V1 = is ∙ first in cc) ],
  )

  pub of_third : (b : Bool) → V3 ≡ c.tbs_certificate.version → IsTrue b ↔ certificates.IsCa (extensions_of c) → IsTrue b ↔ IsAuthority allows c
  of_third b is ca = (
    (λ so. inl (sym is, ca.0 so)),
    elim [ inl (third, so) ↦ ca.1 so | inr (so, first) ↦ (let e : V3 ≡ V1 = is ∙ first in cc) ],
  )

-- none are lent where there are none
pub none_lent : (refs : List ExtensionRef) (es : List Extension) → lent_extensions refs ≡ es → (refs ≡ []) ↔ (es ≡ [])
none_lent [] es is = ((λ none. sym is), (λ none. refl))
none_lent (x ∷ refs) es is = ((λ none. cc), (λ none. let e : lent_extension x ∷ lent_extensions refs ≡ [] = is ∙ none in cc))
