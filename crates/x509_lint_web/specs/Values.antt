-- What rules look at beside the certificate itself.
use Rattle.std.specs.List.{list_any}
use Rattle.std.specs.Prelude.{◌≡◌, ◌↔◌, IsSomeAnd, IsTrue, List}
use Rattle.x509_base.specs.declared.subject_public_key_info.SubjectPublicKeyInfo.{SubjectPublicKeyInfo}
use Rattle.x509_lint.specs.Words.{Certificate, extensions_of, passes}
use Rattle.x509_lint_web.specs.CommonName.{has_odd_name}
use Rattle.x509_lint_web.specs.Label.{is_other_name}
use Rattle.x509_lint_web.specs.Number.{HasCloseModulus, HasPointOff}
use Rattle.x509_lint_web.specs.Words.{AreValuesOf, key_of}
use Rattle.x509_lint_web.specs.declared.common_names.CommonNameFault.TheVariants.{Stray, Rewritten}
use Rattle.x509_lint_web.specs.declared.values.WebValues.{WebValues}
use Rattle.x509_name.specs.declared.attr.type_and_value.AttributeTypeAndValue.{AttributeTypeAndValue}

-- whether the SAN is read, and a commonName of the subject has the fault, or a dNSName a label that isn't one of IDNA
abbrev pub AreNameValues : List (List AttributeTypeAndValue) → WebValues → Type 0
AreNameValues subject v =
    (v.has_stray_name ≡ passes (λ s. has_odd_name Stray s.0 subject) v.subject_alt_name)
    × (v.has_rewritten_name ≡ passes (λ s. has_odd_name Rewritten s.0 subject) v.subject_alt_name)
    × (v.has_other_labels ≡ passes (λ s. list_any is_other_name s.0) v.subject_alt_name)

-- whether Fermat's factorization factors the modulus of an RSAPublicKey, and whether an uncompressed point isn't on its curve
abbrev pub AreKeyValues : SubjectPublicKeyInfo → WebValues → Type 0
AreKeyValues key v =
    (IsTrue v.has_close_factors ↔ IsSomeAnd v.rsa_numbers HasCloseModulus)
    × (IsTrue v.has_point_off_curve ↔ HasPointOff key)

abbrev pub AreWebValues : Certificate → WebValues → Type 0
AreWebValues c v = AreValuesOf (extensions_of c) (key_of c) v × AreKeyValues (key_of c) v × AreNameValues c.tbs_certificate.subject v
