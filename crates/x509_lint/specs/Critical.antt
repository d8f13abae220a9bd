-- The rules on which extensions of a certificate are critical (RFC 5280 4.2.1, 4.2.2): what breaks each, their order, and how each is told.
use Rattle.std.specs.Prelude.{◌&&◌, not, List, [], ◌∷◌, codes}
use Rattle.x509_ext.specs.Identifiers.{id_ce, id_pkix}
use Rattle.x509_lint.specs.OtherTypes.{ocsp_no_check, precertificate_poison}
use Rattle.x509_lint.specs.Words.{Certificate, extensions_of, has_critical, has_uncritical, is_empty}
use Rattle.x509_lint.specs.declared.facts.CertificateFacts.{CertificateFacts}
use Rattle.x509_lint.specs.declared.rule.critical.CriticalRule.{CriticalRule}
use Rattle.x509_lint.specs.declared.rule.critical.CriticalRule.TheVariants as rules
use Rattle.x509_lint.specs.Sentence.{Sentence, must, should, should_of, must_of}

-- ---- the rules, in their order

abbrev pub critical_rules : List CriticalRule
critical_rules =
    rules.AuthorityKeyIdentifierCritical
    ∷ rules.SubjectKeyIdentifierCritical
    ∷ rules.KeyUsageNotCritical
    ∷ rules.PolicyMappingsNotCritical
    ∷ rules.SubjectAltNameCritical
    ∷ rules.IssuerAltNameCritical
    ∷ rules.SubjectDirectoryAttributesCritical
    ∷ rules.NameConstraintsNotCritical
    ∷ rules.PolicyConstraintsNotCritical
    ∷ rules.CrlDistributionPointsCritical
    ∷ rules.InhibitAnyPolicyNotCritical
    ∷ rules.FreshestCrlCritical
    ∷ rules.AuthorityInfoAccessCritical
    ∷ rules.SubjectInfoAccessCritical
    ∷ rules.OcspNoCheckCritical
    ∷ rules.PrecertificatePoisonNotCritical ∷ []

abbrev pub critical_sentence : CriticalRule → Sentence Certificate CertificateFacts
critical_sentence rules.AuthorityKeyIdentifierCritical =
    must (codes "authority_key_identifier_critical") (codes "4.2.1.1") (codes "tbsCertificate.extensions.authorityKeyIdentifier")
    (λ c facts. has_critical (id_ce 35) (extensions_of c))
critical_sentence rules.SubjectKeyIdentifierCritical =
    must (codes "subject_key_identifier_critical") (codes "4.2.1.2") (codes "tbsCertificate.extensions.subjectKeyIdentifier")
    (λ c facts. has_critical (id_ce 14) (extensions_of c))
critical_sentence rules.KeyUsageNotCritical =
    should (codes "key_usage_not_critical") (codes "4.2.1.3") (codes "tbsCertificate.extensions.keyUsage")
    (λ c facts. has_uncritical (id_ce 15) (extensions_of c))
critical_sentence rules.PolicyMappingsNotCritical =
    should (codes "policy_mappings_not_critical") (codes "4.2.1.5") (codes "tbsCertificate.extensions.policyMappings")
    (λ c facts. has_uncritical (id_ce 33) (extensions_of c))
critical_sentence rules.SubjectAltNameCritical =
    should (codes "subject_alt_name_critical") (codes "4.2.1.6") (codes "tbsCertificate.extensions.subjectAltName")
    (λ c facts. has_critical (id_ce 17) (extensions_of c) && not (is_empty c.tbs_certificate.subject))
critical_sentence rules.IssuerAltNameCritical =
    should (codes "issuer_alt_name_critical") (codes "4.2.1.7") (codes "tbsCertificate.extensions.issuerAltName")
    (λ c facts. has_critical (id_ce 18) (extensions_of c))
critical_sentence rules.SubjectDirectoryAttributesCritical =
    must (codes "subject_directory_attributes_critical") (codes "4.2.1.8") (codes "tbsCertificate.extensions.subjectDirectoryAttributes")
    (λ c facts. has_critical (id_ce 9) (extensions_of c))
critical_sentence rules.NameConstraintsNotCritical =
    must (codes "name_constraints_not_critical") (codes "4.2.1.10") (codes "tbsCertificate.extensions.nameConstraints")
    (λ c facts. has_uncritical (id_ce 30) (extensions_of c))
critical_sentence rules.PolicyConstraintsNotCritical =
    must (codes "policy_constraints_not_critical") (codes "4.2.1.11") (codes "tbsCertificate.extensions.policyConstraints")
    (λ c facts. has_uncritical (id_ce 36) (extensions_of c))
critical_sentence rules.CrlDistributionPointsCritical =
    should (codes "crl_distribution_points_critical") (codes "4.2.1.13") (codes "tbsCertificate.extensions.cRLDistributionPoints")
    (λ c facts. has_critical (id_ce 31) (extensions_of c))
critical_sentence rules.InhibitAnyPolicyNotCritical =
    must (codes "inhibit_any_policy_not_critical") (codes "4.2.1.14") (codes "tbsCertificate.extensions.inhibitAnyPolicy")
    (λ c facts. has_uncritical (id_ce 54) (extensions_of c))
critical_sentence rules.FreshestCrlCritical =
    must (codes "freshest_crl_critical") (codes "4.2.1.15") (codes "tbsCertificate.extensions.freshestCRL")
    (λ c facts. has_critical (id_ce 46) (extensions_of c))
critical_sentence rules.AuthorityInfoAccessCritical =
    must (codes "authority_info_access_critical") (codes "4.2.2.1") (codes "tbsCertificate.extensions.authorityInfoAccess")
    (λ c facts. has_critical (id_pkix 1 1) (extensions_of c))
critical_sentence rules.SubjectInfoAccessCritical =
    must (codes "subject_info_access_critical") (codes "4.2.2.2") (codes "tbsCertificate.extensions.subjectInfoAccess")
    (λ c facts. has_critical (id_pkix 1 11) (extensions_of c))
critical_sentence rules.OcspNoCheckCritical =
    should_of (codes "RFC 6960") (codes "ocsp_no_check_critical") (codes "4.2.2.2.1") (codes "tbsCertificate.extensions.ocspNoCheck")
    (λ c facts. has_critical ocsp_no_check (extensions_of c))
critical_sentence rules.PrecertificatePoisonNotCritical =
    must_of (codes "RFC 6962") (codes "precertificate_poison_not_critical") (codes "3.1") (codes "tbsCertificate.extensions.precertificatePoison")
    (λ c facts. has_uncritical precertificate_poison (extensions_of c))
