-- The rules on certificates of OCSP responders (TLS BR 7.1.2.8, 7.1.2.11.2).
use Rattle.std.specs.Prelude.{◌||◌, Bool, not, List, [], ◌∷◌, bytes_eq, codes}
use Rattle.x509_ext.specs.Identifiers.{id_ce, id_pkix}
use Rattle.x509_ext.specs.KeyUsage.{has_bit}
use Rattle.x509_ext.specs.declared.pkix.key_usage.KeyUsage.{KeyUsage}
use Rattle.x509_lint.specs.OtherTypes.{ocsp_no_check}
use Rattle.x509_lint.specs.Words.{extensions_of, has, has_critical, has_uncritical}
use Rattle.x509_lint_web.specs.Usage.{is_not_of_ec, signs_as_authority}
use Rattle.x509_lint_web.specs.Words.{has_purpose, has_usage, ocsp_signing}
use Rattle.x509_lint_web.specs.Sentence.{Sentence, from_day, must, should}
use Rattle.x509_lint_web.specs.declared.rule.responder.WebResponderRule.{WebResponderRule}
use Rattle.x509_lint_web.specs.declared.rule.responder.WebResponderRule.TheVariants as rules

-- ---- bits (RFC 5280 4.2.1.3)

-- a bit other than digitalSignature, or not that
abbrev pub is_not_of_responder : KeyUsage → Bool
is_not_of_responder u = not (has_bit u 0) || (is_not_of_ec u || (has_bit u 4 || signs_as_authority u))

-- ---- the rules

abbrev pub responder_rules : List WebResponderRule
responder_rules =
    rules.OcspNoCheckAbsent
    ∷ rules.OcspNoCheckCritical
    ∷ rules.ResponderPurposeOther
    ∷ rules.ResponderKeyUsageAbsent
    ∷ rules.ResponderKeyUsageNotCritical
    ∷ rules.ResponderKeyUsageOther
    ∷ rules.ResponderConstraintsNotCritical
    ∷ rules.ResponderAltNamePresent
    ∷ rules.ResponderCrlPointsPresent
    ∷ rules.ResponderPoliciesPresent
    ∷ rules.ResponderAccessPresent ∷ []

abbrev pub responder_sentence : WebResponderRule → Sentence
responder_sentence rules.OcspNoCheckAbsent =
    must (codes "ocsp_no_check_absent") (codes "7.1.2.8.6") (from_day 2012 7 1) (codes "tbsCertificate.extensions.ocspNoCheck")
    (λ c v. not (has ocsp_no_check (extensions_of c)))
responder_sentence rules.OcspNoCheckCritical =
    must (codes "ocsp_no_check_critical") (codes "7.1.2.8.2") (from_day 2023 9 15) (codes "tbsCertificate.extensions.ocspNoCheck")
    (λ c v. has_critical ocsp_no_check (extensions_of c))
responder_sentence rules.ResponderPurposeOther =
    must (codes "responder_purpose_other") (codes "7.1.2.8.5") (from_day 2023 9 15) (codes "tbsCertificate.extensions.extKeyUsage")
    (λ c v. has_purpose (λ purpose. not (bytes_eq purpose ocsp_signing)) v)
responder_sentence rules.ResponderKeyUsageAbsent =
    must (codes "responder_key_usage_absent") (codes "7.1.2.8.2") (from_day 2023 9 15) (codes "tbsCertificate.extensions.keyUsage")
    (λ c v. not (has (id_ce 15) (extensions_of c)))
responder_sentence rules.ResponderKeyUsageNotCritical =
    must (codes "responder_key_usage_not_critical") (codes "7.1.2.8.2") (from_day 2023 9 15) (codes "tbsCertificate.extensions.keyUsage")
    (λ c v. has_uncritical (id_ce 15) (extensions_of c))
responder_sentence rules.ResponderKeyUsageOther =
    must (codes "responder_key_usage_other") (codes "7.1.2.8.7") (from_day 2023 9 15) (codes "tbsCertificate.extensions.keyUsage")
    (λ c v. has_usage is_not_of_responder v)
responder_sentence rules.ResponderConstraintsNotCritical =
    must (codes "responder_constraints_not_critical") (codes "7.1.2.8.2") (from_day 2023 9 15) (codes "tbsCertificate.extensions.basicConstraints")
    (λ c v. has_uncritical (id_ce 19) (extensions_of c))
responder_sentence rules.ResponderAltNamePresent =
    must (codes "responder_alt_name_present") (codes "7.1.2.8.2") (from_day 2023 9 15) (codes "tbsCertificate.extensions.subjectAltName")
    (λ c v. has (id_ce 17) (extensions_of c))
responder_sentence rules.ResponderCrlPointsPresent =
    must (codes "responder_crl_points_present") (codes "7.1.2.11.2") (from_day 2024 3 15) (codes "tbsCertificate.extensions.cRLDistributionPoints")
    (λ c v. has (id_ce 31) (extensions_of c))
responder_sentence rules.ResponderPoliciesPresent =
    should (codes "responder_policies_present") (codes "7.1.2.8.2") (from_day 2023 9 15) (codes "tbsCertificate.extensions.certificatePolicies")
    (λ c v. has (id_ce 32) (extensions_of c))
responder_sentence rules.ResponderAccessPresent =
    should (codes "responder_access_present") (codes "7.1.2.8.3") (from_day 2023 9 15) (codes "tbsCertificate.extensions.authorityInfoAccess")
    (λ c v. has (id_pkix 1 1) (extensions_of c))
