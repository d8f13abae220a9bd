-- The rules on what certificates of TLS servers are used for (TLS BR 7.1.2.7.6, 7.1.2.7.10, 7.1.2.7.11).
use Rattle.std.specs.Prelude.{◌&&◌, ◌||◌, ℕ, Bool, not, List, [], ◌∷◌, bytes_eq, codes, None}
use Rattle.x509_ext.specs.Identifiers.{id_ce, id_pkix}
use Rattle.x509_ext.specs.KeyUsage.{has_bit}
use Rattle.x509_ext.specs.declared.pkix.key_usage.KeyUsage.{KeyUsage}
use Rattle.x509_lint.specs.Key.{any_extended_key_usage}
use Rattle.x509_lint.specs.Words.{extensions_of, has, has_critical, has_uncritical}
use Rattle.x509_lint_web.specs.Algorithm.{is_ec, is_rsa}
use Rattle.x509_lint_web.specs.Words.{has_purpose, has_usage, key_of, server_auth}
use Rattle.x509_lint_web.specs.Sentence.{Sentence, from_day, must, should}
use Rattle.x509_lint_web.specs.declared.rule.usage.WebUsageRule.{WebUsageRule}
use Rattle.x509_lint_web.specs.declared.rule.usage.WebUsageRule.TheVariants as rules

-- ---- purposes (TLS BR 7.1.2.7.10), of which id-kp is 1.3.6.1.5.5.7.3

-- that of certificates that sign precertificates, 1.3.6.1.4.1.11129.2.4.4 (RFC 6962 3.1)
abbrev pub precertificate_signing : List ℕ
precertificate_signing = 0x2B ∷ 0x06 ∷ 0x01 ∷ 0x04 ∷ 0x01 ∷ 0xD6 ∷ 0x79 ∷ 0x02 ∷ 0x04 ∷ 0x04 ∷ []

-- id-kp-codeSigning, id-kp-emailProtection, id-kp-timeStamping, id-kp-OCSPSigning, anyExtendedKeyUsage, or that
abbrev pub is_forbidden : List ℕ → Bool
is_forbidden purpose =
    bytes_eq purpose (id_pkix 3 3) || (bytes_eq purpose (id_pkix 3 4) || (bytes_eq purpose (id_pkix 3 8)
    || (bytes_eq purpose (id_pkix 3 9) || (bytes_eq purpose any_extended_key_usage || bytes_eq purpose precertificate_signing))))

-- neither id-kp-serverAuth nor id-kp-clientAuth nor one of these
abbrev pub is_other_purpose : List ℕ → Bool
is_other_purpose purpose = not (bytes_eq purpose server_auth) && (not (bytes_eq purpose (id_pkix 3 2)) && not (is_forbidden purpose))

-- ---- bits (RFC 5280 4.2.1.3)

-- keyCertSign or cRLSign
abbrev pub signs_as_authority : KeyUsage → Bool
signs_as_authority u = has_bit u 5 || has_bit u 6

-- nonRepudiation, encipherOnly or decipherOnly
abbrev pub is_not_of_servers : KeyUsage → Bool
is_not_of_servers u = has_bit u 1 || (has_bit u 7 || has_bit u 8)

-- one of these, or keyAgreement
abbrev pub is_not_of_rsa : KeyUsage → Bool
is_not_of_rsa u = is_not_of_servers u || has_bit u 4

-- one of these, or keyEncipherment or dataEncipherment
abbrev pub is_not_of_ec : KeyUsage → Bool
is_not_of_ec u = is_not_of_servers u || (has_bit u 2 || has_bit u 3)

-- ---- the rules

abbrev pub usage_rules : List WebUsageRule
usage_rules =
    rules.ExtendedKeyUsageAbsent
    ∷ rules.ExtendedKeyUsageForbidden
    ∷ rules.ExtendedKeyUsageOther
    ∷ rules.ExtendedKeyUsageCritical
    ∷ rules.KeyUsageAbsent
    ∷ rules.KeyUsageNotCritical
    ∷ rules.KeyUsageOfAuthority
    ∷ rules.KeyUsageNotOfRsa
    ∷ rules.KeyUsageNotOfEc
    ∷ rules.EcWithoutDigitalSignature
    ∷ rules.BasicConstraintsNotCritical
    ∷ rules.SubjectKeyIdentifierPresent ∷ []

abbrev pub usage_sentence : WebUsageRule → Sentence
usage_sentence rules.ExtendedKeyUsageAbsent =
    must (codes "extended_key_usage_absent") (codes "7.1.2.7.10") None (codes "tbsCertificate.extensions.extKeyUsage")
    (λ c v. not (has (id_ce 37) (extensions_of c)))
usage_sentence rules.ExtendedKeyUsageForbidden =
    must (codes "extended_key_usage_forbidden") (codes "7.1.2.7.10") (from_day 2023 9 15) (codes "tbsCertificate.extensions.extKeyUsage")
    (λ c v. has_purpose is_forbidden v)
usage_sentence rules.ExtendedKeyUsageOther =
    should (codes "extended_key_usage_other") (codes "7.1.2.7.10") (from_day 2023 9 15) (codes "tbsCertificate.extensions.extKeyUsage")
    (λ c v. has_purpose is_other_purpose v)
usage_sentence rules.ExtendedKeyUsageCritical =
    must (codes "extended_key_usage_critical") (codes "7.1.2.7.6") (from_day 2023 9 15) (codes "tbsCertificate.extensions.extKeyUsage")
    (λ c v. has_critical (id_ce 37) (extensions_of c))
usage_sentence rules.KeyUsageAbsent =
    should (codes "key_usage_absent") (codes "7.1.2.7.6") (from_day 2023 9 15) (codes "tbsCertificate.extensions.keyUsage")
    (λ c v. not (has (id_ce 15) (extensions_of c)))
usage_sentence rules.KeyUsageNotCritical =
    must (codes "key_usage_not_critical") (codes "7.1.2.7.6") (from_day 2023 9 15) (codes "tbsCertificate.extensions.keyUsage")
    (λ c v. has_uncritical (id_ce 15) (extensions_of c))
usage_sentence rules.KeyUsageOfAuthority =
    must (codes "key_usage_of_authority") (codes "7.1.2.7.11") None (codes "tbsCertificate.extensions.keyUsage")
    (λ c v. has_usage signs_as_authority v)
usage_sentence rules.KeyUsageNotOfRsa =
    must (codes "key_usage_not_of_rsa") (codes "7.1.2.7.11") (from_day 2023 9 15) (codes "tbsCertificate.extensions.keyUsage")
    (λ c v. is_rsa (key_of c) && has_usage is_not_of_rsa v)
usage_sentence rules.KeyUsageNotOfEc =
    must (codes "key_usage_not_of_ec") (codes "7.1.2.7.11") (from_day 2023 9 15) (codes "tbsCertificate.extensions.keyUsage")
    (λ c v. is_ec (key_of c) && has_usage is_not_of_ec v)
usage_sentence rules.EcWithoutDigitalSignature =
    must (codes "ec_without_digital_signature") (codes "7.1.2.7.11") (from_day 2023 9 15) (codes "tbsCertificate.extensions.keyUsage")
    (λ c v. is_ec (key_of c) && has_usage (λ u. not (has_bit u 0)) v)
usage_sentence rules.BasicConstraintsNotCritical =
    must (codes "basic_constraints_not_critical") (codes "7.1.2.7.6") (from_day 2023 9 15) (codes "tbsCertificate.extensions.basicConstraints")
    (λ c v. has_uncritical (id_ce 19) (extensions_of c))
usage_sentence rules.SubjectKeyIdentifierPresent =
    should (codes "subject_key_identifier_present") (codes "7.1.2.7.6") (from_day 2023 9 15) (codes "tbsCertificate.extensions.subjectKeyIdentifier")
    (λ c v. has (id_ce 14) (extensions_of c))
