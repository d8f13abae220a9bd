-- The rules on key identifiers, extended key usage and the private key usage period (RFC 5280 4.2.1.1, 4.2.1.12, A.2): what breaks each, their order, and how each is told.
use Rattle.std.specs.Prelude.{◌&&◌, ◌||◌, Bool, not, ℕ, List, [], ◌∷◌, bytes_eq, codes, is_some}
use Rattle.std.specs.List.{list_any}
use Rattle.x509_ext.specs.declared.pkix.authority_key_identifier.AuthorityKeyIdentifier.{AuthorityKeyIdentifier}
use Rattle.x509_ext.specs.Identifiers.{id_ce}
use Rattle.x509_name.specs.Names.{rdn_sequence_eq}
use Rattle.x509_lint.specs.Beyond.{is_unjudged}
use Rattle.x509_lint.specs.declared.beyond.Beyond.TheVariants.{Identifiers, Names}
use Rattle.x509_lint.specs.Field.{is_v3}
use Rattle.x509_lint.specs.Words.{Certificate, extensions_of, has, has_critical, is_empty, passes}
use Rattle.x509_lint.specs.declared.values.KeyValues.{KeyValues}
use Rattle.x509_lint.specs.declared.rule.key.KeyRule.{KeyRule}
use Rattle.x509_lint.specs.declared.rule.key.KeyRule.TheVariants as rules
use Rattle.x509_lint.specs.Sentence.{Sentence, must, should, not_judged}

-- the content octets of 2.5.29.37.0, anyExtendedKeyUsage (RFC 5280 4.2.1.12)
abbrev pub any_extended_key_usage : List ℕ
any_extended_key_usage = 0x55 ∷ 0x1D ∷ 37 ∷ 0 ∷ []

-- the issuer is the subject, as it is where a certificate may be self-signed
abbrev pub is_self_issued : Certificate → Bool
is_self_issued c = rdn_sequence_eq c.tbs_certificate.subject c.tbs_certificate.issuer

-- one of the two is there, and the other isn't
abbrev pub has_half_issuer : AuthorityKeyIdentifier → Bool
has_half_issuer a =
    (is_some a.authority_cert_issuer && not (is_some a.authority_cert_serial_number))
    || (is_some a.authority_cert_serial_number && not (is_some a.authority_cert_issuer))

-- ---- the rules, in their order

abbrev pub key_rules : List KeyRule
key_rules =
    rules.AuthorityKeyIdentifierAbsent
    ∷ rules.AuthorityKeyIdentifierWithoutKey
    ∷ rules.AuthorityCertIssuerEmpty
    ∷ rules.AuthorityCertIssuerAndSerialApart
    ∷ rules.AuthorityKeyIdentifierNotJudged
    ∷ rules.ExtendedKeyUsageEmpty
    ∷ rules.AnyExtendedKeyUsageCritical
    ∷ rules.ExtendedKeyUsageNotJudged
    ∷ rules.PrivateKeyUsagePeriodEmpty ∷ []

abbrev pub key_sentence : KeyRule → Sentence Certificate KeyValues
key_sentence rules.AuthorityKeyIdentifierAbsent =
    must (codes "authority_key_identifier_absent") (codes "4.2.1.1") (codes "tbsCertificate.extensions.authorityKeyIdentifier")
    (λ c v. is_v3 c.tbs_certificate.version && not (has (id_ce 35) (extensions_of c)) && not (is_self_issued c))
key_sentence rules.AuthorityKeyIdentifierWithoutKey =
    must (codes "authority_key_identifier_without_key") (codes "4.2.1.1") (codes "tbsCertificate.extensions.authorityKeyIdentifier")
    (λ c v. passes (λ a. not (is_some a.key_identifier)) v.authority_key_identifier)
key_sentence rules.AuthorityCertIssuerEmpty =
    must (codes "authority_cert_issuer_empty") (codes "4.2.1.1") (codes "tbsCertificate.extensions.authorityKeyIdentifier")
    (λ c v. passes (λ a. passes is_empty a.authority_cert_issuer) v.authority_key_identifier)
key_sentence rules.AuthorityCertIssuerAndSerialApart =
    must (codes "authority_cert_issuer_and_serial_apart") (codes "4.2.1.1") (codes "tbsCertificate.extensions.authorityKeyIdentifier")
    (λ c v. passes has_half_issuer v.authority_key_identifier)
key_sentence rules.AuthorityKeyIdentifierNotJudged =
    not_judged (codes "authority_key_identifier_not_read") (codes "4.2.1.1") (codes "tbsCertificate.extensions.authorityKeyIdentifier")
    (λ c v. is_unjudged (id_ce 35) Names (extensions_of c) (is_some v.authority_key_identifier))
key_sentence rules.ExtendedKeyUsageEmpty =
    must (codes "extended_key_usage_empty") (codes "4.2.1.12") (codes "tbsCertificate.extensions.extKeyUsage")
    (λ c v. passes (λ u. is_empty u.0) v.extended_key_usage)
key_sentence rules.AnyExtendedKeyUsageCritical =
    should (codes "any_extended_key_usage_critical") (codes "4.2.1.12") (codes "tbsCertificate.extensions.extKeyUsage")
    (λ c v. passes (λ u. list_any (λ purpose. bytes_eq purpose any_extended_key_usage) u.0) v.extended_key_usage && has_critical (id_ce 37) (extensions_of c))
key_sentence rules.ExtendedKeyUsageNotJudged =
    not_judged (codes "extended_key_usage_not_read") (codes "4.2.1.12") (codes "tbsCertificate.extensions.extKeyUsage")
    (λ c v. is_unjudged (id_ce 37) Identifiers (extensions_of c) (is_some v.extended_key_usage))
key_sentence rules.PrivateKeyUsagePeriodEmpty =
    must (codes "private_key_usage_period_empty") (codes "A.2") (codes "tbsCertificate.extensions.privateKeyUsagePeriod")
    (λ c v. passes (λ p. not (is_some p.not_before) && not (is_some p.not_after)) v.private_key_usage_period)
