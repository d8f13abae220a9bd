-- The rules on the extensions of a CRL (RFC 5280 5.2): what breaks each, their order, and how each is told.
use Rattle.std.specs.Prelude.{◌&&◌, ◌||◌, Bool, not, nat_lt, List, [], ◌∷◌, length, codes, is_some}
use Rattle.std.specs.List.{list_any}
use Rattle.x509_ext.specs.Identifiers.{id_ce, id_pkix}
use Rattle.x509_ext.specs.declared.pkix.crl_number.CrlNumber.{CrlNumber}
use Rattle.x509_ext.specs.declared.pkix.issuing_distribution_point.IssuingDistributionPoint.{IssuingDistributionPoint}
use Rattle.x509_prim.specs.Integer.{without_zeros}
use Rattle.x509_lint.specs.Beyond.{is_unjudged}
use Rattle.x509_lint.specs.declared.beyond.Beyond.TheVariants.{Names}
use Rattle.x509_lint.specs.Place.{ca_issuers, has_other_method, is_faulty_point, lacks_uri}
use Rattle.x509_lint.specs.declared.places.PointFault.TheVariants.{ReasonsOrIssuer}
use Rattle.x509_lint.specs.Words.{Crl, crl_extensions_of, has, has_critical, has_uncritical, passes}
use Rattle.x509_lint.specs.declared.values.CrlValues.{CrlValues}
use Rattle.x509_lint.specs.declared.rule.crl_extension.CrlExtensionRule.{CrlExtensionRule}
use Rattle.x509_lint.specs.declared.rule.crl_extension.CrlExtensionRule.TheVariants as rules
use Rattle.x509_lint.specs.Sentence.{Sentence, must, should, not_judged}

-- each field is absent or has its default
abbrev pub is_empty_issuing_point : IssuingDistributionPoint → Bool
is_empty_issuing_point p =
    not (is_some p.distribution_point) && not p.only_contains_user_certs && not p.only_contains_ca_certs
    && not (is_some p.only_some_reasons) && not p.indirect_crl && not p.only_contains_attribute_certs

-- more than 20 octets, where one that only shows the sign isn't counted (RFC 5280 5.2.3)
abbrev pub is_long_number : CrlNumber → Bool
is_long_number number = nat_lt 20 (length (without_zeros number.0))

-- two or three of the kinds of certificates that a CRL may be about alone
abbrev pub has_several_kinds : IssuingDistributionPoint → Bool
has_several_kinds p =
    (p.only_contains_user_certs && p.only_contains_ca_certs) || (p.only_contains_user_certs && p.only_contains_attribute_certs)
    || (p.only_contains_ca_certs && p.only_contains_attribute_certs)

-- ---- the rules, in their order

abbrev pub crl_extension_rules : List CrlExtensionRule
crl_extension_rules =
    rules.AuthorityKeyIdentifierAbsent
    ∷ rules.AuthorityKeyIdentifierWithoutKey
    ∷ rules.AuthorityKeyIdentifierCritical
    ∷ rules.AuthorityKeyIdentifierNotJudged
    ∷ rules.IssuerAltNameCritical
    ∷ rules.CrlNumberAbsent
    ∷ rules.CrlNumberCritical
    ∷ rules.CrlNumberTooLong
    ∷ rules.DeltaCrlIndicatorNotCritical
    ∷ rules.IssuingDistributionPointNotCritical
    ∷ rules.IssuingDistributionPointEmpty
    ∷ rules.IssuingDistributionPointKinds
    ∷ rules.IssuingDistributionPointAttributeCerts
    ∷ rules.IssuingDistributionPointNotJudged
    ∷ rules.FreshestCrlCritical
    ∷ rules.FreshestCrlInDelta
    ∷ rules.FreshestCrlReasonsOrIssuer
    ∷ rules.FreshestCrlNotJudged
    ∷ rules.AuthorityInfoAccessCritical
    ∷ rules.AuthorityInfoAccessOtherMethod
    ∷ rules.CaIssuersWithoutUri
    ∷ rules.AuthorityInfoAccessNotJudged ∷ []

abbrev pub crl_extension_sentence : CrlExtensionRule → Sentence Crl CrlValues
crl_extension_sentence rules.AuthorityKeyIdentifierAbsent =
    must (codes "authority_key_identifier_absent") (codes "5.2.1") (codes "tbsCertList.crlExtensions.authorityKeyIdentifier")
    (λ l v. not (has (id_ce 35) (crl_extensions_of l)))
crl_extension_sentence rules.AuthorityKeyIdentifierWithoutKey =
    must (codes "authority_key_identifier_without_key") (codes "5.2.1") (codes "tbsCertList.crlExtensions.authorityKeyIdentifier")
    (λ l v. passes (λ a. not (is_some a.key_identifier)) v.authority_key_identifier)
crl_extension_sentence rules.AuthorityKeyIdentifierCritical =
    must (codes "authority_key_identifier_critical") (codes "4.2.1.1") (codes "tbsCertList.crlExtensions.authorityKeyIdentifier")
    (λ l v. has_critical (id_ce 35) (crl_extensions_of l))
crl_extension_sentence rules.AuthorityKeyIdentifierNotJudged =
    not_judged (codes "authority_key_identifier_not_read") (codes "5.2.1") (codes "tbsCertList.crlExtensions.authorityKeyIdentifier")
    (λ l v. is_unjudged (id_ce 35) Names (crl_extensions_of l) (is_some v.authority_key_identifier))
crl_extension_sentence rules.IssuerAltNameCritical =
    should (codes "issuer_alt_name_critical") (codes "5.2.2") (codes "tbsCertList.crlExtensions.issuerAltName")
    (λ l v. has_critical (id_ce 18) (crl_extensions_of l))
crl_extension_sentence rules.CrlNumberAbsent =
    must (codes "crl_number_absent") (codes "5.2.3") (codes "tbsCertList.crlExtensions.cRLNumber")
    (λ l v. not (has (id_ce 20) (crl_extensions_of l)))
crl_extension_sentence rules.CrlNumberCritical =
    must (codes "crl_number_critical") (codes "5.2.3") (codes "tbsCertList.crlExtensions.cRLNumber")
    (λ l v. has_critical (id_ce 20) (crl_extensions_of l))
crl_extension_sentence rules.CrlNumberTooLong =
    must (codes "crl_number_too_long") (codes "5.2.3") (codes "tbsCertList.crlExtensions.cRLNumber")
    (λ l v. passes is_long_number v.crl_number)
crl_extension_sentence rules.DeltaCrlIndicatorNotCritical =
    must (codes "delta_crl_indicator_not_critical") (codes "5.2.4") (codes "tbsCertList.crlExtensions.deltaCRLIndicator")
    (λ l v. has_uncritical (id_ce 27) (crl_extensions_of l))
crl_extension_sentence rules.IssuingDistributionPointNotCritical =
    must (codes "issuing_distribution_point_not_critical") (codes "5.2.5") (codes "tbsCertList.crlExtensions.issuingDistributionPoint")
    (λ l v. has_uncritical (id_ce 28) (crl_extensions_of l))
crl_extension_sentence rules.IssuingDistributionPointEmpty =
    must (codes "issuing_distribution_point_empty") (codes "5.2.5") (codes "tbsCertList.crlExtensions.issuingDistributionPoint")
    (λ l v. passes is_empty_issuing_point v.issuing_distribution_point)
crl_extension_sentence rules.IssuingDistributionPointKinds =
    must (codes "issuing_distribution_point_kinds") (codes "5.2.5") (codes "tbsCertList.crlExtensions.issuingDistributionPoint")
    (λ l v. passes has_several_kinds v.issuing_distribution_point)
crl_extension_sentence rules.IssuingDistributionPointAttributeCerts =
    must (codes "issuing_distribution_point_attribute_certs") (codes "5.2.5") (codes "tbsCertList.crlExtensions.issuingDistributionPoint")
    (λ l v. passes (λ p. p.only_contains_attribute_certs) v.issuing_distribution_point)
crl_extension_sentence rules.IssuingDistributionPointNotJudged =
    not_judged (codes "issuing_distribution_point_not_read") (codes "5.2.5") (codes "tbsCertList.crlExtensions.issuingDistributionPoint")
    (λ l v. is_unjudged (id_ce 28) Names (crl_extensions_of l) (is_some v.issuing_distribution_point))
crl_extension_sentence rules.FreshestCrlCritical =
    must (codes "freshest_crl_critical") (codes "5.2.6") (codes "tbsCertList.crlExtensions.freshestCRL")
    (λ l v. has_critical (id_ce 46) (crl_extensions_of l))
crl_extension_sentence rules.FreshestCrlInDelta =
    must (codes "freshest_crl_in_delta") (codes "5.2.6") (codes "tbsCertList.crlExtensions.freshestCRL")
    (λ l v. has (id_ce 46) (crl_extensions_of l) && has (id_ce 27) (crl_extensions_of l))
crl_extension_sentence rules.FreshestCrlReasonsOrIssuer =
    must (codes "freshest_crl_reasons_or_issuer") (codes "5.2.6") (codes "tbsCertList.crlExtensions.freshestCRL")
    (λ l v. passes (λ p. list_any (is_faulty_point ReasonsOrIssuer) p.0) v.freshest_crl)
crl_extension_sentence rules.FreshestCrlNotJudged =
    not_judged (codes "freshest_crl_not_read") (codes "5.2.6") (codes "tbsCertList.crlExtensions.freshestCRL")
    (λ l v. is_unjudged (id_ce 46) Names (crl_extensions_of l) (is_some v.freshest_crl))
crl_extension_sentence rules.AuthorityInfoAccessCritical =
    must (codes "authority_info_access_critical") (codes "5.2.7") (codes "tbsCertList.crlExtensions.authorityInfoAccess")
    (λ l v. has_critical (id_pkix 1 1) (crl_extensions_of l))
crl_extension_sentence rules.AuthorityInfoAccessOtherMethod =
    must (codes "authority_info_access_other_method") (codes "5.2.7") (codes "tbsCertList.crlExtensions.authorityInfoAccess")
    (λ l v. passes (λ a. has_other_method ca_issuers a.0) v.authority_info_access)
crl_extension_sentence rules.CaIssuersWithoutUri =
    should (codes "ca_issuers_without_uri") (codes "5.2.7") (codes "tbsCertList.crlExtensions.authorityInfoAccess")
    (λ l v. passes (λ a. lacks_uri ca_issuers a.0) v.authority_info_access)
crl_extension_sentence rules.AuthorityInfoAccessNotJudged =
    not_judged (codes "authority_info_access_not_read") (codes "5.2.7") (codes "tbsCertList.crlExtensions.authorityInfoAccess")
    (λ l v. is_unjudged (id_pkix 1 1) Names (crl_extensions_of l) (is_some v.authority_info_access))
