-- The rules on lists of attributes, of CRL distribution points and of access descriptions (RFC 5280 4.2.1.8, 4.2.1.13, 4.2.1.15, 4.2.2, RFC 6960 3.1): what breaks each, their order, and how each is told.
use Rattle.std.specs.Prelude.{◌&&◌, Bool, not, List, [], ◌∷◌, codes, is_some}
use Rattle.std.specs.List.{list_any}
use Rattle.x509_ext.specs.Identifiers.{id_ce, id_pkix}
use Rattle.x509_ext.specs.declared.pkix.distribution_point.DistributionPoint.{DistributionPoint}
use Rattle.x509_lint.specs.Beyond.{is_unjudged}
use Rattle.x509_lint.specs.declared.beyond.Beyond.TheVariants.{Identifiers, Names}
use Rattle.x509_lint.specs.Place.{are_partial, ca_issuers, ca_repository, has_place, is_faulty_point, is_incomplete_search, is_other_uri, is_point_of, is_without_host, lacks_any_uri, lacks_uri, ocsp}
use Rattle.x509_lint.specs.declared.places.PointFault.TheVariants.{Relative, RelativeToSeveral, NoUri, OtherIssuer, LdapIncomplete, LdapWithoutHost, NoNames, UriInvalid}
use Rattle.x509_lint.specs.Words.{Certificate, extensions_of, is_empty, passes}
use Rattle.x509_lint.specs.declared.values.PointValues.{PointValues}
use Rattle.x509_lint.specs.declared.rule.point.PointRule.{PointRule}
use Rattle.x509_lint.specs.declared.rule.point.PointRule.TheVariants as rules
use Rattle.x509_lint.specs.Sentence.{Sentence, must, should, must_of, not_judged}

-- neither a name nor a CRL issuer (RFC 5280 4.2.1.13)
abbrev pub is_empty_point : DistributionPoint → Bool
is_empty_point point = not (is_some point.distribution_point) && not (is_some point.crl_issuer)

-- ---- the rules, in their order

abbrev pub point_rules : List PointRule
point_rules =
    rules.SubjectDirectoryAttributesEmpty
    ∷ rules.SubjectDirectoryAttributeValuesEmpty
    ∷ rules.SubjectDirectoryAttributesNotJudged
    ∷ rules.CrlDistributionPointsEmpty
    ∷ rules.DistributionPointEmpty
    ∷ rules.DistributionPointNamesEmpty
    ∷ rules.DistributionPointRelative
    ∷ rules.DistributionPointRelativeToSeveral
    ∷ rules.DistributionPointWithoutUri
    ∷ rules.DistributionPointIssuerInvalid
    ∷ rules.DistributionPointOwnIssuer
    ∷ rules.DistributionPointsPartial
    ∷ rules.DistributionPointUriInvalid
    ∷ rules.DistributionPointLdapIncomplete
    ∷ rules.DistributionPointLdapWithoutHost
    ∷ rules.CrlDistributionPointsNotJudged
    ∷ rules.FreshestCrlEmpty
    ∷ rules.FreshestCrlPointEmpty
    ∷ rules.FreshestCrlPointNamesEmpty
    ∷ rules.FreshestCrlPointRelative
    ∷ rules.FreshestCrlPointRelativeToSeveral
    ∷ rules.FreshestCrlPointWithoutUri
    ∷ rules.FreshestCrlPointIssuerInvalid
    ∷ rules.FreshestCrlPointOwnIssuer
    ∷ rules.FreshestCrlPointsPartial
    ∷ rules.FreshestCrlPointUriInvalid
    ∷ rules.FreshestCrlPointLdapIncomplete
    ∷ rules.FreshestCrlPointLdapWithoutHost
    ∷ rules.FreshestCrlNotJudged
    ∷ rules.AuthorityInfoAccessEmpty
    ∷ rules.CaIssuersWithoutUri
    ∷ rules.CaIssuersLdapIncomplete
    ∷ rules.CaIssuersLdapWithoutHost
    ∷ rules.OcspLocationNotUri
    ∷ rules.AuthorityInfoAccessUriInvalid
    ∷ rules.AuthorityInfoAccessNotJudged
    ∷ rules.SubjectInfoAccessEmpty
    ∷ rules.CaRepositoryWithoutUri
    ∷ rules.SubjectInfoAccessUriInvalid
    ∷ rules.SubjectInfoAccessNotJudged ∷ []

abbrev pub point_sentence : PointRule → Sentence Certificate PointValues
point_sentence rules.SubjectDirectoryAttributesEmpty =
    must (codes "subject_directory_attributes_empty") (codes "4.2.1.8") (codes "tbsCertificate.extensions.subjectDirectoryAttributes")
    (λ c v. passes (λ a. is_empty a.0) v.subject_directory_attributes)
point_sentence rules.SubjectDirectoryAttributeValuesEmpty =
    must (codes "subject_directory_attribute_values_empty") (codes "A.1") (codes "tbsCertificate.extensions.subjectDirectoryAttributes")
    (λ c v. passes (λ a. list_any (λ attribute. is_empty attribute.values) a.0) v.subject_directory_attributes)
point_sentence rules.SubjectDirectoryAttributesNotJudged =
    not_judged (codes "subject_directory_attributes_not_read") (codes "4.2.1.8") (codes "tbsCertificate.extensions.subjectDirectoryAttributes")
    (λ c v. is_unjudged (id_ce 9) Identifiers (extensions_of c) (is_some v.subject_directory_attributes))
point_sentence rules.CrlDistributionPointsEmpty =
    must (codes "crl_distribution_points_empty") (codes "4.2.1.13") (codes "tbsCertificate.extensions.cRLDistributionPoints")
    (λ c v. passes (λ p. is_empty p.0) v.crl_distribution_points)
point_sentence rules.DistributionPointEmpty =
    must (codes "distribution_point_empty") (codes "4.2.1.13") (codes "tbsCertificate.extensions.cRLDistributionPoints")
    (λ c v. passes (λ p. list_any is_empty_point p.0) v.crl_distribution_points)
point_sentence rules.DistributionPointNamesEmpty =
    must (codes "distribution_point_names_empty") (codes "4.2.1.13") (codes "tbsCertificate.extensions.cRLDistributionPoints")
    (λ c v. passes (λ p. list_any (is_faulty_point NoNames) p.0) v.crl_distribution_points)
point_sentence rules.DistributionPointRelative =
    should (codes "distribution_point_relative") (codes "4.2.1.13") (codes "tbsCertificate.extensions.cRLDistributionPoints")
    (λ c v. passes (λ p. list_any (is_faulty_point Relative) p.0) v.crl_distribution_points)
point_sentence rules.DistributionPointRelativeToSeveral =
    must (codes "distribution_point_relative_to_several") (codes "4.2.1.13") (codes "tbsCertificate.extensions.cRLDistributionPoints")
    (λ c v. passes (λ p. list_any (is_faulty_point RelativeToSeveral) p.0) v.crl_distribution_points)
point_sentence rules.DistributionPointWithoutUri =
    should (codes "distribution_point_without_uri") (codes "4.2.1.13") (codes "tbsCertificate.extensions.cRLDistributionPoints")
    (λ c v. passes (λ p. list_any (is_faulty_point NoUri) p.0) v.crl_distribution_points)
point_sentence rules.DistributionPointIssuerInvalid =
    must (codes "distribution_point_issuer_invalid") (codes "4.2.1.13") (codes "tbsCertificate.extensions.cRLDistributionPoints")
    (λ c v. passes (λ p. list_any (is_faulty_point OtherIssuer) p.0) v.crl_distribution_points)
point_sentence rules.DistributionPointOwnIssuer =
    must (codes "distribution_point_own_issuer") (codes "4.2.1.13") (codes "tbsCertificate.extensions.cRLDistributionPoints")
    (λ c v. passes (λ p. list_any (is_point_of c.tbs_certificate.issuer) p.0) v.crl_distribution_points)
point_sentence rules.DistributionPointsPartial =
    must (codes "distribution_points_partial") (codes "4.2.1.13") (codes "tbsCertificate.extensions.cRLDistributionPoints")
    (λ c v. passes (λ p. are_partial p.0) v.crl_distribution_points)
point_sentence rules.DistributionPointUriInvalid =
    must_of (codes "RFC 3986") (codes "distribution_point_uri_invalid") (codes "3") (codes "tbsCertificate.extensions.cRLDistributionPoints")
    (λ c v. passes (λ p. list_any (is_faulty_point UriInvalid) p.0) v.crl_distribution_points)
point_sentence rules.DistributionPointLdapIncomplete =
    must (codes "distribution_point_ldap_incomplete") (codes "4.2.1.13") (codes "tbsCertificate.extensions.cRLDistributionPoints")
    (λ c v. passes (λ p. list_any (is_faulty_point LdapIncomplete) p.0) v.crl_distribution_points)
point_sentence rules.DistributionPointLdapWithoutHost =
    should (codes "distribution_point_ldap_without_host") (codes "4.2.1.13") (codes "tbsCertificate.extensions.cRLDistributionPoints")
    (λ c v. passes (λ p. list_any (is_faulty_point LdapWithoutHost) p.0) v.crl_distribution_points)
point_sentence rules.CrlDistributionPointsNotJudged =
    not_judged (codes "crl_distribution_points_not_read") (codes "4.2.1.13") (codes "tbsCertificate.extensions.cRLDistributionPoints")
    (λ c v. is_unjudged (id_ce 31) Names (extensions_of c) (is_some v.crl_distribution_points))
point_sentence rules.FreshestCrlEmpty =
    must (codes "freshest_crl_empty") (codes "4.2.1.15") (codes "tbsCertificate.extensions.freshestCRL")
    (λ c v. passes (λ p. is_empty p.0) v.freshest_crl)
point_sentence rules.FreshestCrlPointEmpty =
    must (codes "freshest_crl_point_empty") (codes "4.2.1.15") (codes "tbsCertificate.extensions.freshestCRL")
    (λ c v. passes (λ p. list_any is_empty_point p.0) v.freshest_crl)
point_sentence rules.FreshestCrlPointNamesEmpty =
    must (codes "freshest_crl_point_names_empty") (codes "4.2.1.15") (codes "tbsCertificate.extensions.freshestCRL")
    (λ c v. passes (λ p. list_any (is_faulty_point NoNames) p.0) v.freshest_crl)
point_sentence rules.FreshestCrlPointRelative =
    should (codes "freshest_crl_point_relative") (codes "4.2.1.15") (codes "tbsCertificate.extensions.freshestCRL")
    (λ c v. passes (λ p. list_any (is_faulty_point Relative) p.0) v.freshest_crl)
point_sentence rules.FreshestCrlPointRelativeToSeveral =
    must (codes "freshest_crl_point_relative_to_several") (codes "4.2.1.15") (codes "tbsCertificate.extensions.freshestCRL")
    (λ c v. passes (λ p. list_any (is_faulty_point RelativeToSeveral) p.0) v.freshest_crl)
point_sentence rules.FreshestCrlPointWithoutUri =
    should (codes "freshest_crl_point_without_uri") (codes "4.2.1.15") (codes "tbsCertificate.extensions.freshestCRL")
    (λ c v. passes (λ p. list_any (is_faulty_point NoUri) p.0) v.freshest_crl)
point_sentence rules.FreshestCrlPointIssuerInvalid =
    must (codes "freshest_crl_point_issuer_invalid") (codes "4.2.1.15") (codes "tbsCertificate.extensions.freshestCRL")
    (λ c v. passes (λ p. list_any (is_faulty_point OtherIssuer) p.0) v.freshest_crl)
point_sentence rules.FreshestCrlPointOwnIssuer =
    must (codes "freshest_crl_point_own_issuer") (codes "4.2.1.15") (codes "tbsCertificate.extensions.freshestCRL")
    (λ c v. passes (λ p. list_any (is_point_of c.tbs_certificate.issuer) p.0) v.freshest_crl)
point_sentence rules.FreshestCrlPointsPartial =
    must (codes "freshest_crl_points_partial") (codes "4.2.1.15") (codes "tbsCertificate.extensions.freshestCRL")
    (λ c v. passes (λ p. are_partial p.0) v.freshest_crl)
point_sentence rules.FreshestCrlPointUriInvalid =
    must_of (codes "RFC 3986") (codes "freshest_crl_point_uri_invalid") (codes "3") (codes "tbsCertificate.extensions.freshestCRL")
    (λ c v. passes (λ p. list_any (is_faulty_point UriInvalid) p.0) v.freshest_crl)
point_sentence rules.FreshestCrlPointLdapIncomplete =
    must (codes "freshest_crl_point_ldap_incomplete") (codes "4.2.1.15") (codes "tbsCertificate.extensions.freshestCRL")
    (λ c v. passes (λ p. list_any (is_faulty_point LdapIncomplete) p.0) v.freshest_crl)
point_sentence rules.FreshestCrlPointLdapWithoutHost =
    should (codes "freshest_crl_point_ldap_without_host") (codes "4.2.1.15") (codes "tbsCertificate.extensions.freshestCRL")
    (λ c v. passes (λ p. list_any (is_faulty_point LdapWithoutHost) p.0) v.freshest_crl)
point_sentence rules.FreshestCrlNotJudged =
    not_judged (codes "freshest_crl_not_read") (codes "4.2.1.15") (codes "tbsCertificate.extensions.freshestCRL")
    (λ c v. is_unjudged (id_ce 46) Names (extensions_of c) (is_some v.freshest_crl))
point_sentence rules.AuthorityInfoAccessEmpty =
    must (codes "authority_info_access_empty") (codes "4.2.2.1") (codes "tbsCertificate.extensions.authorityInfoAccess")
    (λ c v. passes (λ a. is_empty a.0) v.authority_info_access)
point_sentence rules.CaIssuersWithoutUri =
    should (codes "ca_issuers_without_uri") (codes "4.2.2.1") (codes "tbsCertificate.extensions.authorityInfoAccess")
    (λ c v. passes (λ a. lacks_uri ca_issuers a.0) v.authority_info_access)
point_sentence rules.CaIssuersLdapIncomplete =
    must (codes "ca_issuers_ldap_incomplete") (codes "4.2.2.1") (codes "tbsCertificate.extensions.authorityInfoAccess")
    (λ c v. passes (λ a. has_place is_incomplete_search ca_issuers a.0) v.authority_info_access)
point_sentence rules.CaIssuersLdapWithoutHost =
    should (codes "ca_issuers_ldap_without_host") (codes "4.2.2.1") (codes "tbsCertificate.extensions.authorityInfoAccess")
    (λ c v. passes (λ a. has_place is_without_host ca_issuers a.0) v.authority_info_access)
point_sentence rules.OcspLocationNotUri =
    must_of (codes "RFC 6960") (codes "ocsp_location_not_uri") (codes "3.1") (codes "tbsCertificate.extensions.authorityInfoAccess")
    (λ c v. passes (λ a. lacks_any_uri ocsp a.0) v.authority_info_access)
point_sentence rules.AuthorityInfoAccessUriInvalid =
    must_of (codes "RFC 3986") (codes "authority_info_access_uri_invalid") (codes "3") (codes "tbsCertificate.extensions.authorityInfoAccess")
    (λ c v. passes (λ a. list_any (λ d. is_other_uri d.access_location) a.0) v.authority_info_access)
point_sentence rules.AuthorityInfoAccessNotJudged =
    not_judged (codes "authority_info_access_not_read") (codes "4.2.2.1") (codes "tbsCertificate.extensions.authorityInfoAccess")
    (λ c v. is_unjudged (id_pkix 1 1) Names (extensions_of c) (is_some v.authority_info_access))
point_sentence rules.SubjectInfoAccessEmpty =
    must (codes "subject_info_access_empty") (codes "4.2.2.2") (codes "tbsCertificate.extensions.subjectInfoAccess")
    (λ c v. passes (λ a. is_empty a.0) v.subject_info_access)
point_sentence rules.CaRepositoryWithoutUri =
    should (codes "ca_repository_without_uri") (codes "4.2.2.2") (codes "tbsCertificate.extensions.subjectInfoAccess")
    (λ c v. passes (λ a. lacks_uri ca_repository a.0) v.subject_info_access)
point_sentence rules.SubjectInfoAccessUriInvalid =
    must_of (codes "RFC 3986") (codes "subject_info_access_uri_invalid") (codes "3") (codes "tbsCertificate.extensions.subjectInfoAccess")
    (λ c v. passes (λ a. list_any (λ d. is_other_uri d.access_location) a.0) v.subject_info_access)
point_sentence rules.SubjectInfoAccessNotJudged =
    not_judged (codes "subject_info_access_not_read") (codes "4.2.2.2") (codes "tbsCertificate.extensions.subjectInfoAccess")
    (λ c v. is_unjudged (id_pkix 1 11) Names (extensions_of c) (is_some v.subject_info_access))
