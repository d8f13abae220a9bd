-- What rules look at, beside the object itself: the values of its extensions, and what is asked of it once.
use Rattle.std.specs.Prelude.{◌≡◌, ◌≢◌, ◌↔◌, IsTrue, ℕ, Bool, not, List, [], Option, Some, None, bytes_eq, map}
use Rattle.std.specs.List.{All, list_any}
use Rattle.x509_ext.specs.Access.{authority_info_access_syntax, subject_info_access_syntax}
use Rattle.x509_ext.specs.AlternativeNames.{issuer_alt_name, subject_alt_name}
use Rattle.x509_ext.specs.AuthorityKeyIdentifier.{authority_key_identifier}
use Rattle.x509_ext.specs.ExtendedKeyUsage.{extended_key_usage}
use Rattle.x509_ext.specs.KeyUsage.{key_usage}
use Rattle.x509_ext.specs.PrivateKeyUsagePeriod.{private_key_usage_period}
use Rattle.x509_ext.specs.SubjectDirectoryAttributes.{subject_directory_attributes}
use Rattle.x509_ext.specs.Identifiers.{id_ce, id_pkix}
use Rattle.x509_ext.specs.LookUp.{IsRepeated, members}
use Rattle.x509_ext.specs.declared.extension.Extension.{Extension}
use Rattle.x509_cert.specs.Revoked.{entries}
use Rattle.x509_base.specs.declared.profile.Raw.{Raw}
use Rattle.x509_cert.specs.declared.crl.revoked_cert.RevokedCert.{RevokedCert}
use Rattle.x509_crl_index.specs.Split.{serials}
use Rattle.x509_ext.specs.CrlNumber.{crl_number}
use Rattle.x509_ext.specs.DistributionPoint.{crl_distribution_points, freshest_crl}
use Rattle.x509_ext.specs.IssuingDistributionPoint.{issuing_distribution_point}
use Rattle.x509_ext.specs.NameConstraints.{name_constraints}
use Rattle.x509_ext.specs.CertificatePolicies.{certificate_policies}
use Rattle.x509_ext.specs.declared.pkix.certificate_policies.CertificatePolicies.{CertificatePolicies}
use Rattle.x509_ext.specs.declared.pkix.policy_information.PolicyInformation.{PolicyInformation}
use Rattle.x509_ext.specs.declared.pkix.policy_mapping.PolicyMapping.{PolicyMapping}
use Rattle.x509_ext.specs.declared.pkix.policy_mapping.PolicyMappings.{PolicyMappings}
use Rattle.x509_der.specs.Set.{AreDistinct}
use Rattle.x509_name.specs.declared.attr.type_and_value.AttributeTypeAndValue.{AttributeTypeAndValue}
use Rattle.x509_ext.specs.PolicyMapping.{policy_mappings}
use Rattle.x509_lint.specs.BasicConstraints.{any_basic_constraints}
use Rattle.x509_lint.specs.CrlEntry.{AreNoted}
use Rattle.x509_lint.specs.Label.{is_unnormalized_name}
use Rattle.x509_lint.specs.Notices.{has_faulty_notice}
use Rattle.x509_lint.specs.declared.notices.NoticeFault.TheVariants.{Long, NoText, OldType, Ia5Type, Control, Reference, Unnormalized, Unread}
use Rattle.x509_lint.specs.SkipCerts.{any_policy_constraints}
use Rattle.x509_lint.specs.PublicKey.{numbers}
use Rattle.x509_lint.specs.Read.{AreExtensionsRead, IsCrlRead}
use Rattle.x509_lint.specs.Words.{Certificate, Crl, IsSpelled, IsValue, crl_extensions_of, extensions_of, passes}
use Rattle.x509_lint.specs.declared.facts.CertificateFacts.{CertificateFacts}
use Rattle.x509_lint.specs.declared.crl.CrlParts.{CrlParts}
use Rattle.x509_lint.specs.declared.entries.EntryFacts.{EntryFacts}
use Rattle.x509_lint.specs.declared.facts.CrlFacts.{CrlFacts}
use Rattle.x509_lint.specs.declared.values.AlternativeValues.{AlternativeValues}
use Rattle.x509_lint.specs.declared.values.AuthorityValues.{AuthorityValues}
use Rattle.x509_lint.specs.declared.values.ConstraintValues.{ConstraintValues}
use Rattle.x509_lint.specs.declared.values.CrlValues.{CrlValues}
use Rattle.x509_lint.specs.declared.values.KeyValues.{KeyValues}
use Rattle.x509_lint.specs.declared.values.NoticeFaults.{NoticeFaults}
use Rattle.x509_lint.specs.declared.values.PointValues.{PointValues}
use Rattle.x509_lint.specs.declared.values.PolicyValues.{PolicyValues}
use Rattle.x509_lint.specs.declared.values.PublicKeyValues.{PublicKeyValues}

-- ---- what may stand twice

-- the OIDs of policies, in their order
abbrev pub policy_identifiers : List PolicyInformation → List (List ℕ)
policy_identifiers policies = map (λ (p : PolicyInformation). p.policy_identifier) policies

abbrev pub policies_of : Option CertificatePolicies → List PolicyInformation
policies_of None = []
policies_of (Some policies) = policies.0

-- the issuerDomainPolicy of a mapping is none of the policies
abbrev pub is_unasserted : List PolicyInformation → PolicyMapping → Bool
is_unasserted policies mapping = not (list_any (λ (p : PolicyInformation). bytes_eq p.policy_identifier mapping.issuer_domain_policy) policies)

-- the mappings are read, and one is so
abbrev pub has_unasserted : List PolicyInformation → Option PolicyMappings → Bool
has_unasserted policies mappings = passes (λ m. list_any (is_unasserted policies) m.0) mappings

-- ---- names

abbrev pub rdn_types : List AttributeTypeAndValue → List (List ℕ)
rdn_types rdn = map (λ (a : AttributeTypeAndValue). a.oid) rdn

-- no two attributes of the RDN are of one type (X.501 9.3)
unfoldable pub HasDistinctTypes : List AttributeTypeAndValue → Type 0
HasDistinctTypes rdn = AreDistinct (rdn_types rdn)

-- ---- values of extensions

abbrev pub AreAuthorityValues : List Extension → AuthorityValues → Type 0
AreAuthorityValues extensions v =
    IsValue any_basic_constraints (id_ce 19) extensions v.basic_constraints × IsValue key_usage (id_ce 15) extensions v.key_usage
    × IsValue name_constraints (id_ce 30) extensions v.name_constraints

abbrev pub AreKeyValues : List Extension → KeyValues → Type 0
AreKeyValues extensions v =
    IsValue authority_key_identifier (id_ce 35) extensions v.authority_key_identifier
    × IsValue extended_key_usage (id_ce 37) extensions v.extended_key_usage
    × IsValue private_key_usage_period (id_ce 16) extensions v.private_key_usage_period

abbrev pub AreAlternativeValues : List Extension → AlternativeValues → Type 0
AreAlternativeValues extensions v =
    IsValue subject_alt_name (id_ce 17) extensions v.subject_alt_name × IsValue issuer_alt_name (id_ce 18) extensions v.issuer_alt_name
    × (v.has_unnormalized_subject ≡ passes (λ s. list_any is_unnormalized_name s.0) v.subject_alt_name)
    × (v.has_unnormalized_issuer ≡ passes (λ s. list_any is_unnormalized_name s.0) v.issuer_alt_name)

-- which faults some user notice has
abbrev pub AreNoticeFaults : Option CertificatePolicies → NoticeFaults → Type 0
AreNoticeFaults policies faults =
    (faults.has_long_text ≡ has_faulty_notice Long policies) × (faults.has_empty_text ≡ has_faulty_notice NoText policies)
    × (faults.has_old_text ≡ has_faulty_notice OldType policies) × (faults.has_ia5_text ≡ has_faulty_notice Ia5Type policies)
    × (faults.has_control ≡ has_faulty_notice Control policies) × (faults.has_reference ≡ has_faulty_notice Reference policies)
    × (faults.has_unnormalized ≡ has_faulty_notice Unnormalized policies) × (faults.has_unread_notice ≡ has_faulty_notice Unread policies)

abbrev pub ArePolicyValues : List Extension → PolicyValues → Type 0
ArePolicyValues extensions v =
    IsValue certificate_policies (id_ce 32) extensions v.certificate_policies
    × IsValue policy_mappings (id_ce 33) extensions v.policy_mappings
    × IsValue any_policy_constraints (id_ce 36) extensions v.policy_constraints
    × (IsTrue v.are_policies_distinct ↔ AreDistinct (policy_identifiers (policies_of v.certificate_policies)))
    × AreNoticeFaults v.certificate_policies v.notices
    × (v.has_unasserted_mapping ≡ has_unasserted (policies_of v.certificate_policies) v.policy_mappings)

abbrev pub AreConstraintValues : List Extension → ConstraintValues → Type 0
AreConstraintValues extensions v = IsValue name_constraints (id_ce 30) extensions v.name_constraints

abbrev pub ArePointValues : List Extension → PointValues → Type 0
ArePointValues extensions v =
    IsValue subject_directory_attributes (id_ce 9) extensions v.subject_directory_attributes
    × IsValue crl_distribution_points (id_ce 31) extensions v.crl_distribution_points
    × IsValue freshest_crl (id_ce 46) extensions v.freshest_crl
    × IsValue authority_info_access_syntax (id_pkix 1 1) extensions v.authority_info_access
    × IsValue subject_info_access_syntax (id_pkix 1 11) extensions v.subject_info_access

-- the numbers of a key, where its octets spell any
abbrev pub ArePublicKeyValues : Certificate → PublicKeyValues → Type 0
ArePublicKeyValues c v =
    IsSpelled numbers c.tbs_certificate.subject_public_key_info.subject_public_key.octets v.key_numbers
    × IsValue key_usage (id_ce 15) (extensions_of c) v.key_usage

abbrev pub AreCrlValues : List Extension → CrlValues → Type 0
AreCrlValues extensions v =
    IsValue authority_key_identifier (id_ce 35) extensions v.authority_key_identifier
    × IsValue crl_number (id_ce 20) extensions v.crl_number
    × IsValue issuing_distribution_point (id_ce 28) extensions v.issuing_distribution_point
    × IsValue freshest_crl (id_ce 46) extensions v.freshest_crl
    × IsValue authority_info_access_syntax (id_pkix 1 1) extensions v.authority_info_access

-- ---- extensions of entries

-- no two extensions of the entry have one OID (RFC 5280 5.3)
unfoldable pub IsDistinct : RevokedCert Raw → Type 0
IsDistinct entry = IsRepeated (members entry.crl_entry_extensions) → ⊥

-- ---- what is asked once

abbrev pub AreCertificateFacts : Certificate → CertificateFacts → Type 0
AreCertificateFacts c facts =
    (IsTrue facts.algorithms_differ ↔ (c.tbs_certificate.signature ≢ c.signature_algorithm))
    × (IsTrue facts.is_repeated ↔ IsRepeated (extensions_of c))
    × AreExtensionsRead (extensions_of c) facts.read
    × (IsTrue facts.is_issuer_distinct ↔ All HasDistinctTypes c.tbs_certificate.issuer)
    × (IsTrue facts.is_subject_distinct ↔ All HasDistinctTypes c.tbs_certificate.subject)

abbrev pub AreEntryFacts : List (RevokedCert Raw) → EntryFacts → Type 0
AreEntryFacts revoked facts =
    AreNoted revoked facts.found × (IsTrue facts.are_distinct ↔ All IsDistinct revoked) × (IsTrue facts.are_serials_distinct ↔ AreDistinct (serials revoked))

-- of a CRL, its entries aside
abbrev pub AreFrontFacts : Crl → CrlFacts → Type 0
AreFrontFacts l facts =
    (IsTrue facts.algorithms_differ ↔ (l.tbs_cert_list.signature ≢ l.signature_algorithm))
    × (IsTrue facts.is_repeated ↔ IsRepeated (crl_extensions_of l))
    × IsCrlRead (crl_extensions_of l) facts.read
    × (IsTrue facts.is_issuer_distinct ↔ All HasDistinctTypes l.tbs_cert_list.issuer)

abbrev pub AreCrlFacts : Crl → CrlFacts → Type 0
AreCrlFacts l facts = AreFrontFacts l facts × AreEntryFacts (entries l.tbs_cert_list.revoked_certificates) facts.entries

-- ---- all of it

pub record CertificateParts : Type 0 where
  pub facts : CertificateFacts
  pub authority : AuthorityValues
  pub key : KeyValues
  pub alternative : AlternativeValues
  pub policy : PolicyValues
  pub constraint : ConstraintValues
  pub point : PointValues
  pub public_key : PublicKeyValues

abbrev pub AreCertificateParts : Certificate → CertificateParts → Type 0
AreCertificateParts c parts =
    AreCertificateFacts c parts.facts × AreAuthorityValues (extensions_of c) parts.authority × AreKeyValues (extensions_of c) parts.key
    × AreAlternativeValues (extensions_of c) parts.alternative × ArePolicyValues (extensions_of c) parts.policy
    × AreConstraintValues (extensions_of c) parts.constraint × ArePointValues (extensions_of c) parts.point × ArePublicKeyValues c parts.public_key

abbrev pub AreCrlParts : Crl → CrlParts → Type 0
AreCrlParts l parts = AreCrlFacts l parts.facts × AreCrlValues (crl_extensions_of l) parts.values
