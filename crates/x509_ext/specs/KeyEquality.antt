-- Equality of what extensions hold is exact.
use Rattle.std.specs.Prelude.{refl}
use Rattle.x509_base.specs.TimeEquality.{exact_date_time}
use Rattle.x509_der.specs.Exact.{IsExact, exact_number, exact_bool, exact_octets, exact_list, exact_option, exact_both, exact_by}
use Rattle.x509_ext.specs.GeneralNameEquality.{exact_general_name}
use Rattle.x509_name.specs.Attribute.{attribute_decides}
use Rattle.x509_ext.specs.contracts.pkix.access.AccessDescriptionPartialEq.TheImpl as access_description_eq
use Rattle.x509_ext.specs.contracts.pkix.access.AuthorityInfoAccessSyntaxPartialEq.TheImpl as authority_info_access_syntax_eq
use Rattle.x509_ext.specs.contracts.pkix.access.SubjectInfoAccessSyntaxPartialEq.TheImpl as subject_info_access_syntax_eq
use Rattle.x509_ext.specs.contracts.pkix.alternative_names.IssuerAltNamePartialEq.TheImpl as issuer_alt_name_eq
use Rattle.x509_ext.specs.contracts.pkix.alternative_names.SubjectAltNamePartialEq.TheImpl as subject_alt_name_eq
use Rattle.x509_ext.specs.contracts.pkix.authority_key_identifier.AuthorityKeyIdentifierPartialEq.TheImpl as authority_key_identifier_eq
use Rattle.x509_ext.specs.contracts.pkix.basic_constraints.BasicConstraintsPartialEq.TheImpl as basic_constraints_eq
use Rattle.x509_ext.specs.contracts.pkix.extended_key_usage.ExtendedKeyUsagePartialEq.TheImpl as extended_key_usage_eq
use Rattle.x509_ext.specs.contracts.pkix.key_usage.KeyUsagePartialEq.TheImpl as key_usage_eq
use Rattle.x509_ext.specs.contracts.pkix.key_usage.KeyUsagesPartialEq.TheImpl as key_usages_eq
use Rattle.x509_ext.specs.contracts.pkix.private_key_usage_period.PrivateKeyUsagePeriodPartialEq.TheImpl as private_key_usage_period_eq
use Rattle.x509_ext.specs.contracts.pkix.subject_directory_attributes.SubjectDirectoryAttributesPartialEq.TheImpl as subject_directory_attributes_eq
use Rattle.x509_ext.specs.contracts.pkix.subject_key_identifier.SubjectKeyIdentifierPartialEq.TheImpl as subject_key_identifier_eq
use Rattle.x509_ext.specs.declared.pkix.access.AccessDescription.{AccessDescription}
use Rattle.x509_ext.specs.declared.pkix.access.AuthorityInfoAccessSyntax.{AuthorityInfoAccessSyntax}
use Rattle.x509_ext.specs.declared.pkix.access.SubjectInfoAccessSyntax.{SubjectInfoAccessSyntax}
use Rattle.x509_ext.specs.declared.pkix.alternative_names.IssuerAltName.{IssuerAltName}
use Rattle.x509_ext.specs.declared.pkix.alternative_names.SubjectAltName.{SubjectAltName}
use Rattle.x509_ext.specs.declared.pkix.authority_key_identifier.AuthorityKeyIdentifier.{AuthorityKeyIdentifier}
use Rattle.x509_ext.specs.declared.pkix.basic_constraints.BasicConstraints.{BasicConstraints}
use Rattle.x509_ext.specs.declared.pkix.extended_key_usage.ExtendedKeyUsage.{ExtendedKeyUsage}
use Rattle.x509_ext.specs.declared.pkix.key_usage.KeyUsage.{KeyUsage}
use Rattle.x509_ext.specs.declared.pkix.key_usage.KeyUsages.{KeyUsages}
use Rattle.x509_ext.specs.declared.pkix.private_key_usage_period.PrivateKeyUsagePeriod.{PrivateKeyUsagePeriod}
use Rattle.x509_ext.specs.declared.pkix.subject_directory_attributes.SubjectDirectoryAttributes.{SubjectDirectoryAttributes}
use Rattle.x509_ext.specs.declared.pkix.subject_key_identifier.SubjectKeyIdentifier.{SubjectKeyIdentifier}

pub exact_key_usages : IsExact key_usages_eq.ghosts.eq
exact_key_usages = exact_by (λ (k : KeyUsages). k.0) (λ x. record { 0 = x }) (λ k. refl) exact_number

pub exact_key_usage : IsExact key_usage_eq.ghosts.eq
exact_key_usage = exact_by (λ (k : KeyUsage). k.0) (λ x. record { 0 = x }) (λ k. refl) exact_key_usages

pub exact_extended_key_usage : IsExact extended_key_usage_eq.ghosts.eq
exact_extended_key_usage = exact_by (λ (e : ExtendedKeyUsage). e.0) (λ x. record { 0 = x }) (λ e. refl) (exact_list exact_octets)

pub exact_private_key_usage_period : IsExact private_key_usage_period_eq.ghosts.eq
exact_private_key_usage_period =
    exact_by (λ (p : PrivateKeyUsagePeriod). (p.not_before, p.not_after))
    (λ (not_before, not_after). record { not_before = not_before; not_after = not_after })
    (λ p. refl) (exact_both (exact_option exact_date_time) (exact_option exact_date_time))

pub exact_subject_key_identifier : IsExact subject_key_identifier_eq.ghosts.eq
exact_subject_key_identifier = exact_by (λ (s : SubjectKeyIdentifier). s.0) (λ x. record { 0 = x }) (λ s. refl) exact_octets

pub exact_authority_key_identifier : IsExact authority_key_identifier_eq.ghosts.eq
exact_authority_key_identifier =
    exact_by (λ (a : AuthorityKeyIdentifier). (a.key_identifier, (a.authority_cert_issuer, a.authority_cert_serial_number)))
    (λ (key_identifier, (authority_cert_issuer, authority_cert_serial_number)). record { key_identifier = key_identifier; authority_cert_issuer = authority_cert_issuer; authority_cert_serial_number = authority_cert_serial_number })
    (λ a. refl) (exact_both (exact_option exact_octets) (exact_both (exact_option (exact_list exact_general_name)) (exact_option exact_octets)))

pub exact_basic_constraints : IsExact basic_constraints_eq.ghosts.eq
exact_basic_constraints =
    exact_by (λ (b : BasicConstraints). (b.ca, b.path_len_constraint))
    (λ (ca, path_len_constraint). record { ca = ca; path_len_constraint = path_len_constraint })
    (λ b. refl) (exact_both exact_bool (exact_option exact_number))

pub exact_subject_alt_name : IsExact subject_alt_name_eq.ghosts.eq
exact_subject_alt_name = exact_by (λ (s : SubjectAltName). s.0) (λ x. record { 0 = x }) (λ s. refl) (exact_list exact_general_name)

pub exact_issuer_alt_name : IsExact issuer_alt_name_eq.ghosts.eq
exact_issuer_alt_name = exact_by (λ (i : IssuerAltName). i.0) (λ x. record { 0 = x }) (λ i. refl) (exact_list exact_general_name)

pub exact_subject_directory_attributes : IsExact subject_directory_attributes_eq.ghosts.eq
exact_subject_directory_attributes = exact_by (λ (s : SubjectDirectoryAttributes). s.0) (λ x. record { 0 = x }) (λ s. refl) (exact_list attribute_decides)

pub exact_access_description : IsExact access_description_eq.ghosts.eq
exact_access_description =
    exact_by (λ (a : AccessDescription). (a.access_method, a.access_location))
    (λ (access_method, access_location). record { access_method = access_method; access_location = access_location })
    (λ a. refl) (exact_both exact_octets exact_general_name)

pub exact_authority_info_access_syntax : IsExact authority_info_access_syntax_eq.ghosts.eq
exact_authority_info_access_syntax = exact_by (λ (a : AuthorityInfoAccessSyntax). a.0) (λ x. record { 0 = x }) (λ a. refl) (exact_list exact_access_description)

pub exact_subject_info_access_syntax : IsExact subject_info_access_syntax_eq.ghosts.eq
exact_subject_info_access_syntax = exact_by (λ (s : SubjectInfoAccessSyntax). s.0) (λ x. record { 0 = x }) (λ s. refl) (exact_list exact_access_description)
