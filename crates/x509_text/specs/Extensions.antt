-- Lines of extensions, by the types of their values (RFC 5280 4.2, 5.2, 5.3; RFC 6962 3.3).
use Rattle.std.specs.Prelude.{ℕ, List, [], ◌++◌, Option, codes, bytes_eq, if◌then◌else◌}
use Rattle.std.specs.List.{flat_map}
use Rattle.x509_base.specs.TimeForms.{generalized_time}
use Rattle.x509_ext.specs.Access.{authority_info_access_syntax, subject_info_access_syntax}
use Rattle.x509_ext.specs.AlternativeNames.{subject_alt_name, issuer_alt_name}
use Rattle.x509_ext.specs.AuthorityKeyIdentifier.{authority_key_identifier}
use Rattle.x509_ext.specs.BasicConstraints.{basic_constraints}
use Rattle.x509_ext.specs.ExtendedKeyUsage.{extended_key_usage}
use Rattle.x509_ext.specs.CertificateIssuer.{certificate_issuer}
use Rattle.x509_ext.specs.CertificatePolicies.{certificate_policies}
use Rattle.x509_ext.specs.CrlNumber.{base_crl_number, crl_number}
use Rattle.x509_ext.specs.CrlReason.{crl_reason}
use Rattle.x509_ext.specs.DistributionPoint.{crl_distribution_points, freshest_crl}
use Rattle.x509_ext.specs.InhibitAnyPolicy.{inhibit_any_policy}
use Rattle.x509_ext.specs.IssuingDistributionPoint.{issuing_distribution_point}
use Rattle.x509_ext.specs.KeyUsage.{key_usage}
use Rattle.x509_ext.specs.NameConstraints.{name_constraints}
use Rattle.x509_ext.specs.PolicyConstraints.{policy_constraints}
use Rattle.x509_ext.specs.PolicyMapping.{policy_mappings}
use Rattle.x509_ext.specs.PrivateKeyUsagePeriod.{private_key_usage_period}
use Rattle.x509_ext.specs.SubjectDirectoryAttributes.{subject_directory_attributes}
use Rattle.x509_ext.specs.SubjectKeyIdentifier.{subject_key_identifier}
use Rattle.x509_ext.specs.Identifiers.{id_ce, id_pkix}
use Rattle.x509_ext.specs.declared.extension.Extension.{Extension}
use Rattle.x509_sct.specs.Identifier.{embedded_timestamps, precertificate_poison}
use Rattle.x509_sct.specs.Payload.{signed_certificate_timestamp_list}
use Rattle.x509_sct.specs.Poison.{ct_precertificate_poison}
use Rattle.x509_text.specs.declared.line.Place.{Place}
use Rattle.x509_text.specs.GeneralNames as names
use Rattle.x509_text.specs.Lines.{line, below}
use Rattle.x509_text.specs.Names.{oid_text}
use Rattle.x509_text.specs.Payloads.{octets_line, optional, payload_lines}
use Rattle.x509_text.specs.Points as points
use Rattle.x509_text.specs.Policies as policies
use Rattle.x509_text.specs.Revocation as revocation
use Rattle.x509_text.specs.Timestamps as timestamps
use Rattle.x509_text.specs.Usages as usages

-- the object identifier, and a word where it is critical
abbrev pub extension_text : Extension → List ℕ
extension_text e = oid_text e.extn_id ++ (if e.critical then codes ", critical" else [])

-- the lines of the value with this identifier, among those of certificate transparency; the octets where there is none
unfoldable pub transparency_lines : Place → List ℕ → List ℕ → List ℕ
transparency_lines at oid octets =
    if bytes_eq oid embedded_timestamps then payload_lines signed_certificate_timestamp_list timestamps.timestamps_lines at octets
    else if bytes_eq oid precertificate_poison then payload_lines ct_precertificate_poison timestamps.poison_line at octets
    else octets_line at (codes "unknown") octets

-- the lines of the value with this identifier, among those of CRLs and their entries, or of the others
unfoldable pub revocation_lines : Place → List ℕ → List ℕ → List ℕ
revocation_lines at oid octets =
    if bytes_eq oid (id_ce 21) then payload_lines crl_reason revocation.crl_reason_line at octets
    else if bytes_eq oid (id_ce 24) then payload_lines generalized_time revocation.invalidity_line at octets
    else if bytes_eq oid (id_ce 29) then payload_lines certificate_issuer (λ at x. names.names_lines at x.0) at octets
    else if bytes_eq oid (id_ce 20) then payload_lines crl_number revocation.crl_number_line at octets
    else if bytes_eq oid (id_ce 27) then payload_lines base_crl_number revocation.base_number_line at octets
    else if bytes_eq oid (id_ce 28) then payload_lines issuing_distribution_point revocation.issuing_point_lines at octets
    else transparency_lines at oid octets

-- the lines of the value with this identifier, among those of policies and of limits, or of the others
unfoldable pub policy_value_lines : Place → List ℕ → List ℕ → List ℕ
policy_value_lines at oid octets =
    if bytes_eq oid (id_ce 32) then payload_lines certificate_policies (λ at x. policies.policies_lines at x.0) at octets
    else if bytes_eq oid (id_ce 33) then payload_lines policy_mappings (λ at x. policies.mappings_lines at x.0) at octets
    else if bytes_eq oid (id_ce 36) then payload_lines policy_constraints policies.policy_constraints_lines at octets
    else if bytes_eq oid (id_ce 54) then payload_lines inhibit_any_policy policies.inhibit_any_policy_lines at octets
    else if bytes_eq oid (id_ce 30) then payload_lines name_constraints policies.name_constraints_lines at octets
    else revocation_lines at oid octets

-- the lines of the value with this identifier, among those that say where more is found, or of the others
unfoldable pub place_lines : Place → List ℕ → List ℕ → List ℕ
place_lines at oid octets =
    if bytes_eq oid (id_pkix 1 1) then payload_lines authority_info_access_syntax (λ at x. names.accesses_lines at x.0) at octets
    else if bytes_eq oid (id_pkix 1 11) then payload_lines subject_info_access_syntax (λ at x. names.accesses_lines at x.0) at octets
    else if bytes_eq oid (id_ce 31) then payload_lines crl_distribution_points (λ at x. points.points_lines at x.0) at octets
    else if bytes_eq oid (id_ce 46) then payload_lines freshest_crl (λ at x. points.points_lines at x.0) at octets
    else if bytes_eq oid (id_ce 18) then payload_lines issuer_alt_name (λ at x. names.names_lines at x.0) at octets
    else if bytes_eq oid (id_ce 9) then payload_lines subject_directory_attributes (λ at x. usages.attributes_lines at x.0) at octets
    else policy_value_lines at oid octets

-- the lines of the value of an extension with this identifier
unfoldable pub value_lines : Place → List ℕ → List ℕ → List ℕ
value_lines at oid octets =
    if bytes_eq oid (id_ce 15) then payload_lines key_usage usages.key_usage_lines at octets
    else if bytes_eq oid (id_ce 37) then payload_lines extended_key_usage (λ at x. usages.purposes_lines at x.0) at octets
    else if bytes_eq oid (id_ce 19) then payload_lines basic_constraints usages.basic_constraints_lines at octets
    else if bytes_eq oid (id_ce 17) then payload_lines subject_alt_name (λ at x. names.names_lines at x.0) at octets
    else if bytes_eq oid (id_ce 14) then payload_lines subject_key_identifier usages.subject_key_lines at octets
    else if bytes_eq oid (id_ce 35) then payload_lines authority_key_identifier usages.authority_key_lines at octets
    else if bytes_eq oid (id_ce 16) then payload_lines private_key_usage_period usages.period_lines at octets
    else place_lines at oid octets

unfoldable pub extension_lines : Place → Extension → List ℕ
extension_lines at e = line at (codes "extension") (extension_text e) ++ value_lines (below at) e.extn_id e.extn_value

abbrev pub extensions_lines : Place → List Extension → List ℕ
extensions_lines at extensions = flat_map (extension_lines at) extensions

abbrev pub optional_extensions : Place → Option (List Extension) → List ℕ
optional_extensions at extensions = optional (extensions_lines at) extensions
