-- Which types of extensions are right: the octets of each extension of the type spell a value of the type that RFC 5280 or another standard has for its OID (RFC 5280 4.2,
-- 5.2), or they have what this library can't hold.
use Rattle.std.specs.Prelude.{◌≡◌, ◌↔◌, ◌⊎◌, IsTrue, ℕ, Bool, List}
use Rattle.std.specs.List.{All}
use Rattle.x509_der.specs.Form.{Form, Spells}
use Rattle.x509_ext.specs.Access.{authority_info_access_syntax, subject_info_access_syntax}
use Rattle.x509_ext.specs.AlternativeNames.{issuer_alt_name, subject_alt_name}
use Rattle.x509_ext.specs.AuthorityKeyIdentifier.{authority_key_identifier}
use Rattle.x509_ext.specs.CertificatePolicies.{certificate_policies}
use Rattle.x509_ext.specs.CrlNumber.{base_crl_number, crl_number}
use Rattle.x509_ext.specs.DistributionPoint.{crl_distribution_points, freshest_crl}
use Rattle.x509_ext.specs.ExtendedKeyUsage.{extended_key_usage}
use Rattle.x509_ext.specs.IssuingDistributionPoint.{issuing_distribution_point}
use Rattle.x509_ext.specs.KeyUsage.{key_usage}
use Rattle.x509_ext.specs.NameConstraints.{name_constraints}
use Rattle.x509_ext.specs.PolicyMapping.{policy_mappings}
use Rattle.x509_ext.specs.PrivateKeyUsagePeriod.{private_key_usage_period}
use Rattle.x509_ext.specs.SubjectDirectoryAttributes.{subject_directory_attributes}
use Rattle.x509_ext.specs.SubjectKeyIdentifier.{subject_key_identifier}
use Rattle.x509_ext.specs.Identifiers.{id_ce, id_pkix}
use Rattle.x509_ext.specs.declared.extension.Extension.{Extension}
use Rattle.x509_lint.specs.BasicConstraints.{any_basic_constraints}
use Rattle.x509_lint.specs.Beyond.{has_beyond}
use Rattle.x509_lint.specs.OtherTypes.{are_null, ocsp_no_check, precertificate_poison, qc_statements, tls_features}
use Rattle.x509_lint.specs.SkipCerts.{any_inhibit_any_policy, any_policy_constraints}
use Rattle.x509_lint.specs.declared.beyond.Beyond.{Beyond}
use Rattle.x509_lint.specs.declared.beyond.Beyond.TheVariants.{Nothing, Identifiers, Names}
use Rattle.x509_lint.specs.declared.read.CrlRead.{CrlRead}
use Rattle.x509_lint.specs.declared.read.ExtensionsRead.{ExtensionsRead}
use Rattle.x509_lint.specs.declared.read.KeysRead.{KeysRead}
use Rattle.x509_lint.specs.declared.read.NamesRead.{NamesRead}
use Rattle.x509_lint.specs.declared.read.OthersRead.{OthersRead}
use Rattle.x509_lint.specs.declared.read.PoliciesRead.{PoliciesRead}
use Rattle.x509_lint.specs.declared.rule.list.ExtensionKind.{ExtensionKind}
use Rattle.x509_lint.specs.declared.rule.list.ExtensionKind.TheVariants as kinds
use Rattle.x509_lint.specs.declared.rule.crl_field.CrlExtensionKind.{CrlExtensionKind}
use Rattle.x509_lint.specs.declared.rule.crl_field.CrlExtensionKind.TheVariants as crl_kinds

-- the octets spell a value, or they have what can't be held
abbrev pub IsRight : {T : Type 0} → Form T → Beyond → List ℕ → Type 0
IsRight {T} form beyond octets = ((value : T) × Spells form value octets) ⊎ IsTrue (has_beyond beyond octets)

-- where the extension has the OID, that holds of its octets
abbrev pub IsWellFormedAs : {T : Type 0} → Form T → Beyond → List ℕ → Extension → Type 0
IsWellFormedAs form beyond oid e = e.extn_id ≡ oid → IsRight form beyond e.extn_value

-- the type is right: that holds of each extension
abbrev pub AreWellFormedAs : {T : Type 0} → Form T → Beyond → List ℕ → List Extension → Type 0
AreWellFormedAs form beyond oid extensions = All (IsWellFormedAs form beyond oid) extensions

unfoldable pub AreKeysRead : List Extension → KeysRead → Type 0
AreKeysRead extensions read =
    (IsTrue read.authority_key_identifier ↔ AreWellFormedAs authority_key_identifier Names (id_ce 35) extensions)
    × (IsTrue read.subject_key_identifier ↔ AreWellFormedAs subject_key_identifier Nothing (id_ce 14) extensions)
    × (IsTrue read.key_usage ↔ AreWellFormedAs key_usage Nothing (id_ce 15) extensions)
    × (IsTrue read.extended_key_usage ↔ AreWellFormedAs extended_key_usage Identifiers (id_ce 37) extensions)
    × (IsTrue read.private_key_usage_period ↔ AreWellFormedAs private_key_usage_period Nothing (id_ce 16) extensions)
    × (IsTrue read.basic_constraints ↔ AreWellFormedAs any_basic_constraints Nothing (id_ce 19) extensions)

unfoldable pub AreNamesRead : List Extension → NamesRead → Type 0
AreNamesRead extensions read =
    (IsTrue read.subject_alt_name ↔ AreWellFormedAs subject_alt_name Names (id_ce 17) extensions)
    × (IsTrue read.issuer_alt_name ↔ AreWellFormedAs issuer_alt_name Names (id_ce 18) extensions)
    × (IsTrue read.subject_directory_attributes ↔ AreWellFormedAs subject_directory_attributes Identifiers (id_ce 9) extensions)
    × (IsTrue read.name_constraints ↔ AreWellFormedAs name_constraints Names (id_ce 30) extensions)
    × (IsTrue read.authority_info_access ↔ AreWellFormedAs authority_info_access_syntax Names (id_pkix 1 1) extensions)
    × (IsTrue read.subject_info_access ↔ AreWellFormedAs subject_info_access_syntax Names (id_pkix 1 11) extensions)

unfoldable pub ArePoliciesRead : List Extension → PoliciesRead → Type 0
ArePoliciesRead extensions read =
    (IsTrue read.certificate_policies ↔ AreWellFormedAs certificate_policies Identifiers (id_ce 32) extensions)
    × (IsTrue read.policy_mappings ↔ AreWellFormedAs policy_mappings Identifiers (id_ce 33) extensions)
    × (IsTrue read.policy_constraints ↔ AreWellFormedAs any_policy_constraints Nothing (id_ce 36) extensions)
    × (IsTrue read.inhibit_any_policy ↔ AreWellFormedAs any_inhibit_any_policy Nothing (id_ce 54) extensions)
    × (IsTrue read.crl_distribution_points ↔ AreWellFormedAs crl_distribution_points Names (id_ce 31) extensions)
    × (IsTrue read.freshest_crl ↔ AreWellFormedAs freshest_crl Names (id_ce 46) extensions)

unfoldable pub AreOthersRead : List Extension → OthersRead → Type 0
AreOthersRead extensions read =
    (read.ocsp_no_check ≡ are_null ocsp_no_check extensions)
    × (read.precertificate_poison ≡ are_null precertificate_poison extensions)
    × (IsTrue read.tls_features ↔ AreWellFormedAs tls_features Nothing (id_pkix 1 24) extensions)
    × (IsTrue read.qc_statements ↔ AreWellFormedAs qc_statements Identifiers (id_pkix 1 3) extensions)

-- those that certificates have
abbrev pub AreExtensionsRead : List Extension → ExtensionsRead → Type 0
AreExtensionsRead extensions read =
    AreKeysRead extensions read.keys × AreNamesRead extensions read.names × ArePoliciesRead extensions read.policies × AreOthersRead extensions read.others

-- those that CRLs have
unfoldable pub IsCrlRead : List Extension → CrlRead → Type 0
IsCrlRead extensions read =
    (IsTrue read.authority_key_identifier ↔ AreWellFormedAs authority_key_identifier Names (id_ce 35) extensions)
    × (IsTrue read.issuer_alt_name ↔ AreWellFormedAs issuer_alt_name Names (id_ce 18) extensions)
    × (IsTrue read.crl_number ↔ AreWellFormedAs crl_number Nothing (id_ce 20) extensions)
    × (IsTrue read.delta_crl_indicator ↔ AreWellFormedAs base_crl_number Nothing (id_ce 27) extensions)
    × (IsTrue read.issuing_distribution_point ↔ AreWellFormedAs issuing_distribution_point Names (id_ce 28) extensions)
    × (IsTrue read.freshest_crl ↔ AreWellFormedAs freshest_crl Names (id_ce 46) extensions)
    × (IsTrue read.authority_info_access ↔ AreWellFormedAs authority_info_access_syntax Names (id_pkix 1 1) extensions)

abbrev pub is_read : ExtensionsRead → ExtensionKind → Bool
is_read read kinds.AuthorityKeyIdentifier = read.keys.authority_key_identifier
is_read read kinds.SubjectKeyIdentifier = read.keys.subject_key_identifier
is_read read kinds.KeyUsage = read.keys.key_usage
is_read read kinds.ExtendedKeyUsage = read.keys.extended_key_usage
is_read read kinds.PrivateKeyUsagePeriod = read.keys.private_key_usage_period
is_read read kinds.BasicConstraints = read.keys.basic_constraints
is_read read kinds.SubjectAltName = read.names.subject_alt_name
is_read read kinds.IssuerAltName = read.names.issuer_alt_name
is_read read kinds.SubjectDirectoryAttributes = read.names.subject_directory_attributes
is_read read kinds.NameConstraints = read.names.name_constraints
is_read read kinds.AuthorityInfoAccess = read.names.authority_info_access
is_read read kinds.SubjectInfoAccess = read.names.subject_info_access
is_read read kinds.CertificatePolicies = read.policies.certificate_policies
is_read read kinds.PolicyMappings = read.policies.policy_mappings
is_read read kinds.PolicyConstraints = read.policies.policy_constraints
is_read read kinds.InhibitAnyPolicy = read.policies.inhibit_any_policy
is_read read kinds.CrlDistributionPoints = read.policies.crl_distribution_points
is_read read kinds.FreshestCrl = read.policies.freshest_crl
is_read read kinds.OcspNoCheck = read.others.ocsp_no_check
is_read read kinds.PrecertificatePoison = read.others.precertificate_poison
is_read read kinds.TlsFeatures = read.others.tls_features
is_read read kinds.QcStatements = read.others.qc_statements

abbrev pub is_crl_read : CrlRead → CrlExtensionKind → Bool
is_crl_read read crl_kinds.AuthorityKeyIdentifier = read.authority_key_identifier
is_crl_read read crl_kinds.IssuerAltName = read.issuer_alt_name
is_crl_read read crl_kinds.CrlNumber = read.crl_number
is_crl_read read crl_kinds.DeltaCrlIndicator = read.delta_crl_indicator
is_crl_read read crl_kinds.IssuingDistributionPoint = read.issuing_distribution_point
is_crl_read read crl_kinds.FreshestCrl = read.freshest_crl
is_crl_read read crl_kinds.AuthorityInfoAccess = read.authority_info_access
