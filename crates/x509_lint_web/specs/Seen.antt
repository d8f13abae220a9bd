-- What is seen of a certificate where it breaks a rule: of the part that the rule speaks of.
use Rattle.std.specs.Prelude.{ℕ, List, [], ◌++◌, Option, Some, None, codes}
use Rattle.x509_base.specs.Time.{date_time_of}
use Rattle.x509_base.specs.TimeText.{date_time_text}
use Rattle.x509_der.specs.Arcs.{dotted}
use Rattle.x509_der.specs.ObjectIdentifier.{arcs_of}
use Rattle.x509_der.specs.declared.any.Any.{Any}
use Rattle.x509_ext.specs.Identifiers.{id_ce, id_pkix}
use Rattle.x509_ext.specs.declared.pkix.name.general_name.GeneralName.{GeneralName}
use Rattle.x509_ext.specs.declared.pkix.name.general_name.GeneralName.TheVariants.{OtherName, Rfc822Name, DnsName, DirectoryName, EdiPartyName, UniformResourceIdentifier, IpAddress, RegisteredId}
use Rattle.x509_lint.specs.OtherTypes.{ocsp_no_check}
use Rattle.x509_lint.specs.Seen.{shortened, value_seen}
use Rattle.x509_lint.specs.Words.{Certificate, extensions_of}
use Rattle.x509_lint_web.specs.Precertificate.{timestamp_list}
use Rattle.x509_lint_web.specs.Words.{key_of}
use Rattle.x509_lint_web.specs.declared.names.NameFault.{NameFault}
use Rattle.x509_lint_web.specs.declared.names.NameFault.TheVariants as faults
use Rattle.x509_lint_web.specs.declared.rule.WebRule.{WebRule}
use Rattle.x509_lint_web.specs.declared.rule.WebRule.TheVariants as rules
use Rattle.x509_lint_web.specs.declared.rule.authority.WebAuthorityRule.{WebAuthorityRule}
use Rattle.x509_lint_web.specs.declared.rule.authority.WebAuthorityRule.TheVariants as authority
use Rattle.x509_lint_web.specs.declared.rule.constrained.WebConstrainedRule.{WebConstrainedRule}
use Rattle.x509_lint_web.specs.declared.rule.constrained.WebConstrainedRule.TheVariants as constrained
use Rattle.x509_lint_web.specs.declared.rule.field.WebFieldRule.{WebFieldRule}
use Rattle.x509_lint_web.specs.declared.rule.field.WebFieldRule.TheVariants as field
use Rattle.x509_lint_web.specs.declared.rule.key.WebKeyRule.{WebKeyRule}
use Rattle.x509_lint_web.specs.declared.rule.key.WebKeyRule.TheVariants as key
use Rattle.x509_lint_web.specs.declared.rule.name.WebNameRule.{WebNameRule}
use Rattle.x509_lint_web.specs.declared.rule.name.WebNameRule.TheVariants as name
use Rattle.x509_lint_web.specs.declared.rule.policy.WebPolicyRule.{WebPolicyRule}
use Rattle.x509_lint_web.specs.declared.rule.policy.WebPolicyRule.TheVariants as policy
use Rattle.x509_lint_web.specs.declared.rule.precertificate.WebPrecertificateRule.{WebPrecertificateRule}
use Rattle.x509_lint_web.specs.declared.rule.precertificate.WebPrecertificateRule.TheVariants as precertificate
use Rattle.x509_lint_web.specs.declared.rule.responder.WebResponderRule.{WebResponderRule}
use Rattle.x509_lint_web.specs.declared.rule.responder.WebResponderRule.TheVariants as responder
use Rattle.x509_lint_web.specs.declared.rule.root.WebRootRule.{WebRootRule}
use Rattle.x509_lint_web.specs.declared.rule.root.WebRootRule.TheVariants as root
use Rattle.x509_lint_web.specs.declared.rule.subordinate.WebSubordinateRule.{WebSubordinateRule}
use Rattle.x509_lint_web.specs.declared.rule.subordinate.WebSubordinateRule.TheVariants as subordinate
use Rattle.x509_lint_web.specs.declared.rule.usage.WebUsageRule.{WebUsageRule}
use Rattle.x509_lint_web.specs.declared.rule.usage.WebUsageRule.TheVariants as usage
use Rattle.x509_lint_web.specs.declared.seen.Part.{Part}
use Rattle.x509_lint_web.specs.declared.seen.Part.TheVariants.{Version, Signature, KeyAlgorithm, KeyParameters, Key, Validity, Subject, Name, Extension, Extensions}
use Rattle.x509_lint_web.specs.declared.seen.SeenKind.{SeenKind}
use Rattle.x509_lint_web.specs.declared.seen.SeenKind.TheVariants as kinds
use Rattle.x509_name.specs.NameText.{name_text}

-- ---- of which part a rule speaks

abbrev pub field_part : WebFieldRule → Part
field_part field.VersionNotV3 = Version
field_part field.AuthorityCertIssuerPresent = Extension (id_ce 35)
field_part field.CrlDistributionPointsCritical = Extension (id_ce 31)
field_part field.CrlDistributionPointNotHttp = Extension (id_ce 31)
field_part field.CrlDistributionPointPartial = Extension (id_ce 31)
field_part other = Signature

abbrev pub key_part : WebKeyRule → Part
key_part key.KeyAlgorithmOther = KeyAlgorithm
key_part key.RsaKeyParametersNotNull = KeyParameters
key_part key.EcCurveOther = KeyParameters
key_part other = Key

abbrev pub name_part : WebNameRule → Part
name_part name.SubjectAltNameOther = Name faults.OtherName
name_part name.DnsNameUnderscore = Name faults.Underscore
name_part name.DnsNameReservedLabel = Name faults.ReservedLabel
name_part name.DnsNameWildcard = Name faults.Wildcard
name_part name.DnsNameOneLabel = Name faults.OneLabel
name_part name.DnsNameInternal = Name faults.Internal
name_part name.DnsNameNumeric = Name faults.Numeric
name_part name.DnsNameReverse = Name faults.Reverse
name_part name.DnsNameOnionOther = Name faults.OtherOnion
name_part name.AddressReserved = Name faults.Reserved
name_part name.CommonNamePresent = Subject
name_part name.CommonNameNotInAltName = Subject
name_part name.CommonNameNotAsInAltName = Subject
name_part name.CommonNameRepeated = Subject
name_part name.OrganizationalUnitPresent = Subject
name_part other = Extension (id_ce 17)

abbrev pub usage_part : WebUsageRule → Part
usage_part usage.ExtendedKeyUsageAbsent = Extension (id_ce 37)
usage_part usage.ExtendedKeyUsageForbidden = Extension (id_ce 37)
usage_part usage.ExtendedKeyUsageOther = Extension (id_ce 37)
usage_part usage.ExtendedKeyUsageCritical = Extension (id_ce 37)
usage_part usage.BasicConstraintsNotCritical = Extension (id_ce 19)
usage_part usage.SubjectKeyIdentifierPresent = Extension (id_ce 14)
usage_part other = Extension (id_ce 15)

abbrev pub policy_part : WebPolicyRule → Part
policy_part policy.DomainValidatedAttribute = Subject
policy_part policy.OrganizationValidatedWithoutOrganization = Subject
policy_part policy.OrganizationValidatedWithoutCountry = Subject
policy_part policy.AuthorityInfoAccessAbsent = Extension (id_pkix 1 1)
policy_part policy.OcspAccessAbsent = Extension (id_pkix 1 1)
policy_part policy.AccessMethodOther = Extension (id_pkix 1 1)
policy_part policy.AccessLocationNotHttp = Extension (id_pkix 1 1)
policy_part policy.RevocationAbsentOver10Days = Extensions
policy_part policy.RevocationAbsentOver7Days = Extensions
policy_part other = Extension (id_ce 32)

abbrev pub authority_part : WebAuthorityRule → Part
authority_part authority.CaWithoutCommonName = Subject
authority_part authority.CaWithoutOrganization = Subject
authority_part authority.CaWithoutCountry = Subject
authority_part authority.CaCountryUnknown = Subject
authority_part authority.CaAttributeOther = Subject
authority_part authority.CaExtendedKeyUsageForbidden = Extension (id_ce 37)
authority_part authority.SubordinateWithoutPolicies = Extension (id_ce 32)
authority_part authority.SubordinateWithoutCrlPoints = Extension (id_ce 31)
authority_part other = Extension (id_ce 15)

abbrev pub root_part : WebRootRule → Part
root_part root.RootExtendedKeyUsagePresent = Extension (id_ce 37)
root_part root.RootPoliciesPresent = Extension (id_ce 32)
root_part root.RootCrlPointsPresent = Extension (id_ce 31)
root_part root.RootWithoutAuthorityKeyIdentifier = Extension (id_ce 35)
root_part root.RootPathLenPresent = Extension (id_ce 19)
root_part root.RootExtensionOther = Extensions
root_part root.RootOrganizationalUnitPresent = Subject
root_part other = Validity

abbrev pub subordinate_part : WebSubordinateRule → Part
subordinate_part subordinate.SubordinateWithoutExtendedKeyUsage = Extension (id_ce 37)
subordinate_part subordinate.SubordinateExtendedKeyUsageCritical = Extension (id_ce 37)
subordinate_part subordinate.SubordinateExtendedKeyUsageOther = Extension (id_ce 37)
subordinate_part subordinate.SubordinateWithoutAuthorityInfoAccess = Extension (id_pkix 1 1)
subordinate_part subordinate.SubordinateAccessMethodOther = Extension (id_pkix 1 1)
subordinate_part subordinate.SubordinateAccessLocationNotHttp = Extension (id_pkix 1 1)
subordinate_part subordinate.SubordinateOrganizationalUnitPresent = Subject
subordinate_part other = Extension (id_ce 32)

abbrev pub responder_part : WebResponderRule → Part
responder_part responder.OcspNoCheckAbsent = Extension ocsp_no_check
responder_part responder.OcspNoCheckCritical = Extension ocsp_no_check
responder_part responder.ResponderPurposeOther = Extension (id_ce 37)
responder_part responder.ResponderConstraintsNotCritical = Extension (id_ce 19)
responder_part responder.ResponderAltNamePresent = Extension (id_ce 17)
responder_part responder.ResponderCrlPointsPresent = Extension (id_ce 31)
responder_part responder.ResponderPoliciesPresent = Extension (id_ce 32)
responder_part responder.ResponderAccessPresent = Extension (id_pkix 1 1)
responder_part other = Extension (id_ce 15)

abbrev pub precertificate_part : WebPrecertificateRule → Part
precertificate_part precertificate.PrecertificateWithTimestamps = Extension timestamp_list
precertificate_part precertificate.PrecertificateSignerKeyUsageNotCritical = Extension (id_ce 15)
precertificate_part precertificate.PrecertificateSignerWithoutPolicies = Extension (id_ce 32)
precertificate_part precertificate.PrecertificateSignerWithoutCrlPoints = Extension (id_ce 31)
precertificate_part other = Extension (id_ce 37)

abbrev pub constrained_part : WebConstrainedRule → Part
constrained_part constrained.ConstrainedPurposeForbidden = Extension (id_ce 37)
constrained_part other = Extension (id_ce 30)

abbrev pub part_of : WebRule → Part
part_of (rules.Field rule) = field_part rule
part_of (rules.Key rule) = key_part rule
part_of (rules.Validity rule) = Validity
part_of (rules.Name rule) = name_part rule
part_of (rules.Subject rule) = Subject
part_of (rules.Usage rule) = usage_part rule
part_of (rules.Policy rule) = policy_part rule
part_of (rules.Authority rule) = authority_part rule
part_of (rules.Root rule) = root_part rule
part_of (rules.Subordinate rule) = subordinate_part rule
part_of (rules.Responder rule) = responder_part rule
part_of (rules.Precertificate rule) = precertificate_part rule
part_of (rules.Constrained rule) = constrained_part rule

-- the fault of the names of the SAN of which the part is
abbrev pub fault_of : Part → Option NameFault
fault_of (Name fault) = Some fault
fault_of other = None

-- ---- what is seen, and what that is

-- of which kind a name is, as GeneralName has it (RFC 5280 4.2.1.6)
abbrev pub kind_of_name : GeneralName → SeenKind
kind_of_name (OtherName other) = kinds.OtherName
kind_of_name (Rfc822Name text) = kinds.Rfc822Name
kind_of_name (DnsName text) = kinds.DnsName
kind_of_name (DirectoryName rdns) = kinds.DirectoryName
kind_of_name (EdiPartyName party) = kinds.EdiPartyName
kind_of_name (UniformResourceIdentifier text) = kinds.Uri
kind_of_name (IpAddress octets) = kinds.IpAddress
kind_of_name (RegisteredId oid) = kinds.RegisteredId

abbrev pub kind_of_part : Part → SeenKind
kind_of_part Version = kinds.Nothing
kind_of_part Signature = kinds.Oid
kind_of_part KeyAlgorithm = kinds.Oid
kind_of_part KeyParameters = kinds.Octets
kind_of_part Key = kinds.Octets
kind_of_part Validity = kinds.Dates
kind_of_part Subject = kinds.Name
kind_of_part (Name fault) = kinds.Nothing
kind_of_part (Extension oid) = kinds.Octets
kind_of_part Extensions = kinds.Nothing

abbrev pub kind_word : SeenKind → List ℕ
kind_word kinds.Nothing = codes "nothing"
kind_word kinds.Octets = codes "octets"
kind_word kinds.Oid = codes "OID"
kind_word kinds.Dates = codes "dates"
kind_word kinds.Name = codes "name"
kind_word kinds.OtherName = codes "otherName"
kind_word kinds.Rfc822Name = codes "rfc822Name"
kind_word kinds.DnsName = codes "dNSName"
kind_word kinds.DirectoryName = codes "directoryName"
kind_word kinds.EdiPartyName = codes "ediPartyName"
kind_word kinds.Uri = codes "uniformResourceIdentifier"
kind_word kinds.IpAddress = codes "iPAddress"
kind_word kinds.RegisteredId = codes "registeredID"

-- as 1.2.840.10045.2.1
abbrev pub oid_seen : List ℕ → List ℕ
oid_seen oid = dotted (arcs_of oid)

-- a dNSName, an rfc822Name or a URI as it is, an iPAddress in hex, a directoryName by its text (RFC 4514), a registeredID, and the type of an otherName
abbrev pub name_seen : GeneralName → List ℕ
name_seen (OtherName other) = oid_seen other.type_id
name_seen (Rfc822Name text) = text
name_seen (DnsName text) = text
name_seen (DirectoryName rdns) = name_text rdns
name_seen (EdiPartyName party) = []
name_seen (UniformResourceIdentifier text) = text
name_seen (IpAddress octets) = shortened octets
name_seen (RegisteredId oid) = oid_seen oid

abbrev pub parameters_seen : Option Any → List ℕ
parameters_seen None = []
parameters_seen (Some a) = shortened a.value

-- notBefore and notAfter, as 2026-03-15T00:00:00Z/2026-05-01T00:00:00Z (ISO 8601 4.4.4.1)
abbrev pub validity_seen : Certificate → List ℕ
validity_seen c = date_time_text (date_time_of c.tbs_certificate.validity.not_before) ++ (codes "/" ++ date_time_text (date_time_of c.tbs_certificate.validity.not_after))

-- the text of the subject (RFC 4514)
abbrev pub subject_seen : Certificate → List ℕ
subject_seen c = name_text c.tbs_certificate.subject

-- of another part than names of the SAN
abbrev pub part_seen : Certificate → Part → List ℕ
part_seen c Version = []
part_seen c Signature = oid_seen c.signature_algorithm.oid
part_seen c KeyAlgorithm = oid_seen (key_of c).algorithm.oid
part_seen c KeyParameters = parameters_seen (key_of c).algorithm.parameters
part_seen c Key = shortened (key_of c).subject_public_key.octets
part_seen c Validity = validity_seen c
part_seen c Subject = subject_seen c
part_seen c (Name fault) = []
part_seen c (Extension oid) = value_seen oid (extensions_of c)
part_seen c Extensions = []
