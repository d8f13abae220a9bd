-- What is seen at the place of a finding.
use Rattle.std.specs.Prelude.{ℕ, nat_lt, List, [], ◌∷◌, ◌++◌, codes, length, take, if◌then◌else◌}
use Rattle.hex.specs.Hex.{encode_lower}
use Rattle.x509_base.specs.declared.profile.Raw.{Raw}
use Rattle.x509_cert.specs.declared.anchor.trust_anchor_choice.TrustAnchorChoice.{TrustAnchorChoice}
use Rattle.x509_cert.specs.declared.anchor.trust_anchor_choice.TrustAnchorChoice.TheVariants as anchors
use Rattle.x509_cert.specs.declared.anchor.trust_anchor_info.TrustAnchorInfo.{TrustAnchorInfo}
use Rattle.x509_cert.specs.declared.certificate.tbs_certificate.TbsCertificateInner.{TbsCertificateInner}
use Rattle.x509_cert.specs.declared.request.cert_req.CertReq.{CertReq}
use Rattle.x509_ext.specs.Identifiers.{id_ce, id_pkix}
use Rattle.x509_ext.specs.LookUp.{members, with_oid}
use Rattle.x509_ext.specs.declared.extension.Extension.{Extension}
use Rattle.x509_lint.specs.OtherTypes.{ocsp_no_check, precertificate_poison}
use Rattle.x509_lint.specs.Request.{requested_extensions, requested_of}
use Rattle.x509_lint.specs.Words.{Certificate, Crl, crl_extensions_of}
use Rattle.x509_lint.specs.declared.rule.Rule.{Rule}
use Rattle.x509_lint.specs.declared.rule.Rule.TheVariants as rules
use Rattle.x509_lint.specs.declared.rule.crl_field.CrlExtensionKind.{CrlExtensionKind}
use Rattle.x509_lint.specs.declared.rule.crl_field.CrlExtensionKind.TheVariants as crl_kinds
use Rattle.x509_lint.specs.declared.rule.field.FieldRule.{FieldRule}
use Rattle.x509_lint.specs.declared.rule.field.FieldRule.TheVariants as field
use Rattle.x509_lint.specs.declared.rule.list.ExtensionKind.{ExtensionKind}
use Rattle.x509_lint.specs.declared.rule.list.ExtensionKind.TheVariants as kinds

-- the octets in hex; of more than 32 those alone, and two dots
unfoldable pub shortened : List ℕ → List ℕ
shortened octets = if nat_lt 32 (length octets) then encode_lower (take 32 octets) ++ codes ".." else encode_lower octets

-- the octets of the first of these extensions
abbrev pub first_seen : List Extension → List ℕ
first_seen [] = []
first_seen (e ∷ extensions) = shortened e.extn_value

-- the octets of the first extension with the OID
abbrev pub value_seen : List ℕ → List Extension → List ℕ
value_seen oid extensions = first_seen (with_oid oid extensions)

-- the OID of a type of extension (RFC 5280 4.2, 5.2, and what OtherTypes.antt names)
abbrev pub extension_oid : ExtensionKind → List ℕ
extension_oid kinds.AuthorityKeyIdentifier = id_ce 35
extension_oid kinds.SubjectKeyIdentifier = id_ce 14
extension_oid kinds.KeyUsage = id_ce 15
extension_oid kinds.ExtendedKeyUsage = id_ce 37
extension_oid kinds.PrivateKeyUsagePeriod = id_ce 16
extension_oid kinds.BasicConstraints = id_ce 19
extension_oid kinds.SubjectAltName = id_ce 17
extension_oid kinds.IssuerAltName = id_ce 18
extension_oid kinds.SubjectDirectoryAttributes = id_ce 9
extension_oid kinds.NameConstraints = id_ce 30
extension_oid kinds.AuthorityInfoAccess = id_pkix 1 1
extension_oid kinds.SubjectInfoAccess = id_pkix 1 11
extension_oid kinds.CertificatePolicies = id_ce 32
extension_oid kinds.PolicyMappings = id_ce 33
extension_oid kinds.PolicyConstraints = id_ce 36
extension_oid kinds.InhibitAnyPolicy = id_ce 54
extension_oid kinds.CrlDistributionPoints = id_ce 31
extension_oid kinds.FreshestCrl = id_ce 46
extension_oid kinds.OcspNoCheck = ocsp_no_check
extension_oid kinds.PrecertificatePoison = precertificate_poison
extension_oid kinds.TlsFeatures = id_pkix 1 24
extension_oid kinds.QcStatements = id_pkix 1 3

abbrev pub crl_extension_oid : CrlExtensionKind → List ℕ
crl_extension_oid crl_kinds.AuthorityKeyIdentifier = id_ce 35
crl_extension_oid crl_kinds.IssuerAltName = id_ce 18
crl_extension_oid crl_kinds.CrlNumber = id_ce 20
crl_extension_oid crl_kinds.DeltaCrlIndicator = id_ce 27
crl_extension_oid crl_kinds.IssuingDistributionPoint = id_ce 28
crl_extension_oid crl_kinds.FreshestCrl = id_ce 46
crl_extension_oid crl_kinds.AuthorityInfoAccess = id_pkix 1 1

-- of the signed part of a certificate its serial number, and the octets of an extension that can't be read
abbrev pub field_seen : TbsCertificateInner Raw → FieldRule → List ℕ
field_seen signed field.SerialNumberNotPositive = shortened signed.serial_number
field_seen signed field.SerialNumberTooLong = shortened signed.serial_number
field_seen signed other = []

abbrev pub signed_seen : TbsCertificateInner Raw → Rule → List ℕ
signed_seen signed (rules.Field rule) = field_seen signed rule
signed_seen signed (rules.ExtensionMalformed kind) = value_seen (extension_oid kind) (members signed.extensions)
signed_seen signed other = []

abbrev pub certificate_seen : Certificate → Rule → List ℕ
certificate_seen c rule = signed_seen c.tbs_certificate rule

-- of a CRL the octets of an extension that can't be read
abbrev pub crl_seen_among : List Extension → Rule → List ℕ
crl_seen_among extensions (rules.CrlExtensionMalformed kind) = value_seen (crl_extension_oid kind) extensions
crl_seen_among extensions other = []

abbrev pub crl_seen : Crl → Rule → List ℕ
crl_seen l rule = crl_seen_among (crl_extensions_of l) rule

-- of a CSR the octets of an extension that is asked for and can't be read
abbrev pub request_seen : CertReq → Rule → List ℕ
request_seen r (rules.RequestExtensionMalformed kind) = value_seen (extension_oid kind) (requested_extensions (requested_of r))
request_seen r other = []

-- of the description of a trust anchor the octets of an extension that can't be read
abbrev pub info_seen : TrustAnchorInfo Raw → Rule → List ℕ
info_seen info (rules.AnchorExtensionMalformed kind) = value_seen (extension_oid kind) (members info.extensions)
info_seen info other = []

-- of a trust anchor that is a certificate what is seen of that
abbrev pub anchor_seen : TrustAnchorChoice Raw → Rule → List ℕ
anchor_seen (anchors.Certificate c) rule = certificate_seen c rule
anchor_seen (anchors.TbsCertificate signed) rule = signed_seen signed rule
anchor_seen (anchors.TaInfo info) rule = info_seen info rule
