-- The fields of certificates (RFC 5280 4.1), CRLs (5.1) and CSRs (RFC 2986 4), and which stand in which.
use Rattle.std.specs.Prelude.{ℕ, List, [], ◌∷◌, Option, Some, None, codes}
use Rattle.x509_refusal.specs.declared.field.Field.{Field}
use Rattle.x509_refusal.specs.declared.field.Field.TheVariants as fields

-- the path of fields that leads to a field; a list and its members have that of the field
unfoldable pub field_text : Field → List ℕ
field_text fields.Certificate = codes "Certificate"
field_text fields.TbsCertificate = codes "tbsCertificate"
field_text fields.Version = codes "tbsCertificate.version"
field_text fields.SerialNumber = codes "tbsCertificate.serialNumber"
field_text fields.Signature = codes "tbsCertificate.signature"
field_text fields.Issuer = codes "tbsCertificate.issuer"
field_text fields.Validity = codes "tbsCertificate.validity"
field_text fields.NotBefore = codes "tbsCertificate.validity.notBefore"
field_text fields.NotAfter = codes "tbsCertificate.validity.notAfter"
field_text fields.Subject = codes "tbsCertificate.subject"
field_text fields.SubjectPublicKeyInfo = codes "tbsCertificate.subjectPublicKeyInfo"
field_text fields.IssuerUniqueId = codes "tbsCertificate.issuerUniqueID"
field_text fields.SubjectUniqueId = codes "tbsCertificate.subjectUniqueID"
field_text fields.Extensions = codes "tbsCertificate.extensions"
field_text fields.ExtensionList = codes "tbsCertificate.extensions"
field_text fields.Extension = codes "tbsCertificate.extensions"
field_text fields.SignatureAlgorithm = codes "signatureAlgorithm"
field_text fields.SignatureValue = codes "signatureValue"
field_text fields.CertificateList = codes "CertificateList"
field_text fields.TbsCertList = codes "tbsCertList"
field_text fields.CrlVersion = codes "tbsCertList.version"
field_text fields.CrlSignature = codes "tbsCertList.signature"
field_text fields.CrlIssuer = codes "tbsCertList.issuer"
field_text fields.ThisUpdate = codes "tbsCertList.thisUpdate"
field_text fields.NextUpdate = codes "tbsCertList.nextUpdate"
field_text fields.RevokedCertificates = codes "tbsCertList.revokedCertificates"
field_text fields.RevokedCertificate = codes "tbsCertList.revokedCertificates"
field_text fields.CrlExtensions = codes "tbsCertList.crlExtensions"
field_text fields.CrlExtensionList = codes "tbsCertList.crlExtensions"
field_text fields.CrlExtension = codes "tbsCertList.crlExtensions"
field_text fields.CertificationRequest = codes "CertificationRequest"
field_text fields.CertificationRequestInfo = codes "certificationRequestInfo"
field_text fields.RequestVersion = codes "certificationRequestInfo.version"
field_text fields.RequestSubject = codes "certificationRequestInfo.subject"
field_text fields.SubjectPkInfo = codes "certificationRequestInfo.subjectPKInfo"
field_text fields.Attributes = codes "certificationRequestInfo.attributes"
field_text fields.RequestSignature = codes "signature"

-- The fields that stand in one, one behind the other: those of Certificate, TBSCertificate and Validity (RFC 5280 4.1), of CertificateList and
-- TBSCertList (5.1), of CertificationRequest and CertificationRequestInfo (RFC 2986 4.1, 4.2), and the list under the tag of extensions.
unfoldable pub fields_of : Field → List Field
fields_of fields.Certificate = fields.TbsCertificate ∷ fields.SignatureAlgorithm ∷ fields.SignatureValue ∷ []
fields_of fields.TbsCertificate = fields.Version ∷ fields.SerialNumber ∷ fields.Signature ∷ fields.Issuer ∷ fields.Validity ∷ fields.Subject ∷ fields.SubjectPublicKeyInfo ∷ fields.IssuerUniqueId ∷ fields.SubjectUniqueId ∷ fields.Extensions ∷ []
fields_of fields.Version = []
fields_of fields.SerialNumber = []
fields_of fields.Signature = []
fields_of fields.Issuer = []
fields_of fields.Validity = fields.NotBefore ∷ fields.NotAfter ∷ []
fields_of fields.NotBefore = []
fields_of fields.NotAfter = []
fields_of fields.Subject = []
fields_of fields.SubjectPublicKeyInfo = []
fields_of fields.IssuerUniqueId = []
fields_of fields.SubjectUniqueId = []
fields_of fields.Extensions = fields.ExtensionList ∷ []
fields_of fields.ExtensionList = []
fields_of fields.Extension = []
fields_of fields.SignatureAlgorithm = []
fields_of fields.SignatureValue = []
fields_of fields.CertificateList = fields.TbsCertList ∷ fields.SignatureAlgorithm ∷ fields.SignatureValue ∷ []
fields_of fields.TbsCertList = fields.CrlVersion ∷ fields.CrlSignature ∷ fields.CrlIssuer ∷ fields.ThisUpdate ∷ fields.NextUpdate ∷ fields.RevokedCertificates ∷ fields.CrlExtensions ∷ []
fields_of fields.CrlVersion = []
fields_of fields.CrlSignature = []
fields_of fields.CrlIssuer = []
fields_of fields.ThisUpdate = []
fields_of fields.NextUpdate = []
fields_of fields.RevokedCertificates = []
fields_of fields.RevokedCertificate = []
fields_of fields.CrlExtensions = fields.CrlExtensionList ∷ []
fields_of fields.CrlExtensionList = []
fields_of fields.CrlExtension = []
fields_of fields.CertificationRequest = fields.CertificationRequestInfo ∷ fields.SignatureAlgorithm ∷ fields.RequestSignature ∷ []
fields_of fields.CertificationRequestInfo = fields.RequestVersion ∷ fields.RequestSubject ∷ fields.SubjectPkInfo ∷ fields.Attributes ∷ []
fields_of fields.RequestVersion = []
fields_of fields.RequestSubject = []
fields_of fields.SubjectPkInfo = []
fields_of fields.Attributes = []
fields_of fields.RequestSignature = []

-- what each member of a list is (RFC 5280 4.1.2.9, 5.1.2.6, 5.1.2.7)
unfoldable pub member_of : Field → Option Field
member_of fields.Certificate = None
member_of fields.TbsCertificate = None
member_of fields.Version = None
member_of fields.SerialNumber = None
member_of fields.Signature = None
member_of fields.Issuer = None
member_of fields.Validity = None
member_of fields.NotBefore = None
member_of fields.NotAfter = None
member_of fields.Subject = None
member_of fields.SubjectPublicKeyInfo = None
member_of fields.IssuerUniqueId = None
member_of fields.SubjectUniqueId = None
member_of fields.Extensions = None
member_of fields.ExtensionList = Some fields.Extension
member_of fields.Extension = None
member_of fields.SignatureAlgorithm = None
member_of fields.SignatureValue = None
member_of fields.CertificateList = None
member_of fields.TbsCertList = None
member_of fields.CrlVersion = None
member_of fields.CrlSignature = None
member_of fields.CrlIssuer = None
member_of fields.ThisUpdate = None
member_of fields.NextUpdate = None
member_of fields.RevokedCertificates = Some fields.RevokedCertificate
member_of fields.RevokedCertificate = None
member_of fields.CrlExtensions = None
member_of fields.CrlExtensionList = Some fields.CrlExtension
member_of fields.CrlExtension = None
member_of fields.CertificationRequest = None
member_of fields.CertificationRequestInfo = None
member_of fields.RequestVersion = None
member_of fields.RequestSubject = None
member_of fields.SubjectPkInfo = None
member_of fields.Attributes = None
member_of fields.RequestSignature = None

-- the identifier octet of a field that has fields of its own: extensions stand under [3], those of a CRL under [0], and all others are SEQUENCEs
unfoldable pub octet_of : Field → ℕ
octet_of fields.Certificate = 48
octet_of fields.TbsCertificate = 48
octet_of fields.Version = 48
octet_of fields.SerialNumber = 48
octet_of fields.Signature = 48
octet_of fields.Issuer = 48
octet_of fields.Validity = 48
octet_of fields.NotBefore = 48
octet_of fields.NotAfter = 48
octet_of fields.Subject = 48
octet_of fields.SubjectPublicKeyInfo = 48
octet_of fields.IssuerUniqueId = 48
octet_of fields.SubjectUniqueId = 48
octet_of fields.Extensions = 163
octet_of fields.ExtensionList = 48
octet_of fields.Extension = 48
octet_of fields.SignatureAlgorithm = 48
octet_of fields.SignatureValue = 48
octet_of fields.CertificateList = 48
octet_of fields.TbsCertList = 48
octet_of fields.CrlVersion = 48
octet_of fields.CrlSignature = 48
octet_of fields.CrlIssuer = 48
octet_of fields.ThisUpdate = 48
octet_of fields.NextUpdate = 48
octet_of fields.RevokedCertificates = 48
octet_of fields.RevokedCertificate = 48
octet_of fields.CrlExtensions = 160
octet_of fields.CrlExtensionList = 48
octet_of fields.CrlExtension = 48
octet_of fields.CertificationRequest = 48
octet_of fields.CertificationRequestInfo = 48
octet_of fields.RequestVersion = 48
octet_of fields.RequestSubject = 48
octet_of fields.SubjectPkInfo = 48
octet_of fields.Attributes = 48
octet_of fields.RequestSignature = 48
