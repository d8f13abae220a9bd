-- The rules on the extensions of a certificate as a list (RFC 5280 4.1.2.9, 4.2): what breaks each, their order, and how each is told.
use Rattle.std.specs.Prelude.{not, ℕ, List, [], ◌∷◌, ◌++◌, codes}
use Rattle.x509_lint.specs.Read.{is_read}
use Rattle.x509_lint.specs.Words.{Certificate, is_empty, passes}
use Rattle.x509_lint.specs.declared.facts.CertificateFacts.{CertificateFacts}
use Rattle.x509_lint.specs.declared.rule.list.ExtensionKind.{ExtensionKind}
use Rattle.x509_lint.specs.declared.rule.list.ExtensionKind.TheVariants as kinds
use Rattle.x509_lint.specs.declared.rule.list.ListRule.{ListRule}
use Rattle.x509_lint.specs.declared.rule.list.ListRule.TheVariants as rules
use Rattle.x509_lint.specs.Sentence.{Sentence, must}

-- ---- the rules, in their order

abbrev pub list_rules : List ListRule
list_rules =
    rules.ExtensionsEmpty
    ∷ rules.ExtensionRepeated ∷ []

abbrev pub list_sentence : ListRule → Sentence Certificate CertificateFacts
list_sentence rules.ExtensionsEmpty =
    must (codes "extensions_empty") (codes "4.1.2.9") (codes "tbsCertificate.extensions")
    (λ c facts. passes is_empty c.tbs_certificate.extensions)
list_sentence rules.ExtensionRepeated =
    must (codes "extension_repeated") (codes "4.2") (codes "tbsCertificate.extensions")
    (λ c facts. facts.is_repeated)

-- ---- of each type of extension, that one of it is malformed

abbrev pub extension_kinds : List ExtensionKind
extension_kinds =
    kinds.AuthorityKeyIdentifier
    ∷ kinds.SubjectKeyIdentifier
    ∷ kinds.KeyUsage
    ∷ kinds.ExtendedKeyUsage
    ∷ kinds.PrivateKeyUsagePeriod
    ∷ kinds.BasicConstraints
    ∷ kinds.SubjectAltName
    ∷ kinds.IssuerAltName
    ∷ kinds.SubjectDirectoryAttributes
    ∷ kinds.NameConstraints
    ∷ kinds.AuthorityInfoAccess
    ∷ kinds.SubjectInfoAccess
    ∷ kinds.CertificatePolicies
    ∷ kinds.PolicyMappings
    ∷ kinds.PolicyConstraints
    ∷ kinds.InhibitAnyPolicy
    ∷ kinds.CrlDistributionPoints
    ∷ kinds.FreshestCrl
    ∷ kinds.OcspNoCheck
    ∷ kinds.PrecertificatePoison
    ∷ kinds.TlsFeatures
    ∷ kinds.QcStatements ∷ []

-- the name of an extension of the type
abbrev pub extension_text : ExtensionKind → List ℕ
extension_text kinds.AuthorityKeyIdentifier = codes "authorityKeyIdentifier"
extension_text kinds.SubjectKeyIdentifier = codes "subjectKeyIdentifier"
extension_text kinds.KeyUsage = codes "keyUsage"
extension_text kinds.ExtendedKeyUsage = codes "extKeyUsage"
extension_text kinds.PrivateKeyUsagePeriod = codes "privateKeyUsagePeriod"
extension_text kinds.BasicConstraints = codes "basicConstraints"
extension_text kinds.SubjectAltName = codes "subjectAltName"
extension_text kinds.IssuerAltName = codes "issuerAltName"
extension_text kinds.SubjectDirectoryAttributes = codes "subjectDirectoryAttributes"
extension_text kinds.NameConstraints = codes "nameConstraints"
extension_text kinds.AuthorityInfoAccess = codes "authorityInfoAccess"
extension_text kinds.SubjectInfoAccess = codes "subjectInfoAccess"
extension_text kinds.CertificatePolicies = codes "certificatePolicies"
extension_text kinds.PolicyMappings = codes "policyMappings"
extension_text kinds.PolicyConstraints = codes "policyConstraints"
extension_text kinds.InhibitAnyPolicy = codes "inhibitAnyPolicy"
extension_text kinds.CrlDistributionPoints = codes "cRLDistributionPoints"
extension_text kinds.FreshestCrl = codes "freshestCRL"
extension_text kinds.OcspNoCheck = codes "ocspNoCheck"
extension_text kinds.PrecertificatePoison = codes "precertificatePoison"
extension_text kinds.TlsFeatures = codes "tlsFeature"
extension_text kinds.QcStatements = codes "qcStatements"

-- where in a certificate an extension of the type stands
abbrev pub extension_place : ExtensionKind → List ℕ
extension_place kind = codes "tbsCertificate.extensions." ++ extension_text kind

abbrev pub malformed_sentence : ExtensionKind → Sentence Certificate CertificateFacts
malformed_sentence kind =
    must (codes "extension_malformed") (codes "4.2") (extension_place kind)
    (λ c facts. not (is_read facts.read kind))
