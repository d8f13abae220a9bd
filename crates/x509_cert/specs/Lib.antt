pub mod Signed
pub mod SignedLaws
pub mod Elements
pub mod ElementParts
pub mod ElementPartsLaws
pub mod Version
pub mod TbsCertificate
pub mod Without
pub mod Certificate
pub mod Respelling
pub mod Spellings
pub mod CertificateEquality
pub mod AnchorVersion
pub mod CertPolicies
pub mod TwoFields
pub mod CertPathControls
pub mod TrustAnchorInfo
pub mod TrustAnchorChoice
pub mod AnchorRespelling
pub mod AnchorEquality
pub mod AnchorMade
pub mod RevokedCert
pub mod CertificateList
pub mod Revoked
pub mod Made
pub mod ListEquality
pub mod Issuers
pub mod AnySerial
pub mod RequestVersion
pub mod CertReq
pub mod Identifiers
pub mod Attributes
pub mod AttributeLookUp
pub mod ChallengePassword
pub mod Rows
pub mod Forms
pub use Rattle.x509_der.specs as der
pub use Rattle.x509_prim.specs as prim
pub use Rattle.x509_base.specs as base
pub use Rattle.x509_name.specs as name
pub use Rattle.x509_ext.specs as ext
pub use Rattle.x509_sct.specs as sct
