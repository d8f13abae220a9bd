pub mod Checking
pub mod Lending
pub mod ExtensionRefs
pub mod CrlRefs
pub mod CrlWalk
pub mod CertificateWalk
