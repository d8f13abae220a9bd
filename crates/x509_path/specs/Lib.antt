pub mod Certificates
pub mod Path
pub mod Fault
pub mod PathLength
pub mod Equality
pub mod Lent
