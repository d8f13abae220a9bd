pub mod ByOctets
pub mod Wildcards
