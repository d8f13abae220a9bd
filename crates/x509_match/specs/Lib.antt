pub mod Prepared
pub mod Keys
pub mod Matching
pub mod NameKeys
pub mod Plain
pub mod Encoded
