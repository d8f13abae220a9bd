pub mod Peers
pub mod Limits
pub mod Searched
