pub mod Places
pub mod Split
