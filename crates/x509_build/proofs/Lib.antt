pub mod NameFacts
mod OrderFacts
mod DomainFacts
mod ModuleFacts
pub mod Places
pub mod Requests
pub mod LentKeys
