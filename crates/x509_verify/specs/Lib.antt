pub mod Keyed
pub mod Named
pub mod Given
pub mod Found
pub mod Effort
pub mod Progress
pub mod Equality
