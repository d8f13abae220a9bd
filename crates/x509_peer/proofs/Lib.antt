pub mod Anys
pub mod Refused
pub mod Tagged
pub mod Walk
pub mod Found
