pub mod FindingPlaces
pub mod Filled
