pub mod Meant
pub mod StandardFacts
