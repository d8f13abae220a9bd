pub mod Merkle
pub mod Standard
pub mod Roots
pub mod Trees
pub mod Holds
