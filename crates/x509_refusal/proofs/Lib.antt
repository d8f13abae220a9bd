pub mod Passing
pub mod Members
pub mod Pieces
pub mod Tables
pub mod Wholes
