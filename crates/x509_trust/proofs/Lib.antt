pub mod Asked
pub mod Without
pub mod Answered
