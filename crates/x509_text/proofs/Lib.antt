pub mod Written
pub mod Runs
pub mod Blocks
pub mod ColonHex
pub mod Dates
pub mod Answered
pub mod Elements
pub mod Begins
