pub mod ArcsOfExtensions
pub mod Repeats
pub mod Bits
pub mod Refusals
