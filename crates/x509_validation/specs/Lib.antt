pub mod Judging
pub mod Equality
pub mod Details
pub mod Last
