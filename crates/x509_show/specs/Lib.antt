pub mod Show
pub mod Timestamps
