pub mod Fields
pub mod Unread
pub mod Objects
pub mod Words
