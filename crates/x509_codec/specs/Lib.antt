pub mod ProfileNames
pub mod Answers
