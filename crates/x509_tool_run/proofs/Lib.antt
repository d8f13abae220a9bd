pub mod Transfers
pub mod Inputs
pub mod Writes
pub mod AnswerLemmas
pub mod Known
mod GivenWords
pub mod Paths
pub mod PemLines
mod KindWords
