pub mod Bytes
pub mod Rows
pub mod Writing
pub mod Answering
pub mod Running
