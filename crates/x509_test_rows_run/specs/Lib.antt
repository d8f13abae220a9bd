pub mod Row
pub mod Lines
pub mod Run
