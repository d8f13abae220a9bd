pub mod SplitWords
pub mod Found
pub mod InputsShown
pub mod Readings
pub mod Elements
pub mod ContentInfo
pub mod ObjectsLeft
