pub mod Reencoding
pub mod Table
pub mod Naming
pub mod NameAnswers
pub mod RowLaws
