pub mod Findings
pub mod FindingLines
