pub mod EditedLines
pub mod Edits
pub mod Limits
pub mod Lines
pub mod Parts
pub mod Ranges
