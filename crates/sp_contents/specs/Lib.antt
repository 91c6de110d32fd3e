pub mod Pairs
pub mod Texts
pub mod Gone
pub mod Sheets
pub mod Walks
pub mod Speeches
