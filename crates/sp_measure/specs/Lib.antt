pub mod Plain
pub mod RowRuns
pub mod Shown
