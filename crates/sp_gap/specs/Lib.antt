pub mod Runs
pub mod Moves
pub mod Gaps
