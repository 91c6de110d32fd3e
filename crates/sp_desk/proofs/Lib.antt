pub mod EntryLaws
pub mod Counting
pub mod OutcomeLaws
mod DeskSteps
mod Labels
