pub mod Paired
mod WalkLaws
pub mod SheetFinds
pub mod Counts
mod Pushes
mod EntryLaws
mod SaidSteps
mod SceneFacts
mod SaidLaws
