pub mod Memories
pub mod Answers
pub mod Reads
pub mod Fills
pub mod Outcomes
