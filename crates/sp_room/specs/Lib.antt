pub mod Changes
pub mod Asking
pub mod Owners
pub mod Answers
pub mod Counts
pub mod Inside
