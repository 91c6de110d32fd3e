pub mod BufferLaws
pub mod ReadLaws
pub mod WaitLaws
pub mod HandedLaws
pub mod SessionLaws
