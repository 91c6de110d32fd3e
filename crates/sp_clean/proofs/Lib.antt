pub mod Copies
pub mod FormLaws
pub mod YardWalk
pub mod NoteWalk
