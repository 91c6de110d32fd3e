pub mod Contents
pub mod CellLists
pub mod Sentences
