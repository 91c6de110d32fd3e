pub mod EntryLaws
pub mod FillLaws
mod RefilledLaws
mod LabelLaws
mod SheetLaws
mod TitleLaws
mod FewLaws
