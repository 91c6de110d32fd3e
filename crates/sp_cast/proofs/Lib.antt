mod AddLaws
mod KeyLaws
mod SheetTexts
