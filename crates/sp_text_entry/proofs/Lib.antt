mod RaisedLaws
mod CarriedLaws
pub mod TextEntryLaws
mod RelaidLaws
