pub mod CellLists
pub mod RowLists
pub mod RowPlaces
pub mod OtherRowLaws
pub mod OldRowLaws
pub mod AroundLaws
pub mod StayLaws
pub mod RaisedSteps
