pub mod RecordLabels
pub mod LinePlaces
pub mod NewLabels
pub mod LineLabels
