pub mod Labels
pub mod LabelReading
pub mod Scenes
pub mod PageRecords
pub mod Spots
pub mod Anchors
pub mod OwnRecords
