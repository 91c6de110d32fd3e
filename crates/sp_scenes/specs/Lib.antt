pub mod NewLabels
pub mod LinePlaces
pub mod LineLabels
pub mod Locking
pub mod Extending
