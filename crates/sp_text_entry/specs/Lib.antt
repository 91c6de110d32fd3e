pub mod TextEntries
pub mod Raised
pub mod Relaid
pub mod Reads
