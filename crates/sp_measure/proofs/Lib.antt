pub mod Alone
pub mod Bytes
pub mod Plain
pub mod PlainClusters
pub mod Reading
pub mod Spaces
pub mod Windows
