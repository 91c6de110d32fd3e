pub mod Layering
pub mod Joining
pub mod Markers
