pub mod Writing
pub mod FilesByName
