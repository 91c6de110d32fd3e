pub mod Restoring
pub mod Reads
