pub mod Segments
pub mod LockedPages
pub mod Chains
pub mod Promises
