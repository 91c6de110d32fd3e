pub mod Changes
pub mod Kinds
pub mod Rooms
pub mod Standing
pub mod Holding
pub mod Sessions
