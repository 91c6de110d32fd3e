pub mod NextBlocks
pub mod Groups
pub mod Bodies
pub mod Relaid
pub mod Found
