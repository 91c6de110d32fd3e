pub mod Sample
pub mod Accepted
