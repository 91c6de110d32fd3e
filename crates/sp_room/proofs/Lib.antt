pub mod Walks
pub mod OwnerLaws
pub mod Answering
pub mod Counting
