pub mod CutState
pub mod Buffered
pub mod Reading
pub mod Cutting
pub mod Answering
