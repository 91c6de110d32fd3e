pub mod Cuts
pub mod Reading
pub mod Collating
pub mod Merging
pub mod Cues
pub mod Fresh
pub mod Runs
pub mod Refusing
