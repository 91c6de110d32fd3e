pub mod BareRows
pub mod OldElements
pub mod Raised
