pub mod Digits
pub mod Fronts
pub mod ReadSoFar
pub mod WrittenSteps
