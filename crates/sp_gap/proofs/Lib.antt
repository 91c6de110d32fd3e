pub mod RunLaws
pub mod MoveLaws
pub mod GapLaws
pub mod GapPlaceLaws
pub mod RingLaws
