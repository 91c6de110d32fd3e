pub mod CutLaws
pub mod AddLaws
pub mod MergeLaws
mod FreshLaws
mod CueLaws
mod RunLaws
mod SegmentLaws
mod FactWalk
mod PlaceWalk
mod CueRows
