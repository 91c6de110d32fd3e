pub mod CutLaws
mod LineRows
pub mod LimitLaws
pub mod RunLaws
pub mod EndLaws
pub mod SeenLaws
pub mod KeepLaws
