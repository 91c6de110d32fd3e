pub mod PairWalk
pub mod LookLaws
pub mod MarkerLaws
