pub mod RestoreLaws
pub mod ReadLaws
