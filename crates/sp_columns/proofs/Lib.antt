pub mod SentenceLaws
pub mod SpeakerLaws
