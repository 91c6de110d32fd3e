mod Places
pub mod BodyExchanges
pub mod BodyLaws
pub mod ElementCounts
pub mod Halves
pub mod RowSwaps
pub mod BreakPlaces
mod Elements
mod LastRows
mod LastSpeakers
mod LayoutAhead
mod TextLayout
pub mod RunsBack
pub mod PartLaws
pub mod StanzaLists
pub mod SpeakerLaws
pub mod SpokenAnew
pub mod QuietLaws
pub mod EdgeLaws
pub mod BreakLaws
mod ChangeLaws
pub mod SwapLaws
pub mod SpeechLaws
pub mod EditedLaws
pub mod EditDone
pub mod WindowLaws
pub mod WindowSpeakers
mod OutsideLaws
mod SpeechAlone
pub mod FewBlocks
