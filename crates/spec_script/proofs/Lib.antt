mod Rows
pub mod MarkedSteps
pub mod MarkedLaws
pub mod SpanLaws
pub mod PartsLeft
pub mod YardLaws
pub mod NoteLaws
pub mod NoteLines
pub mod FirstMarks
pub mod KeptRuns
pub mod FirstBoneyards
pub mod FirstNotes
mod BlockRows
pub mod KeptPlaces
pub mod LongestRuns
pub mod Blocks
pub mod TitleLaws
pub mod StanzaLines
pub mod StanzaList
mod EmphasisRows
pub mod PairLaws
pub mod JoinLaws
pub mod LookLaws
pub mod RunLaws
pub mod CutEnds
pub mod WindowParts
pub mod NoteEdges
pub mod LeftParts
pub mod LineCuts
pub mod BlockParts
pub mod PlainLaws
pub mod BlockPlaces
pub mod RunPlaces
pub mod ElementLaws
pub mod RunSteps
pub mod EachBlock
pub mod SpeechParts
mod ValueLaws
pub mod TextBlocks
