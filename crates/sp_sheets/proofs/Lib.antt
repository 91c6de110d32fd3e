mod Sorting
pub mod MarkedLaws
mod SheetMoves
pub mod UnmarkedLaws
pub mod StaleSheets
mod HeadingMade
pub mod LinesOfHeadings
pub mod OpenedHeadings
mod LockedSheets
mod SameHeadings
pub mod FirstsLaws
pub mod MadePages
pub mod MadeSheets
mod PageRows
pub mod SheetPlaces
pub mod MadeLaws
mod LaidLaws
pub mod StopsMade
pub mod LaidHeadings
pub mod TitleLaws
mod OpeningMade
pub mod OpeningPages
