-- Pages that are asked for of a state: its stops in order, and how many are filled; and the sheets that stood on pages.
use Rattle.std.specs.Prelude.{◌≡◌, ℕ, IsPermutation, IfSome, List, length, Option, None}
use Rattle.spec_pages.specs.Rows.{ElementOf}
use Rattle.spec_labels.specs.Labels.{LabelOf}
use Rattle.spec_labels.specs.PageRecords.{SheetOf}
use Rattle.spec_records.specs.Kept.{RecordsOf}
use Rattle.spec_state.specs.State.{State}
use Rattle.spec_state.specs.Headings.{heading_labels}
use Rattle.spec_state.specs.StateSheets.{locked_starts, rows_in}
use Rattle.spec_locked_pages.specs.Segments.{pages_of}
use Rattle.spec_edit.specs.PageWindows.{AreStops}
use Rattle.spec_refill.specs.Exchanges.{stops_in}
use Rattle.sp_text.specs.Gap.{LinesState}
use Rattle.sp_layout.specs.Bodies.{marks_in}
use Rattle.sp_reflow.specs.Starts.{many_more}
use Rattle.sp_reflow.specs.Filling.{FilledAtMost}
use Rattle.sp_sheets.specs.Locked.{AreSheetsBefore}
use Rattle.sp_sheets.specs.Numbered.{AreUnmarked, marked_sheets}

-- Stops of a state, in order: its page breaks and the first rows of its page records.
pub record AreStopsOf (state : State) (stops : List ℕ) : Type 0 where
  pub same : IsPermutation (stops_in state) stops
  pub are : AreStops (length (rows_in state)) stops

-- Each page of a state was filled once; and at most so many pages were filled.
abbrev pub FillsAll : State → ℕ → ℕ → Type 0
FillsAll state fills fills' = fills' ≡ many_more fills (length (pages_of state))

abbrev pub FillsAtMostAll : State → ℕ → ℕ → Type 0
FillsAtMostAll state fills fills' = FilledAtMost fills fills' (length (pages_of state))

-- The labels of the headings of lines; none where scenes aren't locked.
abbrev pub labels_in : LinesState → RecordsOf → Option (List LabelOf)
labels_in lines records = heading_labels lines.lines records.scenes

-- The first rows of the page records of a state; none where pages aren't locked.
abbrev pub locked_starts_in : State → List ℕ
locked_starts_in state = locked_starts state.lines (rows_in state) state.pages

-- The sheets of elements on these pages, where pages aren't locked.
abbrev pub numbered_on : List ElementOf → List ℕ → List SheetOf
numbered_on elements pages = marked_sheets (marks_in elements) 1 pages

-- Pages are locked, and these were the sheets of records with the same labels, first rows and pages.
abbrev pub WerePageSheets : RecordsOf → List ℕ → List ℕ → List SheetOf → Type 0
WerePageSheets records firsts pages sheets = IfSome records.pages (λ those. AreSheetsBefore those firsts pages sheets)

-- Where pages aren't locked and the round is 0, these were the unmarked sheets of pages.
abbrev pub WereUnmarkedSheets : RecordsOf → List ℕ → List SheetOf → Type 0
WereUnmarkedSheets records pages sheets = records.pages ≡ None → records.round ≡ 0 → AreUnmarked sheets pages
