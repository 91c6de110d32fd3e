-- Where the sheets of what is made of a state lie.
use Rattle.std.specs.Prelude.{◌≡◌, ℕ, ◌+◌, ◌<◌, ◌≤◌, Option, None, Some, option_map, List, All, AllPairs, slice_get, slice_index, slice_index_or, slice_range}
use Rattle.spec_text.specs.Lines.{LineState, line_texts}
use Rattle.spec_labels.specs.Labels.{LabelOf}
use Rattle.spec_pages.specs.Rows.{ElementOf}
use Rattle.spec_labels.specs.PageRecords.{LiesWithin, SheetOf}
use Rattle.spec_sheets.specs.Cells.{RowShows}
use Rattle.spec_sheets.specs.Layout.{placed_in}
use Rattle.spec_sheets.specs.Shown.{Shown, shown_rows}
use Rattle.spec_sheets.specs.PageRows.{page_body}
use Rattle.spec_sheets.specs.Sheets.{Sheet, SheetLabelOf}
use Rattle.spec_state.specs.StateSheets.{shown_sheet, title_sheet}
use Rattle.sp_text.specs.Gap.{LinesState}
use Rattle.sp_layout.specs.Bodies.{BodyOf, row_count}
use Rattle.sp_sheets.specs.Made.{MadeOf}

-- The sheets lie in the rows of the elements, and these show parts of the lines.
pub record HasPlaces (lines : List LineState) (it : MadeOf) : Type 0 where
  pub rising : AllPairs (λ one other. one < other) it.numbered.title_starts
  pub within : All (λ page. page < row_count it.layout.titles.elements) it.numbered.title_starts
  pub few_titles : row_count it.layout.titles.elements ≤ 16777216
  pub titles_show : All (RowShows (line_texts lines)) (placed_in it.layout.titles.elements)
  pub few_rows : row_count it.layout.body.elements ≤ 16777216
  pub body_show : All (RowShows (line_texts lines)) (placed_in it.layout.body.elements)
  pub sheets_lie : All (LiesWithin (row_count it.layout.body.elements)) it.numbered.sheets

-- A sheet of rows in a round, and all rows of a body.
abbrev pub sheet_of : Option SheetLabelOf → ℕ → List Shown → Sheet
sheet_of label round rows = record { label = label; round = round; rows = page_body round rows }

abbrev pub rows_shown : LinesState → Option (List LabelOf) → BodyOf → List Shown
rows_shown lines labels body = shown_rows lines.lines labels body.elements

-- The title sheet at a place of those with these first rows.
abbrev pub title_from : List LineState → List ElementOf → List ℕ → ℕ → Sheet
title_from lines elements starts i =
    title_sheet (slice_range (shown_rows lines None elements) (slice_index starts i) (slice_index_or starts (i + 1) (row_count elements)))

-- The title sheet at a place, and a sheet behind the title sheets.
abbrev pub title_at : List LineState → MadeOf → ℕ → Sheet
title_at lines it i = title_from lines it.layout.titles.elements it.numbered.title_starts i

abbrev pub sheet_shown : List LineState → MadeOf → SheetOf → Sheet
sheet_shown lines it sheet = shown_sheet (shown_rows lines it.numbered.labels it.layout.body.elements) sheet

-- This is the sheet at a place behind the title sheets.
abbrev pub IsSheetAt : List LineState → MadeOf → ℕ → Sheet → Type 0
IsSheetAt lines it place sheet = option_map (sheet_shown lines it) (slice_get it.numbered.sheets place) ≡ Some sheet
