-- The sheets of a state, in print order, and their bytes (docs/RULES.md, "Sheets" and "Page records").
use Rattle.std.specs.Prelude.{ℕ, ◌+◌, max, false, if◌then◌else◌, List, [], ◌∷◌, ◌++◌, length, map, fold, slice_range, slice_index_or, Option, Some, None}
use Rattle.spec_text.specs.Lines.{LineState}
use Rattle.spec_pages.specs.Pages.{page_starts, rows_on}
use Rattle.spec_labels.specs.declared.RowKey.{RowKey}
use Rattle.spec_labels.specs.Labels.{plain_label}
use Rattle.spec_labels.specs.PageRecords.{PageRecordOf, SheetOf, record_starts, sheets_of_records}
use Rattle.spec_sheets.specs.Layout.{Layout, layout_of}
use Rattle.spec_sheets.specs.Shown.{Shown, shown_rows, shape_of, key_of}
use Rattle.spec_sheets.specs.RowBytes.{ShownRow}
use Rattle.spec_sheets.specs.PageRows.{page_body, omitted_rows}
use Rattle.spec_sheets.specs.Sheets.{Sheet, sheet_bytes}
use Rattle.spec_state.specs.State.{State}
use Rattle.spec_state.specs.Headings.{heading_labels}

-- The greatest mark of rows.
abbrev pub greatest_mark : List Shown → ℕ
greatest_mark rows = fold (λ mark (it : Shown). max mark it.mark) 0 rows

-- ---- title sheets

abbrev pub title_sheet : List Shown → Sheet
title_sheet own = record { label = None; round = greatest_mark own; rows = page_body (greatest_mark own) own }

-- The sheets of a title page's rows with these first rows.
abbrev pub title_sheets : List Shown → List ℕ → List Sheet
title_sheets titles [] = []
title_sheets titles (page ∷ later) = title_sheet (slice_range titles page (slice_index_or later 0 (length titles))) ∷ title_sheets titles later

-- ---- sheets of the body, by the places of their rows

-- Without page records pages have the numbers from this one on, and the greatest mark of their rows as round.
abbrev pub numbered_sheets : List Shown → ℕ → List ℕ → List SheetOf
numbered_sheets rows number [] = []
numbered_sheets rows number (page ∷ later) =
    record {
      first = plain_label number;
      last = plain_label number;
      start = page;
      end = slice_index_or later 0 (length rows);
      round = greatest_mark (slice_range rows page (slice_index_or later 0 (length rows)));
      omitted = false;
    } ∷ numbered_sheets rows (number + 1) later

-- The first rows of the page records; none where pages aren't locked.
abbrev pub locked_starts : List LineState → List Shown → Option (List PageRecordOf) → List ℕ
locked_starts lines rows None = []
locked_starts lines rows (Some records) = record_starts lines (map key_of rows) records

-- The first rows of pages: stops are page breaks and the starts of page records.
abbrev pub pages_in : ℕ → List LineState → List Shown → List ℕ → Option (List PageRecordOf) → List ℕ
pages_in limit lines rows breaks records = page_starts limit (map shape_of rows) (breaks ++ locked_starts lines rows records)

abbrev pub sheets_in : ℕ → List LineState → List Shown → List ℕ → Option (List PageRecordOf) → List SheetOf
sheets_in limit lines rows breaks None = numbered_sheets rows 1 (pages_in limit lines rows breaks None)
sheets_in limit lines rows breaks (Some records) =
    sheets_of_records (length rows) records (record_starts lines (map key_of rows) records) (pages_in limit lines rows breaks (Some records))

-- ---- the sheets of a state

-- The layout of a state's text.
abbrev pub layout_in : State → Layout
layout_in state = layout_of state.speakers state.lines

-- The rows of its body, their keys, and those of its title page.
abbrev pub rows_in : State → List Shown
rows_in state = shown_rows state.lines (heading_labels state.lines state.scenes) (layout_in state).body

abbrev pub keys_in : State → List RowKey
keys_in state = map key_of (rows_in state)

abbrev pub titles_in : State → List Shown
titles_in state = shown_rows state.lines None (layout_in state).titles

-- The first rows of its title sheets: each is cut as late as its height allows.
abbrev pub title_starts : State → List ℕ
title_starts state = page_starts (rows_on state.paper) (map shape_of (titles_in state)) []

abbrev pub body_sheets : State → List SheetOf
body_sheets state = sheets_in (rows_on state.paper) state.lines (rows_in state) (layout_in state).breaks state.pages

abbrev pub sheet_rows : List Shown → SheetOf → List ShownRow
sheet_rows rows sheet = if sheet.omitted then omitted_rows else page_body sheet.round (slice_range rows sheet.start sheet.end)

-- A sheet of the body with its rows.
abbrev pub shown_sheet : List Shown → SheetOf → Sheet
shown_sheet rows sheet = record { label = Some (record { first = sheet.first; last = sheet.last }); round = sheet.round; rows = sheet_rows rows sheet }

-- The sheets of a state, title sheets first.
abbrev pub sheets_of_state : State → List Sheet
sheets_of_state state = title_sheets (titles_in state) (title_starts state) ++ map (shown_sheet (rows_in state)) (body_sheets state)

-- The bytes of each sheet.
abbrev pub bytes_of_state : State → List (List ℕ)
bytes_of_state state = map sheet_bytes (sheets_of_state state)
