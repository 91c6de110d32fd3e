-- The segments of page records, and their sheets (docs/RULES.md, "Page records").
use Rattle.std.specs.Prelude.{◌≡◌, ℕ, ◌<◌, Bool, true, false, List, [], ◌++◌, length, map, slice_range, slice_index_or, All, Option, Some, None, is_some, unwrap_or}
use Rattle.spec_pages.specs.Pages.{is_heading, rows_on}
use Rattle.spec_labels.specs.Scenes.{SceneRecordOf, line_place}
use Rattle.spec_labels.specs.PageRecords.{PageRecordOf, SegmentOf, SheetOf, end_line, segments, record_starts, segment_pages, page_sheets}
use Rattle.spec_sheets.specs.Shown.{Shown}
use Rattle.spec_sheets.specs.Sheets.{sheet_bytes}
use Rattle.spec_state.specs.State.{State}
use Rattle.spec_state.specs.StateSheets.{pages_in, layout_in, rows_in, keys_in, shown_sheet}

-- The page records of a state; none where its pages aren't locked.
abbrev pub records_in : State → List PageRecordOf
records_in state = unwrap_or state.pages []

abbrev pub no_record : PageRecordOf
no_record = record { label = record { number = 0; path = [] }; line = end_line; row = 0; changed = 0 }

abbrev pub record_at : State → ℕ → PageRecordOf
record_at state i = slice_index_or (records_in state) i no_record

abbrev pub no_segment : SegmentOf
no_segment = record { owner = no_record; next = None; start = 0; end = 0 }

-- The segments of the page records, and that of the record at an index.
abbrev pub segments_in : State → List SegmentOf
segments_in state = segments (length (rows_in state)) (records_in state) (record_starts state.lines (keys_in state) (records_in state))

abbrev pub segment_at : State → ℕ → SegmentOf
segment_at state i = slice_index_or (segments_in state) i no_segment

-- The rows of its segment.
abbrev pub rows_at : State → ℕ → List Shown
rows_at state i = slice_range (rows_in state) (segment_at state i).start (segment_at state i).end

-- The first rows of the pages of a state, and of the pages of its segment.
abbrev pub pages_of : State → List ℕ
pages_of state = pages_in (rows_on state.paper) state.lines (rows_in state) (layout_in state).breaks state.pages

abbrev pub pages_at : State → ℕ → List ℕ
pages_at state i = segment_pages (segment_at state i) (pages_of state)

-- The sheets of its segment, and their bytes.
abbrev pub sheets_at : State → ℕ → List SheetOf
sheets_at state i = page_sheets (segment_at state i) 0 (pages_at state i)

abbrev pub bytes_at : State → ℕ → List (List ℕ)
bytes_at state i = map (λ (sheet : SheetOf). sheet_bytes (shown_sheet (rows_in state) sheet)) (sheets_at state i)

-- The line has a scene record.
abbrev pub has_scene : Option (List SceneRecordOf) → ℕ → Bool
has_scene None line = false
has_scene (Some records) line = is_some (line_place records line)

-- The row is of no heading, or its heading's line has a scene record.
pub record HasScene (scenes : Option (List SceneRecordOf)) (it : Shown) : Type 0 where
  pub by : is_heading it.shape.kind ≡ true → has_scene scenes it.key.line ≡ true

-- The record is there and its segment has a row, and each heading in it has a scene record.
pub record IsLockedPage (state : State) (i : ℕ) : Type 0 where
  pub there : i < length (records_in state)
  pub row : (segment_at state i).start < (segment_at state i).end
  pub scenes : All (HasScene state.scenes) (rows_at state i)

-- These elements stand one behind the other in a list.
pub record StandsAmong {X : Type 0} (part whole : List X) : Type 0 where
  pub front : List X
  pub back : List X
  pub are : whole ≡ front ++ (part ++ back)
