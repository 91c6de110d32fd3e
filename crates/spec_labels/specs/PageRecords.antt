-- Page records: where their segments begin, their sheets, and what becomes of them in edits and rounds (docs/RULES.md, "Page records").
use Rattle.std.specs.Prelude.{◌≡◌, ◌≢◌, ℕ, ◌+◌, ◌-◌, ◌^◌, ◌<◌, ◌≤◌, max, nat_lt, nat_le, Bool, true, false, IsTrue, ◌&&◌, ◌||◌, not, ◌==◌, if◌then◌else◌, List, [], ◌∷◌, length, map, flat_map, fold, filter, find, slice_get, slice_index_or, All, AllPairs, IfSome, Option, Some, None, unwrap_or, option_map}
use Rattle.std.specs.List.{list_any, list_all, position_or_len}
use Rattle.std.specs.Ordering.{is_eq}
use Rattle.spec_text.specs.Lines.{LineState}
use Rattle.spec_labels.specs.declared.Moved.{Moved}
use Rattle.spec_labels.specs.declared.RowKey.{RowKey}
use Rattle.spec_labels.specs.Labels.{LabelOf, IsLabel, label_cmp, Below, between, placed_by}
use Rattle.spec_labels.specs.Scenes.{record_number_limit}

-- Page records.
abbrev pub page_record_limit : ℕ
page_record_limit = 100000

-- Pages of a text.
abbrev pub page_count_limit : ℕ
page_count_limit = 16777216

-- In place of a line's id: the end of the text.
abbrev pub end_line : ℕ
end_line = 2 ^ 48

-- A page record: its label, its anchor, and the round in which it last changed.
pub record PageRecordOf : Type 0 where
  pub label : LabelOf
  pub line : ℕ
  pub row : ℕ
  pub changed : ℕ

-- The place of the line with this id, or the number of lines where no line has it.
abbrev pub line_at : List LineState → ℕ → ℕ
line_at lines id = position_or_len (λ (line : LineState). line.id == id) lines

abbrev pub is_present : List LineState → ℕ → Bool
is_present lines id = nat_lt (line_at lines id) (length lines)

-- A key is before another: its line stands at an earlier place, or at the same one and its row is lower.
abbrev pub is_before : List LineState → RowKey → RowKey → Bool
is_before lines one other =
    nat_lt (line_at lines one.line) (line_at lines other.line)
    || ((line_at lines one.line == line_at lines other.line) && nat_lt one.row other.row)

-- The key at which a record is anchored.
abbrev pub anchor_of : PageRecordOf → RowKey
anchor_of it = record { line = it.line; row = it.row }

-- The first row whose key isn't before the anchor; the number of rows where there is none, or the anchor is the end.
abbrev pub record_start : List LineState → List RowKey → PageRecordOf → ℕ
record_start lines rows it =
    if it.line == end_line then length rows
    else position_or_len (λ (key : RowKey). not (is_before lines key (anchor_of it))) rows

-- Each record's first row. The first record starts at row 0.
abbrev pub record_starts : List LineState → List RowKey → List PageRecordOf → List ℕ
record_starts lines rows [] = []
record_starts lines rows (it ∷ records) = 0 ∷ map (record_start lines rows) records

-- What starts ask for: each record's line is in the text or is the end, each row's line is in the text, and the keys of rows rise.
pub record AreAnchored (lines : List LineState) (rows : List RowKey) (records : List PageRecordOf) : Type 0 where
  pub anchors : All (λ (it : PageRecordOf). it.line ≢ end_line → line_at lines it.line < length lines) records
  pub keys : All (λ (key : RowKey). line_at lines key.line < length lines) rows
  pub rising : AllPairs (λ (one other : RowKey). IsTrue (is_before lines one other)) rows

-- A record whose anchor isn't before that of an earlier one. The end is behind all lines.
pub record InOrder (lines : List LineState) (one other : PageRecordOf) : Type 0 where
  pub inside : other.line ≢ end_line → one.line ≢ end_line
  pub never : other.line ≢ end_line → is_before lines (anchor_of other) (anchor_of one) ≡ false

-- The rows of a record: the record, the label of the next one, and where the rows begin and end.
pub record SegmentOf : Type 0 where
  pub owner : PageRecordOf
  pub next : Option LabelOf
  pub start : ℕ
  pub end : ℕ

-- The label of the first of some records.
abbrev pub first_label : List PageRecordOf → Option LabelOf
first_label records = option_map (λ (it : PageRecordOf). it.label) (slice_get records 0)

-- Each segment reaches to the next record's start, the last one's to the end of the rows.
abbrev pub segments : ℕ → List PageRecordOf → List ℕ → List SegmentOf
segments rows [] starts = []
segments rows (it ∷ records) [] = []
segments rows (it ∷ records) (start ∷ starts) =
    record { owner = it; next = first_label records; start = start; end = slice_index_or starts 0 rows } ∷ segments rows records starts

abbrev pub is_empty : SegmentOf → Bool
is_empty segment = nat_le segment.end segment.start

-- The record of a segment.
abbrev pub owner_of : SegmentOf → PageRecordOf
owner_of segment = segment.owner

-- A segment has a label, and the next record's label is one above it.
pub record IsSegment (it : SegmentOf) : Type 0 where
  pub label : IsLabel it.owner.label
  pub next : IfSome it.next (λ next. Below it.owner.label next × IsLabel next)

-- A sheet: its label, or the first and the last one of the records that it stands for; its rows, its round, and whether it is omitted.
pub record SheetOf : Type 0 where
  pub first : LabelOf
  pub last : LabelOf
  pub start : ℕ
  pub end : ℕ
  pub round : ℕ
  pub omitted : Bool

-- The pages that begin in a segment.
abbrev pub segment_pages : SegmentOf → List ℕ → List ℕ
segment_pages segment pages = filter (λ page. nat_le segment.start page && nat_lt page segment.end) pages

-- The label of a segment's page: the first has the record's, the m-th behind it the m-th between that and the next record's.
abbrev pub page_label : SegmentOf → ℕ → LabelOf
page_label segment m = if m == 0 then segment.owner.label else between segment.owner.label segment.next m

-- A sheet of a segment's page, which ends where the next page begins, or the segment ends.
abbrev pub page_sheet : SegmentOf → ℕ → ℕ → List ℕ → SheetOf
page_sheet segment m page later =
    record { first = page_label segment m; last = page_label segment m; start = page; end = slice_index_or later 0 segment.end; round = segment.owner.changed; omitted = false }

-- The sheets of a segment's pages, where m pages stand before these.
abbrev pub page_sheets : SegmentOf → ℕ → List ℕ → List SheetOf
page_sheets segment m [] = []
page_sheets segment m (page ∷ later) = page_sheet segment m page later ∷ page_sheets segment (m + 1) later

-- The greatest round of records.
abbrev pub greatest_round : PageRecordOf → List PageRecordOf → ℕ
greatest_round it others = fold (λ round (other : PageRecordOf). max round other.changed) it.changed others

-- The sheet of records without rows: from the first label to the last, with the greatest round.
abbrev pub omitted_sheet : ℕ → PageRecordOf → List PageRecordOf → SheetOf
omitted_sheet start it others =
    record { first = it.label; last = (slice_index_or others (length others - 1) it).label; start = start; end = start; round = greatest_round it others; omitted = true }

-- A segment goes onto the run behind it where both are empty, or else stands alone.
abbrev pub onto_run : SegmentOf → List (List SegmentOf) → List (List SegmentOf)
onto_run segment [] = (segment ∷ []) ∷ []
onto_run segment (run ∷ runs) = if is_empty segment && list_all is_empty run then (segment ∷ run) ∷ runs else (segment ∷ []) ∷ run ∷ runs

-- Empty segments in longest runs, and each other one alone.
abbrev pub runs_of : List SegmentOf → List (List SegmentOf)
runs_of [] = []
runs_of (segment ∷ later) = onto_run segment (runs_of later)

-- The sheets of a run: one for empty segments, else one for each page.
abbrev pub run_sheets : List ℕ → List SegmentOf → List SheetOf
run_sheets pages [] = []
run_sheets pages (segment ∷ others) = if is_empty segment then omitted_sheet segment.start segment.owner (map owner_of others) ∷ [] else page_sheets segment 0 (segment_pages segment pages)

-- The sheets of records with these starts, in a text of so many rows and these pages, in print order.
abbrev pub sheets_of_records : ℕ → List PageRecordOf → List ℕ → List ℕ → List SheetOf
sheets_of_records rows records starts pages = flat_map (run_sheets pages) (runs_of (segments rows records starts))

-- Labels rise strictly from record to record.
abbrev pub RisingRecords : List PageRecordOf → Type 0
RisingRecords records = AllPairs (λ (one other : PageRecordOf). Below one.label other.label) records

-- What page records keep.
pub record ArePageRecords (records : List PageRecordOf) : Type 0 where
  pub labels : All (λ (it : PageRecordOf). IsLabel it.label) records
  pub low : All (λ (it : PageRecordOf). it.label.number ≤ record_number_limit) records
  pub rising : RisingRecords records

-- What starts of records keep: one for each record, the first is 0, they never fall, and none is above the number of rows.
pub record AreStarts (rows : ℕ) (records : List PageRecordOf) (starts : List ℕ) : Type 0 where
  pub count : length starts ≡ length records
  pub first : slice_index_or starts 0 0 ≡ 0
  pub order : AllPairs (λ one other. one ≤ other) starts
  pub within : All (λ start. start ≤ rows) starts

-- What pages of a text with starts keep: they rise, lie in the rows and are not too many, and each start in the rows is one.
pub record ArePages (rows : ℕ) (starts pages : List ℕ) : Type 0 where
  pub rising : AllPairs (λ one other. one < other) pages
  pub within : All (λ page. page < rows) pages
  pub few : length pages ≤ page_count_limit
  pub at_starts : All (λ start. start < rows → IsTrue (list_any (λ page. page == start) pages)) starts

-- What sheets keep: their labels are labels, no sheet ends before it begins in labels, and each is behind all of the one before.
pub record AreSheets (sheets : List SheetOf) : Type 0 where
  pub first : All (λ (sheet : SheetOf). IsLabel sheet.first) sheets
  pub last : All (λ (sheet : SheetOf). IsLabel sheet.last) sheets
  pub rising : AllPairs (λ (one other : SheetOf). Below one.last other.first) sheets
  pub firsts : AllPairs (λ (one other : SheetOf). Below one.first other.first) sheets

-- A sheet lies in the rows of the text, and has some unless it is omitted.
pub record LiesWithin (rows : ℕ) (sheet : SheetOf) : Type 0 where
  pub order : sheet.start ≤ sheet.end
  pub within : sheet.end ≤ rows
  pub some : sheet.omitted ≡ false → sheet.start < sheet.end

-- The rows of sheets follow one another, from one row to another.
abbrev pub Covers : ℕ → List SheetOf → ℕ → Type 0
Covers at [] end = at ≡ end
Covers at (sheet ∷ later) end = (sheet.start ≡ at) × Covers sheet.end later end

-- A record whose line is neither in the text nor the end.
abbrev pub is_removed : List LineState → PageRecordOf → Bool
is_removed lines it = not (it.line == end_line) && not (is_present lines it.line)

-- The line at a place, or the end where there is none.
abbrev pub line_from : List LineState → ℕ → ℕ
line_from lines place = unwrap_or (option_map (λ (line : LineState). line.id) (slice_get lines place)) end_line

-- A record of a removed line is anchored at row 0 of the line that now follows.
abbrev pub carried : List LineState → ℕ → PageRecordOf → PageRecordOf
carried lines place it = if is_removed lines it then record { label = it.label; line = line_from lines place; row = 0; changed = it.changed } else it

abbrev pub carried_records : List LineState → ℕ → List PageRecordOf → List PageRecordOf
carried_records lines place records = map (carried lines place) records

-- What a record has, under its index.
abbrev pub moved_of : ℕ → PageRecordOf → Moved
moved_of index it = record { index = index; line = it.line; row = it.row; changed = it.changed }

-- The old anchors of records of removed lines, where so many records stand before these.
abbrev pub moved_from : List LineState → ℕ → List PageRecordOf → List Moved
moved_from lines index [] = []
moved_from lines index (it ∷ records) = if is_removed lines it then moved_of index it ∷ moved_from lines (index + 1) records else moved_from lines (index + 1) records

-- A record with another anchor and round.
abbrev pub with_anchor : PageRecordOf → Option Moved → PageRecordOf
with_anchor it None = it
with_anchor it (Some moved) = record { label = it.label; line = moved.line; row = moved.row; changed = moved.changed }

-- What is kept for the record of an index.
abbrev pub moved_at : List Moved → ℕ → Option Moved
moved_at moved index = find (λ (it : Moved). it.index == index) moved

-- Each record gets the anchor and the round that are kept for it, where so many records stand before these.
abbrev pub put_back_from : List Moved → ℕ → List PageRecordOf → List PageRecordOf
put_back_from moved index [] = []
put_back_from moved index (it ∷ records) = with_anchor it (moved_at moved index) ∷ put_back_from moved (index + 1) records

abbrev pub put_back_records : List Moved → List PageRecordOf → List PageRecordOf
put_back_records moved records = put_back_from moved 0 records

-- What the records had for which something was kept.
abbrev pub taken_back : List PageRecordOf → Moved → Moved
taken_back records moved = unwrap_or (option_map (moved_of moved.index) (slice_get records moved.index)) moved

-- A record has this label.
abbrev pub is_recorded : List PageRecordOf → LabelOf → Bool
is_recorded records label = list_any (λ (it : PageRecordOf). is_eq (label_cmp it.label label)) records

-- A sheet with rows as a record: its label, the key of its first row, its round.
abbrev pub record_of_sheet : List RowKey → SheetOf → PageRecordOf
record_of_sheet keys sheet =
    let key = slice_index_or keys sheet.start (record { line = end_line; row = 0 }) in
    record { label = sheet.first; line = key.line; row = key.row; changed = sheet.round }

-- A sheet with rows whose label no record has.
abbrev pub is_new : List PageRecordOf → SheetOf → Bool
is_new records sheet = not sheet.omitted && not (is_recorded records sheet.first)

-- The records of the sheets that are none yet.
abbrev pub new_page_records : List PageRecordOf → List SheetOf → List RowKey → List PageRecordOf
new_page_records records sheets keys = map (record_of_sheet keys) (filter (is_new records) sheets)

-- A record goes into the list by its label.
abbrev pub put_in : List PageRecordOf → PageRecordOf → List PageRecordOf
put_in = placed_by (λ (it : PageRecordOf). it.label)

-- The list with a record for every sheet with rows.
abbrev pub extended_page_records : List PageRecordOf → List SheetOf → List RowKey → List PageRecordOf
extended_page_records records sheets keys = fold put_in records (new_page_records records sheets keys)
