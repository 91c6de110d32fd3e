-- The revision packet (docs/RULES.md, "Packets").
use Rattle.std.specs.Prelude.{◌≡◌, ℕ, ◌+◌, ◌-◌, min, max, Bool, true, false, ◌&&◌, ◌||◌, ◌==◌, nat_lt, nat_le, if◌then◌else◌, List, [], ◌∷◌, ◌++◌, length, map, take, drop, slice_get, unwrap_or, option_map}
use Rattle.std.specs.List.{list_any, flat_map, prefix_len}
use Rattle.spec_pages.specs.Pages.{continues_speech}
use Rattle.spec_labels.specs.PageRecords.{SegmentOf, is_empty, owner_of, SheetOf, segment_pages, page_sheets, page_sheet, omitted_sheet, runs_of, run_sheets}
use Rattle.spec_sheets.specs.Shown.{is_cue}
use Rattle.spec_labels.specs.Labels.{Below}
use Rattle.spec_state.specs.SameRows.{BareRow}
use Rattle.spec_packet.specs.SheetLists.{PrintedOf, IsIn, InOrder}
use Rattle.spec_packet.specs.Collations.{Choice}

-- A text with page records as its sheets see it: the segments of the records, the first row of each page, the rows, and what is
-- printed of a sheet.
pub record LaidOf : Type 0 where
  pub segments : List SegmentOf
  pub pages : List ℕ
  pub rows : List BareRow
  pub print : SheetOf → List ℕ

-- The sheets with labels.
abbrev pub laid_sheets : LaidOf → List SheetOf
laid_sheets laid = flat_map (run_sheets laid.pages) (runs_of laid.segments)

abbrev pub printed_of : LaidOf → SheetOf → PrintedOf
printed_of laid sheet = record { label = record { first = sheet.first; last = sheet.last }; bytes = laid.print sheet }

abbrev pub laid_printed : LaidOf → List PrintedOf
laid_printed laid = map (printed_of laid) (laid_sheets laid)

-- A record is fresh where it last changed in this round.
abbrev pub is_fresh : ℕ → SegmentOf → Bool
is_fresh round segment = segment.owner.changed == round

-- The rows of the cue that a speech's rows begin with, from the speech's first row on: those of its rows that are a cue's.
abbrev pub is_cue_row : BareRow → Bool
is_cue_row row = is_cue row.shape.kind

abbrev pub cue_len : List BareRow → ℕ
cue_len [] = 0
cue_len (row ∷ rows) = prefix_len is_cue_row (take (row.shape.rest + 1) (row ∷ rows))

-- How far a cue reaches: to the first row behind it, or to the last row of its speech.
abbrev pub cue_reach : List BareRow → ℕ
cue_reach [] = 0
cue_reach (row ∷ rows) = min (cue_len (row ∷ rows)) row.shape.rest

-- The first row of the speech that a row goes on with.
abbrev pub speech_start : List BareRow → ℕ → ℕ
speech_start rows p = p - unwrap_or (option_map (λ (it : BareRow). it.shape.index) (slice_get rows p)) 0

-- The rows from the first row of that speech on, and those of its cue.
abbrev pub speech_at : List BareRow → ℕ → List BareRow
speech_at rows p = drop (speech_start rows p) rows

abbrev pub cue_at : List BareRow → ℕ → List BareRow
cue_at rows p = take (cue_len (speech_at rows p)) (speech_at rows p)

-- The row goes on with a speech.
abbrev pub goes_on_at : List BareRow → ℕ → Bool
goes_on_at rows p = unwrap_or (option_map (λ (it : BareRow). continues_speech it.shape) (slice_get rows p)) false

-- A segment lies between two rows, or has one of them.
abbrev pub is_between : ℕ → ℕ → SegmentOf → Bool
is_between first last segment = nat_lt first segment.end && nat_le segment.start last

-- A page from this row on goes on with a speech, and a record is fresh from that of the speech's first row up to the page's own,
-- and up to that of the first row behind the speech's cue.
abbrev pub cue_end : List BareRow → ℕ → ℕ
cue_end rows p = max p (speech_start rows p + cue_reach (speech_at rows p))

abbrev pub is_fresh_between : ℕ → ℕ → ℕ → SegmentOf → Bool
is_fresh_between round first last segment = is_fresh round segment && is_between first last segment

abbrev pub has_fresh_cue : ℕ → LaidOf → ℕ → Bool
has_fresh_cue round laid p = goes_on_at laid.rows p && list_any (is_fresh_between round (speech_start laid.rows p) (cue_end laid.rows p)) laid.segments

-- A page is handed out where its record is fresh, its segment has more than one page, or its cue is fresh.
abbrev pub page_choice : ℕ → LaidOf → SegmentOf → SheetOf → Choice
page_choice round laid segment sheet = record {
  sheet = printed_of laid sheet;
  handed = is_fresh round segment || (nat_lt 1 (length (segment_pages segment laid.pages)) || has_fresh_cue round laid sheet.start);
}

-- An omitted sheet is handed out where one of its records is fresh, or the one directly before or behind them.
abbrev pub omitted_choice : ℕ → LaidOf → Bool → SegmentOf → List SegmentOf → Bool → Choice
omitted_choice round laid before segment others behind = record {
  sheet = printed_of laid (omitted_sheet segment.start segment.owner (map owner_of others));
  handed = list_any (is_fresh round) (segment ∷ others) || (before || behind);
}

-- The sheets of a run, where the record before it is fresh, and the one behind it.
abbrev pub run_choices : ℕ → LaidOf → Bool → List SegmentOf → Bool → List Choice
run_choices round laid before [] behind = []
run_choices round laid before (segment ∷ others) behind =
    if is_empty segment then omitted_choice round laid before segment others behind ∷ []
    else map (page_choice round laid segment) (page_sheets segment 0 (segment_pages segment laid.pages))

-- The first record of a run is fresh, and the last one.
abbrev pub first_fresh : ℕ → List (List SegmentOf) → Bool
first_fresh round [] = false
first_fresh round ([] ∷ runs) = false
first_fresh round ((segment ∷ others) ∷ runs) = is_fresh round segment

abbrev pub last_fresh : ℕ → Bool → List SegmentOf → Bool
last_fresh round before [] = before
last_fresh round before (segment ∷ others) = last_fresh round (is_fresh round segment) others

-- The sheets of runs, in order.
abbrev pub runs_choices : ℕ → LaidOf → Bool → List (List SegmentOf) → List Choice
runs_choices round laid before [] = []
runs_choices round laid before (run ∷ runs) =
    run_choices round laid before run (first_fresh round runs) ++ runs_choices round laid (last_fresh round before run) runs

-- The sheets with labels, and which of them the packet has.
abbrev pub laid_choices : ℕ → LaidOf → List Choice
laid_choices round laid = runs_choices round laid false (runs_of laid.segments)

-- A record's segment at the opening and now.
pub record Both : Type 0 where
  pub was : SegmentOf
  pub now : SegmentOf

abbrev pub was_of : Both → SegmentOf
was_of both = both.was

abbrev pub now_of : Both → SegmentOf
now_of both = both.now

-- What a record keeps: its label; and where it isn't fresh, its round, and whether it has rows.
pub record SameRecord (round : ℕ) (both : Both) : Type 0 where
  pub label : both.was.owner.label ≡ both.now.owner.label
  pub changed : is_fresh round both.now ≡ false → both.was.owner.changed ≡ both.now.owner.changed
  pub empty : is_fresh round both.now ≡ false → is_empty both.was ≡ is_empty both.now

-- The sheet of a segment that has one page.
abbrev pub only_sheet : SegmentOf → SheetOf
only_sheet segment = page_sheet segment 0 segment.start []

-- The first page of a segment begins where it does.
pub record Starts (segment : SegmentOf) (pages : List ℕ) : Type 0 where
  pub later : List ℕ
  pub is : segment_pages segment pages ≡ segment.start ∷ later

-- An omitted sheet is printed by its labels and its round alone.
pub record PrintsOmitted (was now : LaidOf) : Type 0 where
  pub same : (one other : SheetOf) → one.omitted ≡ true → other.omitted ≡ true → one.first ≡ other.first → one.last ≡ other.last → one.round ≡ other.round
      → was.print one ≡ now.print other

-- One segment's label is below another's.
pub record LabelsRise (one other : SegmentOf) : Type 0 where
  pub below : Below one.owner.label other.owner.label

-- What the law of packets asks of the opening and of the present text: records match one by one, the opening has one page in each
-- segment with rows, and a page of a record that isn't fresh, nor its cue, is printed as it was.
pub record Unchanged (round : ℕ) (was now : LaidOf) : Type 0 where
  pub records : List Both
  pub were : was.segments ≡ map was_of records
  pub are : now.segments ≡ map now_of records
  pub each : (both : Both) → IsIn both records → SameRecord round both
  pub labels : InOrder LabelsRise now.segments
  pub opened : (segment : SegmentOf) → IsIn segment was.segments → is_empty segment ≡ false → segment_pages segment was.pages ≡ segment.start ∷ []
  pub paged : (segment : SegmentOf) → IsIn segment now.segments → is_empty segment ≡ false → Starts segment now.pages
  pub omitted : PrintsOmitted was now
  pub page : (both : Both) → IsIn both records → is_empty both.now ≡ false → is_fresh round both.now ≡ false → has_fresh_cue round now both.now.start ≡ false
      → segment_pages both.now now.pages ≡ both.now.start ∷ [] → was.print (only_sheet both.was) ≡ now.print (only_sheet both.now)
