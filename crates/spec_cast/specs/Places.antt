-- Where the elements of a state begin, and on which sheets (docs/RULES.md, "Elements", "Outline" and "Cast sides").
use Rattle.std.specs.Prelude.{◌≡◌, ℕ, Bool, true, false, ◌&&◌, ◌==◌, if◌then◌else◌, List, [], ◌∷◌, ◌++◌, length, find, slice_get, Option, Some, option_map}
use Rattle.std.specs.List.{flat_map}
use Rattle.spec_text.specs.Lines.{LineState}
use Rattle.spec_script.specs.LongestRuns.{Group}
use Rattle.spec_script.specs.Elements.{is_speech_block}
use Rattle.spec_pages.specs.declared.RowKind.{RowKind}
use Rattle.spec_pages.specs.declared.RowKind.TheVariants as rows
use Rattle.spec_pages.specs.declared.Shape.{Shape}
use Rattle.spec_labels.specs.PageRecords.{SheetOf}
use Rattle.spec_sheets.specs.Layout.{layout_in, placed_in}
use Rattle.spec_sheets.specs.Speakers.{Spoken, text_elements}
use Rattle.spec_state.specs.State.{State}
use Rattle.spec_state.specs.Headings.{is_heading_block}
use Rattle.spec_state.specs.StateSheets.{body_sheets}
use Rattle.spec_machine.specs.Outline.{EntryOf, section, synopsis, scene, omitted}
use Rattle.spec_machine.specs.Outlines.{has_row, written_on}

-- ---- elements and their sheets

-- The elements of a state, in order.
abbrev pub state_elements : State → List (Group Spoken)
state_elements state = text_elements state.speakers state.lines

-- An element is a heading; one is a speech, or two of them side by side.
abbrev pub has_heading : Group Spoken → Bool
has_heading element = is_heading_block element.first.placed

abbrev pub has_speech : Group Spoken → Bool
has_speech element = is_speech_block element.first.placed

-- How many rows of the body are those of these elements: an element begins at the row behind those of all before it.
abbrev pub row_count : List LineState → List (Group Spoken) → ℕ
row_count lines elements = length (placed_in (layout_in lines elements).body)

-- The sheet with the first row of an element that stands behind these.
abbrev pub sheet_behind : State → List (Group Spoken) → Option SheetOf
sheet_behind state before = find (has_row (row_count state.lines before)) (body_sheets state)

-- A row stands on one of some sheets and on no other, and that one is found.
pub record StandsOnOne (sheets : List SheetOf) (row : ℕ) : Type 0 where
  pub place : ℕ
  pub sheet : SheetOf
  pub at : slice_get sheets place ≡ Some sheet
  pub has : has_row row sheet ≡ true
  pub only : (i : ℕ) (other : SheetOf) → slice_get sheets i ≡ Some other → has_row row other ≡ true → i ≡ place
  pub found : find (has_row row) sheets ≡ Some sheet

-- What is told of each entry of a list, by those before it, one behind another.
abbrev pub each_behind : {X Y : Type 0} → (List X → X → List Y) → List X → List X → List Y
each_behind told before [] = []
each_behind told before (x ∷ later) = told before x ++ each_behind told (before ++ x ∷ []) later

-- ---- the sheets of headings

-- The label of the sheet on which a heading begins that stands behind these elements.
abbrev pub heading_sheet : State → List (Group Spoken) → Group Spoken → List (Option (List ℕ))
heading_sheet state before element = if has_heading element then option_map written_on (sheet_behind state before) ∷ [] else []

-- Those of all headings of a state, in order.
abbrev pub heading_sheets : State → List (Option (List ℕ))
heading_sheets state = each_behind (heading_sheet state) [] (state_elements state)

-- The labels that entries of an outline tell of sheets, in order.
abbrev pub entry_sheet : EntryOf → List (List ℕ)
entry_sheet (section depth text) = []
entry_sheet (synopsis text) = []
entry_sheet (scene number sheet text) = sheet ∷ []
entry_sheet (omitted label) = []

abbrev pub told_sheets : List EntryOf → List (List ℕ)
told_sheets entries = flat_map entry_sheet entries

-- ---- the rows that speeches begin with

-- A speech begins with its cue, and a pair of speeches with the first row of both.
abbrev pub opens_speech : RowKind → Bool
opens_speech rows.Cue = true
opens_speech rows.Dual = true
opens_speech _ = false

abbrev pub begins_speech : Shape → Bool
begins_speech shape = opens_speech shape.kind && (shape.index == 0)
