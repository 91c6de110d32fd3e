-- The sheets of a state by relations: its blocks are those of its text, and title sheets are full (docs/RULES.md, "Sheets").
use Rattle.std.specs.Prelude.{◌≡◌, ℕ, ◌<◌, ◌≤◌, List, [], ◌∷◌, ◌++◌, length, map, filter, take, Option, None, option_map}
use Rattle.std.specs.List.{flat_map}
use Rattle.spec_text.specs.Lines.{line_texts}
use Rattle.spec_script.specs.Stanzas.{PlacedBlock}
use Rattle.spec_script.specs.TextBlocks.{AreTextBlocks}
use Rattle.spec_pages.specs.Pages.{rows_on}
use Rattle.spec_labels.specs.Labels.{LabelOf}
use Rattle.spec_labels.specs.Scenes.{HeadingOf, SceneRecordOf, locked_labels}
use Rattle.spec_sheets.specs.Layout.{Layout, layout_in}
use Rattle.spec_sheets.specs.Speakers.{spoken_elements}
use Rattle.spec_sheets.specs.Shown.{Shown, shown_rows}
use Rattle.spec_sheets.specs.PageRows.{page_height}
use Rattle.spec_sheets.specs.Sheets.{Sheet}
use Rattle.spec_state.specs.State.{State}
use Rattle.spec_state.specs.Headings.{is_heading_block, heading_of}
use Rattle.spec_state.specs.StateSheets.{title_sheet, sheets_in, shown_sheet}

-- The layout of a state whose text has these blocks.
abbrev pub layout_by : State → List PlacedBlock → Layout
layout_by state blocks = layout_in state.lines (spoken_elements state.speakers state.lines None blocks)

-- Its headings, and their labels where scenes are locked.
abbrev pub headings_by : State → List PlacedBlock → List HeadingOf
headings_by state blocks = map (heading_of state.lines) (filter is_heading_block blocks)

abbrev pub labels_by : State → List PlacedBlock → Option (List LabelOf)
labels_by state blocks = option_map (λ (records : List SceneRecordOf). locked_labels records (headings_by state blocks)) state.scenes

-- The rows of its body, and those of its title page.
abbrev pub rows_by : State → List PlacedBlock → List Shown
rows_by state blocks = shown_rows state.lines (labels_by state blocks) (layout_by state blocks).body

abbrev pub titles_by : State → List PlacedBlock → List Shown
titles_by state blocks = shown_rows state.lines None (layout_by state blocks).titles

-- The sheets of its body.
abbrev pub body_by : State → List PlacedBlock → List Sheet
body_by state blocks =
    map (shown_sheet (rows_by state blocks)) (sheets_in (rows_on state.paper) state.lines (rows_by state blocks) (layout_by state blocks).breaks state.pages)

-- ---- title sheets

-- These rows are a title sheet: there are some, and they aren't higher than the paper.
pub record FitSheet (limit : ℕ) (rows : List Shown) : Type 0 where
  pub some : 0 < length rows
  pub low : page_height rows ≤ limit

-- The rows of each title sheet fit it, and with the next row they would not.
abbrev pub AreFull : ℕ → List (List Shown) → Type 0
AreFull limit [] = Unit {0}
AreFull limit (rows ∷ []) = FitSheet limit rows
AreFull limit (rows ∷ next ∷ later) = FitSheet limit rows × (limit < page_height (rows ++ take 1 next)) × AreFull limit (next ∷ later)

-- A title page's rows are cut into title sheets: these have all of them, in order, and each is as full as its height allows.
pub record AreTitleSheets (limit : ℕ) (titles : List Shown) (sheets : List (List Shown)) : Type 0 where
  pub all : flat_map (λ (rows : List Shown). rows) sheets ≡ titles
  pub full : AreFull limit sheets

-- ---- all sheets

-- The sheets of a state: those of its title page, and those of its body.
pub record AreSheetsOf (state : State) (sheets : List Sheet) : Type 0 where
  pub blocks : List PlacedBlock
  pub read : AreTextBlocks (line_texts state.lines) blocks
  pub titles : List (List Shown)
  pub cut : AreTitleSheets (rows_on state.paper) (titles_by state blocks) titles
  pub made : sheets ≡ map title_sheet titles ++ body_by state blocks
