-- What stands in a text, element by element: the rows of its body and its page breaks.
use Rattle.std.specs.Prelude.{ℕ, Bool, true, false, if◌then◌else◌, List, [], ◌∷◌, ◌++◌, map, Option}
use Rattle.spec_text.specs.Lines.{LineState, line_texts}
use Rattle.spec_script.specs.LongestRuns.{Group}
use Rattle.spec_script.specs.Stanzas.{PlacedBlock}
use Rattle.spec_script.specs.Elements.{line_of_block}
use Rattle.spec_pages.specs.Rows.{Row, is_title, placed_rows}
use Rattle.spec_labels.specs.Labels.{LabelOf}
use Rattle.spec_sheets.specs.Cells.{ShownCell}
use Rattle.spec_sheets.specs.Speakers.{Spoken}
use Rattle.spec_sheets.specs.Layout.{is_page_break, laid_out}
use Rattle.spec_sheets.specs.Shown.{element_cue, shown_of}
use Rattle.spec_edit.specs.Items.{Item, page_break, row as shown_row}

-- A text's lines, and what else its rows show: which speeches are continued, and what labels stand beside headings, both by the
-- line that a block begins with.
pub record Script : Type 0 where
  pub lines : List LineState
  pub continued : ℕ → Bool
  pub label : ℕ → Option LabelOf

-- A block of the text with whether it is continued, and an element.
abbrev pub spoken_by : Script → PlacedBlock → Spoken
spoken_by script placed = record { placed = placed; continued = script.continued (line_of_block placed) }

abbrev pub spoken_group : Script → Group PlacedBlock → Group Spoken
spoken_group script element = record { first = spoken_by script element.first; more = map (spoken_by script) element.more }

-- What is put beside an element that is a heading.
abbrev pub element_label : Script → Group PlacedBlock → Option LabelOf
element_label script element = script.label (line_of_block element.first)

-- The rows of an element in the body, with places in the text; a title page has none there.
abbrev pub text_rows : Script → Group PlacedBlock → List Row
text_rows script element = if is_title element.first.block.kind then [] else placed_rows (laid_out script.lines (spoken_group script element))

abbrev pub row_item : List LineState → List ShownCell → Option LabelOf → Row → Item
row_item lines cue label it = record { spot = record { place = it.line; row = it.row }; sight = shown_row (shown_of lines cue label it) }

abbrev pub row_items : Script → Group PlacedBlock → List Item
row_items script element =
    map (row_item script.lines (element_cue (line_texts script.lines) (text_rows script element)) (element_label script element)) (text_rows script element)

-- A page break stands at its line.
abbrev pub break_items : PlacedBlock → List Item
break_items placed = if is_page_break placed.block.kind then record { spot = record { place = line_of_block placed; row = 0 }; sight = page_break } ∷ [] else []

-- What an element has in the body.
abbrev pub element_items : Script → Group PlacedBlock → List Item
element_items script element = break_items element.first ++ row_items script element

-- The element may stand in a segment.
abbrev pub in_text : Group PlacedBlock → Bool
in_text element = if is_title element.first.block.kind then false else true
