-- The rows that an edit exchanges, and the page starts that it fills again (docs/RULES.md, "Windows").
use Rattle.std.specs.Prelude.{ℕ, ◌+◌, ◌-◌, min, Bool, false, ◌&&◌, nat_lt, if◌then◌else◌, List, [], ◌++◌, length, map}
use Rattle.std.specs.List.{flat_map, take_while}
use Rattle.spec_text.specs.Lines.{LineState, line_texts}
use Rattle.spec_text.specs.Ranges.{RangeOf}
use Rattle.spec_script.specs.LongestRuns.{Group}
use Rattle.spec_script.specs.Stanzas.{PlacedBlock}
use Rattle.spec_script.specs.Elements.{line_of_block, elements_in}
use Rattle.spec_pages.specs.Pages.{rows_on}
use Rattle.spec_pages.specs.Rows.{Row, is_title, placed_rows}
use Rattle.spec_sheets.specs.Speakers.{Spoken}
use Rattle.spec_sheets.specs.Layout.{laid_out}
use Rattle.spec_state.specs.State.{State}
use Rattle.spec_state.specs.StateSheets.{layout_in, rows_in, locked_starts}
use Rattle.spec_edit.specs.WindowBlocks.{WindowBlocks, old_blocks, is_nil, front_kept, old_relaid, new_relaid, window_blocks}
use Rattle.spec_edit.specs.PageWindows.{Exchange, page_window}
use Rattle.spec_locked_pages.specs.Segments.{pages_of}

-- A block whose speaker doesn't go on: how many rows an element has doesn't turn on that.
abbrev pub silent : PlacedBlock → Spoken
silent placed = record { placed = placed; continued = false }

abbrev pub silent_group : Group PlacedBlock → Group Spoken
silent_group element = record { first = silent element.first; more = map silent element.more }

-- The rows of an element in the body, with places in the text; a title page has none there.
abbrev pub body_rows : List LineState → Group PlacedBlock → List Row
body_rows lines element = if is_title element.first.block.kind then [] else placed_rows (laid_out lines (silent_group element))

-- How many rows elements have in the body.
abbrev pub count_rows : List LineState → List (Group PlacedBlock) → ℕ
count_rows lines elements = length (flat_map (body_rows lines) elements)

-- The blocks round the window of an edit, which is from line a to before line b of the new text.
abbrev pub blocks_round : RangeOf → State → State → ℕ → ℕ → WindowBlocks
blocks_round range old new a b = window_blocks (line_texts old.lines) (line_texts new.lines) a b (b + range.old - range.new)

-- The element begins before a line.
abbrev pub begins_before : ℕ → Group PlacedBlock → Bool
begins_before line element = nat_lt (line_of_block element.first) line

-- No block stands in the window, before the edit or after it: then no element is relaid.
abbrev pub relays_none : WindowBlocks → Bool
relays_none w = is_nil w.gone && is_nil w.come

-- The elements before the relaid ones. Where none is relaid, these stand behind all that begin before the window.
abbrev pub elements_before : ℕ → WindowBlocks → List (Group PlacedBlock)
elements_before a w = if relays_none w then take_while (begins_before a) (elements_in (old_blocks w)) else elements_in (front_kept w)

-- So many rows, and one more where one stands behind them.
abbrev pub with_next : ℕ → ℕ → ℕ → ℕ
with_next all before rows = rows + min 1 (all - (before + rows))

-- The rows that an edit exchanges: those of the relaid elements, and the row behind them.
abbrev pub edit_exchange : RangeOf → State → State → ℕ → ℕ → Exchange
edit_exchange range old new a b =
    let w = blocks_round range old new a b in
    let before = count_rows old.lines (elements_before a w) in
    record {
      first = before;
      old = with_next (length (rows_in old)) before (count_rows old.lines (elements_in (old_relaid w)));
      new = with_next (length (rows_in new)) before (count_rows new.lines (elements_in (new_relaid w)));
    }

-- The stops of a state: its page breaks, and the first rows of its page records.
abbrev pub stops_in : State → List ℕ
stops_in state = (layout_in state).breaks ++ locked_starts state.lines (rows_in state) state.pages

-- The page window of an edit: the pages of the state after it that are filled.
abbrev pub filled_pages : RangeOf → State → State → ℕ → ℕ → List ℕ
filled_pages range old new a b = page_window (rows_on new.paper) (edit_exchange range old new a b) (pages_of old) (pages_of new)
