-- The lines of headings.
use Rattle.std.specs.Prelude.{ℕ, List, map, filter}
use Rattle.spec_text.specs.Lines.{LineState}
use Rattle.spec_script.specs.Stanzas.{PlacedBlock}
use Rattle.spec_state.specs.Headings.{heading_of, is_heading_block}

-- The id of the line that a block begins with.
abbrev pub heading_line : List LineState → PlacedBlock → ℕ
heading_line lines placed = (heading_of lines placed).id

-- The ids of the lines of the headings among blocks.
abbrev pub heading_lines : List LineState → List PlacedBlock → List ℕ
heading_lines lines blocks = map (heading_line lines) (filter is_heading_block blocks)
