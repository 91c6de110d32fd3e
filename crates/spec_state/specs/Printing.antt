-- What becomes of a script that is printed (docs/RULES.md, "The program").
use Rattle.std.specs.Prelude.{ℕ, List}
use Rattle.std.specs.List.{flat_map}
use Rattle.spec_text.specs.Lines.{Reading, text_full, not_utf8, line_full, lines, reading_of}
use Rattle.spec_sheets.specs.Sheets.{sheet_bytes}
use Rattle.spec_state.specs.State.{State, opened_state}
use Rattle.spec_state.specs.StateSheets.{sheets_of_state}

-- A script is refused for a reason, or printed as these bytes.
pub data Printing : Type 0 where
  too_long : Printing
  no_utf8 : ℕ → Printing
  long_line : ℕ → Printing
  printed : List ℕ → Printing

-- All sheets of a state, in order.
abbrev pub printed_state : State → List ℕ
printed_state state = flat_map sheet_bytes (sheets_of_state state)

-- What becomes of a script by what reading it came to: its sheets are those of the state that opening it without records gives.
abbrev pub printing_of_reading : Reading → Printing
printing_of_reading text_full = too_long
printing_of_reading (not_utf8 place) = no_utf8 place
printing_of_reading (line_full place) = long_line place
printing_of_reading (lines texts) = printed (printed_state (opened_state texts))

-- What becomes of a script's bytes.
abbrev pub printing_of : List ℕ → Printing
printing_of bytes = printing_of_reading (reading_of bytes)
