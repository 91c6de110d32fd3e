-- The revision packet of a state (docs/RULES.md, "Packets").
use Rattle.std.specs.Prelude.{◌≡◌, ℕ, ◌+◌, Bool, true, if◌then◌else◌, List, [], ◌∷◌, ◌++◌, map, slice_index_or, None}
use Rattle.spec_labels.specs.PageRecords.{SheetOf}
use Rattle.spec_sheets.specs.Sheets.{Sheet, sheet_bytes}
use Rattle.spec_packet.specs.SheetLists.{SheetListOf, list_bytes}
use Rattle.spec_packet.specs.BytesCollated.{collated_bytes, collating}
use Rattle.spec_packet.specs.Collations.{is_handed}
use Rattle.spec_state.specs.Printing.{printed_state}
use Rattle.spec_state.specs.SameRows.{bare_of}
use Rattle.spec_state.specs.State.{State}
use Rattle.spec_state.specs.StateSheets.{rows_in, titles_in, title_starts, title_sheets, shown_sheet}
use Rattle.spec_locked_pages.specs.Segments.{segments_in, pages_of}
use Rattle.spec_packet.specs.Packets.{LaidOf, laid_choices}
use Rattle.spec_packet.specs.PrintedTexts.{printed_text, printed_packet}

-- A state with page records as its sheets with labels see it.
abbrev pub laid_of : State → LaidOf
laid_of state = record {
  segments = segments_in state;
  pages = pages_of state;
  rows = map bare_of (rows_in state);
  print = λ (sheet : SheetOf). sheet_bytes (shown_sheet (rows_in state) sheet);
}

-- Its title sheets.
abbrev pub title_bytes : State → List (List ℕ)
title_bytes state = map sheet_bytes (title_sheets (titles_in state) (title_starts state))

-- All its sheets, and those of its packet.
abbrev pub sheets_of : State → SheetListOf
sheets_of state = printed_text (title_bytes state) (laid_of state)

abbrev pub packet_of_state : State → SheetListOf
packet_of_state state = printed_packet state.round (title_bytes state) (laid_of state)

-- The packet, printed.
abbrev pub packet_bytes : State → List ℕ
packet_bytes state = list_bytes (packet_of_state state)

-- Which of its sheets are handed out: all title sheets, and those with labels that the packet has.
abbrev pub title_flag : Sheet → Bool
title_flag sheet = true

abbrev pub handed_of : State → List Bool
handed_of state = map title_flag (title_sheets (titles_in state) (title_starts state)) ++ map is_handed (laid_choices state.round (laid_of state))

-- The places of the sheets that are handed out, where so many stand before these.
abbrev pub places_from : ℕ → List Bool → List ℕ
places_from place [] = []
places_from place (handed ∷ later) = if handed then place ∷ places_from (place + 1) later else places_from (place + 1) later

abbrev pub packet_places : State → List ℕ
packet_places state = places_from 0 (handed_of state)

-- The sheets at these places.
abbrev pub no_sheet : Sheet
no_sheet = record { label = None; round = 0; rows = [] }

abbrev pub sheets_at : List Sheet → List ℕ → List Sheet
sheets_at sheets places = map (λ (place : ℕ). slice_index_or sheets place no_sheet) places

-- The sheets that were printed of one state, collated with the packet of a later one, are the sheets of the later one.
pub record BringsUp (opened now : State) : Type 0 where
  pub collates : collating (printed_state opened) (packet_bytes now) ≡ collated_bytes (printed_state now)
