-- How many pages an edit of a state fills (docs/RULES.md, "Windows").
use Rattle.std.specs.Prelude.{◌≡◌, ℕ, List, length, map}
use Rattle.spec_text.specs.Edits.{Replacement, replacement_of}
use Rattle.spec_text.specs.Ranges.{RangeOf, range_of}
use Rattle.spec_pages.specs.Pages.{rows_on}
use Rattle.spec_sheets.specs.Shown.{shape_of}
use Rattle.spec_state.specs.State.{State}
use Rattle.spec_state.specs.StateSheets.{rows_in}
use Rattle.spec_state.specs.Changes.{edited_state}
use Rattle.spec_edit.specs.PageWindows.{Exchange, page_window}
use Rattle.spec_locked_pages.specs.Segments.{pages_of}
use Rattle.spec_locked_pages.specs.LockedPages.{IsWindowOf}
use Rattle.spec_refill.specs.Exchanges.{filled_pages}
use Rattle.sp_text.specs.declared.edit.Edit.{Edit}
use Rattle.sp_text.specs.Changing.{edit_of}
use Rattle.sp_reflow.specs.Galleys.{GalleyOf}
use Rattle.sp_reflow.specs.Filling.{FilledAtMost}
use Rattle.sp_reflow.specs.Starts.{many_more}
use Rattle.sp_reflow.specs.Updates.{AreStale}
use Rattle.sp_sheets.specs.Pages.{AreStopsOf}

-- Each page of the page window was filled once, and no other.
pub record FillsWindow (old new : State) (range : RangeOf) (fills fills' : ℕ) : Type 0 where
  pub a : ℕ
  pub b : ℕ
  pub window : IsWindowOf range old new a b
  pub counted : fills' ≡ many_more fills (length (filled_pages range old new a b))

-- No more were filled than are in the page window.
pub record FillsAtMost (old new : State) (range : RangeOf) (fills fills' : ℕ) : Type 0 where
  pub a : ℕ
  pub b : ℕ
  pub window : IsWindowOf range old new a b
  pub counted : FilledAtMost fills fills' (length (filled_pages range old new a b))

-- Each page of its page window once, and no other.
abbrev pub EditFills : State → Replacement → ℕ → ℕ → Type 0
EditFills state it fills fills' = FillsWindow state (edited_state state it) (range_of it) fills fills'

-- No more than that.
abbrev pub EditFillsAtMost : State → Replacement → ℕ → ℕ → Type 0
EditFillsAtMost state it fills fills' = FillsAtMost state (edited_state state it) (range_of it) fills fills'

-- The same of an edit as it was asked for.
abbrev pub FillsEdit : State → Edit → ℕ → ℕ → Type 0
FillsEdit state edit = EditFills state (replacement_of state.lines (edit_of edit))

abbrev pub FillsEditAtMost : State → Edit → ℕ → ℕ → Type 0
FillsEditAtMost state edit = EditFillsAtMost state (replacement_of state.lines (edit_of edit))

-- The rows of a state as pages are filled of them, with these stops.
abbrev pub galley_of : State → List ℕ → GalleyOf
galley_of state stops = record { shapes = map shape_of (rows_in state); stops = stops; limit = rows_on state.paper }

-- These are the page starts from before rows of a state were exchanged.
abbrev pub AreStartsBefore : State → Exchange → List ℕ → Type 0
AreStartsBefore state rows starts = (stops : List ℕ) → AreStopsOf state stops → AreStale (galley_of state stops) rows starts

-- Each page of the page window of an exchange was filled once, and no other; and at most those.
abbrev pub RefillsWindow : State → Exchange → List ℕ → ℕ → ℕ → Type 0
RefillsWindow state rows starts fills fills' = fills' ≡ many_more fills (length (page_window (rows_on state.paper) rows starts (pages_of state)))

abbrev pub RefillsAtMost : State → Exchange → List ℕ → ℕ → ℕ → Type 0
RefillsAtMost state rows starts fills fills' = FilledAtMost fills fills' (length (page_window (rows_on state.paper) rows starts (pages_of state)))
