-- How many pages an edit fills.
use Rattle.std.proofs.Common.{◌≡◌, ℕ, List, length, refl, ap, ap₂, subst, ◌∙◌, arith}
use Rattle.spec_text.specs.Lines.{line_texts}
use Rattle.spec_text.specs.Edits.{Replacement}
use Rattle.spec_text.specs.Ranges.{RangeOf, range_of}
use Rattle.spec_pages.specs.Pages.{rows_on}
use Rattle.spec_state.specs.State.{State}
use Rattle.spec_state.specs.Changes.{edited_state}
use Rattle.spec_edit.specs.PageWindows.{Exchange, page_window}
use Rattle.spec_edit.proofs.Resync.{window-one}
use Rattle.spec_edit.proofs.WindowExists.{window-exists}
use Rattle.spec_locked_pages.specs.LockedPages.{IsWindowOf}
use Rattle.spec_locked_pages.specs.Segments.{pages_of}
use Rattle.spec_refill.specs.Exchanges.{edit_exchange, filled_pages}
use Rattle.sp_reflow.specs.Filling.{FilledAtMost}
use Rattle.sp_reflow.specs.Starts.{many_more}
use Rattle.sp_text_entry.specs.Relaid.{IsExchangeOf}
use Rattle.sp_state.specs.Fills.{EditFills, EditFillsAtMost, FillsAtMost, FillsWindow}

-- The pages that are filled are those of the page window of the edit.
window-edited : (old new : State) (it : Replacement) (edit : Exchange) (starts : List ℕ) (a b : ℕ) → new ≡ edited_state old it → starts ≡ pages_of old → IsExchangeOf old it edit → IsWindowOf (range_of it) old (edited_state old it) a b
    → page_window (rows_on new.paper) edit starts (pages_of new) ≡ filled_pages (range_of it) old (edited_state old it) a b
window-edited old new it edit starts a b led starts_are found window =
    let after = edited_state old it in
    ap (λ (s : State). page_window (rows_on s.paper) edit starts (pages_of s)) led
    ∙ ap (λ (e : Exchange). page_window (rows_on after.paper) e starts (pages_of after)) (found.is a b window)
    ∙ ap (λ (l : List ℕ). page_window (rows_on after.paper) (edit_exchange (range_of it) old after a b) l (pages_of after)) starts_are

pub fills-edited : (old new : State) (it : Replacement) (edit : Exchange) (starts : List ℕ) (fills fills' : ℕ) → new ≡ edited_state old it → starts ≡ pages_of old → IsExchangeOf old it edit
    → fills' ≡ many_more fills (length (page_window (rows_on new.paper) edit starts (pages_of new))) → EditFills old it fills fills'
fills-edited old new it edit starts fills fills' led starts_are found counts =
    let window = window-exists (line_texts old.lines) (line_texts (edited_state old it).lines) it.first it.old (length it.texts) in
    record {
      a = window.0;
      b = window.1;
      window = window.2;
      counted = counts ∙ ap (λ (l : List ℕ). many_more fills (length l)) (window-edited old new it edit starts window.0 window.1 led starts_are found window.2);
    }

pub fills-within : (old new : State) (it : Replacement) (edit : Exchange) (starts : List ℕ) (fills fills' : ℕ) → new ≡ edited_state old it → starts ≡ pages_of old → IsExchangeOf old it edit
    → FilledAtMost fills fills' (length (page_window (rows_on new.paper) edit starts (pages_of new))) → EditFillsAtMost old it fills fills'
fills-within old new it edit starts fills fills' led starts_are found counts =
    let window = window-exists (line_texts old.lines) (line_texts (edited_state old it).lines) it.first it.old (length it.texts) in
    record {
      a = window.0;
      b = window.1;
      window = window.2;
      counted = subst (λ (l : List ℕ). FilledAtMost fills fills' (length l)) (window-edited old new it edit starts window.0 window.1 led starts_are found window.2) counts;
    }

-- An edit that finds no memory may fill no page.
pub none-filled : (old new : State) (range : RangeOf) (fills : ℕ) → FillsAtMost old new range fills fills
none-filled old new range fills =
    let window = window-exists (line_texts old.lines) (line_texts new.lines) range.first range.old range.new in
    record { a = window.0; b = window.1; window = window.2; counted = record { count = 0; within = omega arith; is = refl } }

-- An edit has one window, so what is said of a window is said of each.
pub fills-each : (old new : State) (range : RangeOf) (fills fills' a b : ℕ) → FillsWindow old new range fills fills' → IsWindowOf range old new a b → fills' ≡ many_more fills (length (filled_pages range old new a b))
fills-each old new range fills fills' a b it window =
    let one = window-one (line_texts old.lines) (line_texts new.lines) range.first range.old range.new it.a it.b a b it.window window in
    it.counted ∙ ap₂ (λ (x y : ℕ). many_more fills (length (filled_pages range old new x y))) one.0 one.1
