-- The entry of an edit, and the states that it leads to (docs/RULES.md, "The desk").
use Rattle.std.specs.Prelude.{◌≡◌}
use Rattle.spec_text.specs.Lines.{TextState, line_texts}
use Rattle.spec_text.specs.Ranges.{RangeOf}
use Rattle.spec_state.specs.State.{State}
use Rattle.spec_locked_pages.specs.Segments.{pages_of}
use Rattle.sp_reflow.specs.Starts.{Taken}
use Rattle.sp_reflow.specs.Updates.{CanPutBack, with_taken}
use Rattle.sp_exchange.specs.Restoring.{AreDisplaced, text_stanzas}
use Rattle.sp_layout.specs.Changes.{CanChange, ChangeOf, with_change}
use Rattle.sp_layout.specs.Edited.{KeepsToWindow}
use Rattle.sp_layout.specs.Kept.{KeptOf, laid_of, places_back}
use Rattle.sp_sheets.specs.Firsts.{laid_in}
use Rattle.sp_text_entry.specs.TextEntries.{TextEntryState, CanTurnText, IsSameTextEntry, done_lines, turned_lines, turned_text}

-- What an edit displaced of the text and of the page records, of the layout, and first rows of pages.
pub record EntryState : Type 0 where
  pub text : TextEntryState
  pub layout : ChangeOf
  pub pages : Taken

-- The state that turning an entry leads to.
abbrev pub turned_state : State → EntryState → State
turned_state state entry = turned_text state entry.text

-- The range of the edit or the turn that left an entry, and the range that turning it exchanges.
abbrev pub done_range : EntryState → RangeOf
done_range entry = done_lines entry.text

abbrev pub turned_range : EntryState → RangeOf
turned_range entry = turned_lines entry.text

-- The change can be made of the layout of one state, which is then that of the other.
pub record LayoutLeads (state other : State) (change : ChangeOf) : Type 0 where
  pub can : CanChange (laid_in state) change
  pub are : with_change (laid_in state) change ≡ laid_in other

-- The first rows of pages of one state can be put back, and then they are those of the other.
pub record PagesLead (state other : State) (pages : Taken) : Type 0 where
  pub can : CanPutBack (pages_of state) pages
  pub are : with_taken (pages_of state) pages ≡ pages_of other

pub record CanTurn (state : State) (entry : EntryState) : Type 0 where
  pub text : CanTurnText state entry.text
  pub layout : LayoutLeads state (turned_state state entry) entry.layout
  pub pages : PagesLead state (turned_state state entry) entry.pages

-- An entry leads from one state to another: it can be turned, and that makes the other state.
pub record Leads (state other : State) (entry : EntryState) : Type 0 where
  pub can : CanTurn state entry
  pub there : turned_state state entry ≡ other

-- Of elements that stand at its part an entry tells of at most two more than the stanzas of its window have blocks in a text, and of the
-- part it keeps at most two more than the stanzas had blocks that it displaced.
abbrev pub HoldsFew : TextState → EntryState → Type 0
HoldsFew text entry = KeepsToWindow (text_stanzas text) entry.text.stanzas entry.layout

-- Where the part of a change was put in, that of the change that leads back is to be put in.
abbrev pub StandsBack : ChangeOf → ChangeOf → Type 0
StandsBack change other = other.part.places ≡ places_back change.part.places (laid_of change.part.kept)

-- The stanzas that an entry displaced are those of the window of an edit of this range, by which one text became another.
abbrev pub HoldsWindow : TextState → TextState → RangeOf → EntryState → Type 0
HoldsWindow before after range entry = AreDisplaced (line_texts before.lines) (line_texts after.lines) range entry.text.stanzas

-- The entry of the same edit. Its vectors may have other room, and it need not have the same part of the layout: it is told that it
-- leads to the same state.
abbrev pub IsSameEntry : EntryState → EntryState → Type 0
IsSameEntry one other = IsSameTextEntry one.text other.text

-- Two changes of a layout lead to the same one.
abbrev pub LeadToSame : KeptOf → ChangeOf → ChangeOf → Type 0
LeadToSame layout one other = with_change (laid_of layout) one ≡ with_change (laid_of layout) other
