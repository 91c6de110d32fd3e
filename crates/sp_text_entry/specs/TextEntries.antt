-- What an edit displaced, and the states that it leads to (docs/RULES.md, "The desk").
use Rattle.std.specs.Prelude.{◌≡◌, ◌≢◌, ◌<◌, List, length, map, All, AllPairs, Option, Some, None, option_map, IfSome}
use Rattle.spec_text.specs.Lines.{TextState}
use Rattle.spec_text.specs.Edits.{Displacement, Refusal, refusal_of, replacement_of, restored}
use Rattle.spec_text.specs.Ranges.{RangeOf}
use Rattle.spec_labels.specs.declared.Moved.{Moved}
use Rattle.spec_labels.specs.PageRecords.{PageRecordOf, put_back_records, taken_back}
use Rattle.spec_state.specs.State.{State, text_of}
use Rattle.spec_state.specs.Changes.{edited_state}
use Rattle.sp_text.specs.declared.edit.Edit.{Edit}
use Rattle.sp_text.specs.Changing.{edit_of}
use Rattle.sp_text.specs.DisplacedLines.{DisplacedState, displaced_of}
use Rattle.sp_reread.specs.Cache.{SwappedState}
use Rattle.sp_exchange.specs.Restoring.{CanRestoreText, HasRoomFor, IsSameText, IsTurned, TextOf}

-- What an edit displaced, or what was displaced when that was put back: lines, stanzas, and the anchors and rounds of page records in two
-- lists, put back one after the other.
pub record TextEntryState : Type 0 where
  pub lines : DisplacedState
  pub stanzas : SwappedState
  pub first : List Moved
  pub second : List Moved

abbrev pub displaced : TextEntryState → Displacement
displaced entry = displaced_of entry.lines

abbrev pub turned_records : TextEntryState → List PageRecordOf → List PageRecordOf
turned_records entry records = put_back_records entry.second (put_back_records entry.first records)

-- A state with other lines and page records.
abbrev pub with_text : State → TextState → Option (List PageRecordOf) → State
with_text state text pages = record state { lines = text.lines; next = text.next; pages = pages }

-- The state that turning an entry leads to.
abbrev pub turned_text : State → TextEntryState → State
turned_text state entry = with_text state (restored (text_of state) (displaced entry)) (option_map (turned_records entry) state.pages)

-- The range of the edit or the turn that left an entry, and the range that turning it exchanges.
abbrev pub done_lines : TextEntryState → RangeOf
done_lines entry = record { first = entry.lines.first; old = length entry.lines.lines; new = entry.lines.stands }

abbrev pub turned_lines : TextEntryState → RangeOf
turned_lines entry = record { first = entry.lines.first; old = entry.lines.stands; new = length entry.lines.lines }

-- Anchors and rounds are kept for records that are there, one for each at most.
pub record FitRecords (moved : List Moved) (records : List PageRecordOf) : Type 0 where
  pub within : All (λ (it : Moved). it.index < length records) moved
  pub distinct : AllPairs (λ (one other : Moved). one.index ≢ other.index) moved

-- The lines and their stanzas can be put back, and so can the two lists of anchors and rounds, one after the other.
pub record CanTurnText (state : State) (entry : TextEntryState) : Type 0 where
  pub text : CanRestoreText (text_of state) entry.lines entry.stanzas
  pub first_fits : IfSome state.pages (FitRecords entry.first)
  pub second_fits : IfSome state.pages (λ records. FitRecords entry.second (put_back_records entry.first records))

-- An entry leads from one state to another: it can be turned, and that makes the other state.
pub record LeadsText (state other : State) (entry : TextEntryState) : Type 0 where
  pub can : CanTurnText state entry
  pub there : turned_text state entry ≡ other

-- What page records had for which something was kept. Where pages aren't locked nothing is put back.
abbrev pub had_by : Option (List PageRecordOf) → List Moved → List Moved
had_by None moved = moved
had_by (Some records) moved = map (taken_back records) moved

-- The entry that turning another leaves: what stood in the place of what it put back, to be put back in reverse order.
pub record IsTextTurned (state : State) (entry other : TextEntryState) : Type 0 where
  pub text : IsTurned (text_of state) entry.lines entry.stanzas other.lines other.stanzas
  pub first : other.first ≡ had_by (option_map (put_back_records entry.first) state.pages) entry.second
  pub second : other.second ≡ had_by state.pages entry.first

-- A text and an entry have room for what its turning puts into them.
abbrev pub HasTextRoom : TextOf → TextEntryState → Type 0
HasTextRoom text entry = HasRoomFor text entry.lines entry.stanzas

-- The same entry; its vectors may have other room.
pub record IsSameTextEntry (one other : TextEntryState) : Type 0 where
  pub text : IsSameText one.lines one.stanzas other.lines other.stanzas
  pub first : one.first ≡ other.first
  pub second : one.second ≡ other.second

-- The state after an edit.
abbrev pub edited_by : State → Edit → State
edited_by state edit = edited_state state (replacement_of state.lines (edit_of edit))

-- Why it refuses an edit.
abbrev pub refusal_at : State → Edit → Option Refusal
refusal_at state edit = refusal_of (text_of state) (edit_of edit)
