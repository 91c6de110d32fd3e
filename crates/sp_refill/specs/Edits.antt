-- What is known of an edit when the rows that it exchanges are looked for (docs/RULES.md, "Windows").
use Rattle.std.specs.Prelude.{◌≡◌, ℕ, List, length, take}
use Rattle.spec_text.specs.Lines.{LineState, line_texts}
use Rattle.spec_text.specs.Edits.{Replacement}
use Rattle.spec_script.specs.BlockValues.{StanzaOf}
use Rattle.spec_script.specs.Stanzas.{stanzas_of}
use Rattle.spec_pages.specs.Rows.{ElementOf}
use Rattle.spec_state.specs.State.{State}
use Rattle.spec_state.specs.Keeping.{IsWhole}
use Rattle.spec_state.specs.StateSheets.{layout_in}
use Rattle.spec_state.specs.Changes.{CanEdit, edited_state}
use Rattle.spec_edit.specs.Windows.{stanza_lines_in}
use Rattle.spec_edit.specs.Displaced.{DisplacesWindow}
use Rattle.sp_reread.specs.Cache.{SwappedState}
use Rattle.sp_layout.specs.Bodies.{row_count}
use Rattle.sp_refill.specs.Neighbours.{relays_before}
use Rattle.sp_refill.specs.Counts.{RowsBefore}

-- The edit of a state left these lines and stanzas, and displaced these stanzas.
pub record IsOfEdit (state : State) (it : Replacement) (lines : List LineState) (stanzas : List StanzaOf) (swapped : SwappedState) : Type 0 where
  pub whole : IsWhole state
  pub can : CanEdit state it
  pub lines_are : lines ≡ (edited_state state it).lines
  pub stanzas_are : stanzas ≡ stanzas_of (line_texts lines)
  pub window : DisplacesWindow (line_texts state.lines) (line_texts lines) it.first it.old (length it.texts) swapped.at swapped.stands swapped.stanzas

-- Some edit of some state did, whose body has these elements.
pub record IsOfSomeEdit (lines : List LineState) (stanzas : List StanzaOf) (swapped : SwappedState) (olds : List ElementOf) : Type 0 where
  pub state : State
  pub it : Replacement
  pub is : IsOfEdit state it lines stanzas swapped
  pub olds_are : olds ≡ (layout_in state).body

-- The first row that an edit exchanges, and how many rows the body before it has.
pub record RowsAheadOf : Type 0 where
  pub first : ℕ
  pub all : ℕ

-- They are those of a body of these elements.
pub record AreAhead (stanzas : List StanzaOf) (swapped : SwappedState) (olds : List ElementOf) (ahead : RowsAheadOf) : Type 0 where
  pub first : RowsBefore olds (stanza_lines_in (take swapped.at stanzas)) (relays_before stanzas swapped.at swapped.stands swapped.stanzas) ahead.first
  pub all : ahead.all ≡ row_count olds

-- They are those of the body before some edit of some state, and the body after it has these elements.
pub record IsBehindSomeEdit (lines : List LineState) (stanzas : List StanzaOf) (swapped : SwappedState) (rows : RowsAheadOf) (news : List ElementOf) : Type 0 where
  pub state : State
  pub it : Replacement
  pub is : IsOfEdit state it lines stanzas swapped
  pub ahead : AreAhead stanzas swapped (layout_in state).body rows
  pub news_are : news ≡ (layout_in (edited_state state it)).body
