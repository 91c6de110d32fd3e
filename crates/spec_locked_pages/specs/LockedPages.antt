-- The law of locked pages for one edit (docs/RULES.md, "Windows" and "Edits and records").
use Rattle.std.specs.Prelude.{◌≡◌, ℕ, ◌+◌, ◌-◌, Bool, List}
use Rattle.std.specs.List.{flat_map}
use Rattle.spec_text.specs.Lines.{line_texts}
use Rattle.spec_text.specs.Ranges.{RangeOf}
use Rattle.spec_script.specs.LongestRuns.{Group, members}
use Rattle.spec_script.specs.Stanzas.{PlacedBlock}
use Rattle.spec_sheets.specs.Speakers.{Spoken, text_elements}
use Rattle.spec_state.specs.State.{State}
use Rattle.spec_edit.specs.Windows.{IsWindow}
use Rattle.spec_edit.specs.Touched.{EditBlocks, is_touched_old, is_touched_new, touches_element}
use Rattle.spec_edit.specs.Standing.{NoneStands}
use Rattle.spec_locked_pages.specs.Segments.{record_at, segment_at, bytes_at, IsLockedPage}

-- The elements of a state's text, and its blocks.
abbrev pub elements_in : State → List (Group Spoken)
elements_in state = text_elements state.speakers state.lines

abbrev pub spoken_in : State → List Spoken
spoken_in state = flat_map members (elements_in state)

-- The window of an edit of this range that made one state into another: from line a to before line b of the new text.
abbrev pub IsWindowOf : RangeOf → State → State → ℕ → ℕ → Type 0
IsWindowOf range old new a b = IsWindow (line_texts old.lines) (line_texts new.lines) range.first range.old range.new a b

-- Its blocks, with the window in both texts.
abbrev pub edit_blocks : RangeOf → State → State → ℕ → ℕ → EditBlocks
edit_blocks range old new a b = record { range = range; old = spoken_in old; new = spoken_in new; from = a; old_to = b + range.old - range.new; new_to = b }

-- None of the elements of a state with a touched block stands in a record's segment.
abbrev pub NoneStandsAt : State → (PlacedBlock → Bool) → ℕ → Type 0
NoneStandsAt state touched i =
    NoneStands (touches_element touched) state.lines (segment_at state i).start (segment_at state i).end 0 (elements_in state)

-- No element that the edit touches stands in the record's segment, before it or after it.
pub record LeavesAlone (range : RangeOf) (old new : State) (i : ℕ) : Type 0 where
  pub before : (a b : ℕ) → IsWindowOf range old new a b → NoneStandsAt old (is_touched_old (edit_blocks range old new a b)) i
  pub after : (a b : ℕ) → IsWindowOf range old new a b → NoneStandsAt new (is_touched_new (edit_blocks range old new a b)) i

-- From one state to another the record's sheets keep their bytes, and it keeps its label and stays locked.
pub record StaysLocked (old new : State) (i : ℕ) : Type 0 where
  pub sheets : bytes_at new i ≡ bytes_at old i
  pub label : (record_at new i).label ≡ (record_at old i).label
  pub locked : IsLockedPage new i

-- A locked page that an edit of this range leaves alone stays locked, with its bytes.
pub record KeepsLockedPage (range : RangeOf) (old new : State) (i : ℕ) : Type 0 where
  pub keeps : IsLockedPage old i → LeavesAlone range old new i → StaysLocked old new i
