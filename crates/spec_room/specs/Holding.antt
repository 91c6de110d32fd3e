-- What each room keeps.
use Rattle.std.specs.Prelude.{◌≡◌, ℕ, ◌+◌, ◌<◌, ◌≤◌, ◌^◌, min, List, [], ◌∷◌, length}
use Rattle.spec_text.specs.Ranges.{RangeOf}
use Rattle.spec_machine.specs.Machine.{EntryOf}
use Rattle.spec_room.specs.Changes.{Text, Changes, lines_then}
use Rattle.spec_room.specs.Rooms.{RoomState, kept_changes}

-- The lines after an entry: those of the entry behind it, or the present ones.
abbrev pub lines_after : List EntryOf → Text → Text
lines_after [] now = now
lines_after (entry ∷ _) now = entry.state.lines

-- The lines of each done entry, changed at its range, are the lines after it.
abbrev pub Linked : List EntryOf → Text → Type 0
Linked [] now = Unit {0}
Linked (entry ∷ entries) now = Changes entry.range entry.state.lines (lines_after entries now) × Linked entries now

-- The lines after each undone entry, changed at its range, are its lines.
abbrev pub LinkedBack : List EntryOf → Text → Type 0
LinkedBack [] now = Unit {0}
LinkedBack (entry ∷ entries) now = Changes entry.range (lines_after entries now) entry.state.lines × LinkedBack entries now

-- Each change lies in the text that it made, and the number of lines of each text before it fits in a u64.
abbrev pub Fits : ℕ → List RangeOf → Type 0
Fits lines [] = Unit {0}
Fits lines (change ∷ changes) = (change.first + change.new ≤ lines_then lines changes) × (lines_then lines (change ∷ changes) < 2 ^ 64) × Fits lines changes

pub record Holds (room : RoomState) : Type 0 where
  pub kept : length room.changes ≡ min room.version kept_changes
  pub done : length room.done ≡ length room.desk.done
  pub undone : length room.undone ≡ length room.desk.undone
  pub fits : Fits (length room.desk.state.lines) room.changes
  pub linked : Linked room.desk.done room.desk.state.lines
  pub linked_back : LinkedBack room.desk.undone room.desk.state.lines
