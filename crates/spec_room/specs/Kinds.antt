-- How a room tells the commands of a desk apart (docs/RULES.md, "The room").
use Rattle.std.specs.Prelude.{ℕ, length}
use Rattle.spec_text.specs.Edits.{EditOf, replace, splice}
use Rattle.spec_text.specs.Ranges.{RangeOf}
use Rattle.spec_wire.specs.Commands.{CommandOf, edit, undo, redo, lock_scenes, lock_pages, next_round, sheet, labels, blocks, outline, save, speakers, paper, packet}

-- An edit with its range, undo, redo, the commands that empty what can be undone and redone, and all others.
pub data Kind : Type 0 where
  edits : RangeOf → Kind
  undoes : Kind
  redoes : Kind
  forgets : Kind
  looks : Kind

-- The lines that an edit names: so many from a place on, for so many others.
abbrev pub edit_range : EditOf → RangeOf
edit_range (replace first count texts) = record { first = first; old = count; new = length texts }
edit_range (splice line from to text) = record { first = line; old = 1; new = 1 }

-- The edit at another place.
abbrev pub edit_moved : EditOf → ℕ → EditOf
edit_moved (replace first count texts) place = replace place count texts
edit_moved (splice line from to text) place = splice place from to text

abbrev pub kind_of : CommandOf → Kind
kind_of (edit it) = edits (edit_range it)
kind_of undo = undoes
kind_of redo = redoes
kind_of lock_scenes = forgets
kind_of lock_pages = forgets
kind_of next_round = forgets
kind_of (speakers on) = forgets
kind_of (paper size) = forgets
kind_of (sheet index) = looks
kind_of labels = looks
kind_of blocks = looks
kind_of outline = looks
kind_of save = looks
kind_of packet = looks

-- The command as the room asks it of its desk: an edit at its present place, all others as they are.
abbrev pub command_at : CommandOf → Kind → CommandOf
command_at (edit it) (edits range) = edit (edit_moved it range.first)
command_at command asked = command
