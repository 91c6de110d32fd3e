-- Telling places of ranges, computed.
use Rattle.std.proofs.Common.{◌≡◌, ℕ, Ok, Err, List, [], ◌∷◌, refl}
use Rattle.std.specs.Prelude.{codes}
use Rattle.spec_text.specs.Lines.{LineState}
use Rattle.spec_text.specs.Ranges.{RangeOf}
use Rattle.spec_state.specs.State.{opened_state}
use Rattle.spec_wire.specs.Replies as replies
use Rattle.spec_wire.specs.Replies.{ahead, stale, overlap, not_yours}
use Rattle.spec_machine.specs.Machine.{Memory, opened_memory}
use Rattle.spec_room.specs.Changes.{place_of, lines_then}
use Rattle.spec_room.specs.Kinds.{edits, undoes, redoes}
use Rattle.spec_room.specs.Rooms.{RoomState, opened_room, asked_of, room_after}

abbrev change : ℕ → ℕ → ℕ → RangeOf
change first taken put = record { first = first; old = taken; new = put }

-- An insertion exactly at the start of a replaced range stays in front of it.
at_the_start : place_of 0 2 0 (change 2 1 3 ∷ []) ≡ Ok 2
at_the_start = refl

-- At an earlier insertion's place it goes behind.
behind_another : place_of 0 2 0 (change 2 0 3 ∷ []) ≡ Ok 5
behind_another = refl

-- Inside a replaced range it has no place.
inside_a_range : place_of 0 2 0 (change 1 3 0 ∷ []) ≡ Err 1
inside_a_range = refl

-- At the end of a replaced range it goes with the end.
at_the_end : place_of 0 3 0 (change 1 2 5 ∷ []) ≡ Ok 6
at_the_end = refl

-- A replace of nothing by nothing at a range's start moves nothing, and inside a range it stands in the way all the same.
nothing_by_nothing : place_of 0 2 3 (change 2 0 0 ∷ []) ≡ Ok 2
nothing_by_nothing = refl

nothing_inside : place_of 0 2 3 (change 3 0 0 ∷ []) ≡ Err 1
nothing_inside = refl

-- Overlap carries the version that the first change in the way made.
second_in_the_way : place_of 7 4 1 (change 0 2 1 ∷ change 3 1 1 ∷ change 3 1 1 ∷ []) ≡ Err 9
second_in_the_way = refl

-- A range that an edit and its undo left alone stands where it stood.
edit_and_undo : place_of 0 5 2 (change 1 2 4 ∷ change 1 4 2 ∷ []) ≡ Ok 5
edit_and_undo = refl

-- The rule's first row: a seat that saw three lines splices the last after one was replaced by two.
first_row : place_of 0 2 1 (change 0 1 2 ∷ []) ≡ Ok 3
first_row = refl

first_row_overlap : place_of 0 0 1 (change 0 1 2 ∷ change 3 1 1 ∷ []) ≡ Err 1
first_row_overlap = refl

-- The lines before changes, counted from those after them.
lines_counted : lines_then 4 (change 0 1 2 ∷ change 3 1 1 ∷ []) ≡ 3
lines_counted = refl

-- A session of two seats over three lines: p replaces line 0 by two lines, then q splices line 2 that it saw before.
abbrev p : List ℕ
p = codes "p"

abbrev q : List ℕ
q = codes "q"

abbrev line : LineState
line = record { id = 0; mark = 0; text = [] }

abbrev desk_of : List LineState → Memory
desk_of lines = opened_memory (record (opened_state []) { lines = lines })

abbrev opened : RoomState
opened = opened_room (desk_of (line ∷ line ∷ line ∷ []))

abbrev four : Memory
four = desk_of (line ∷ line ∷ line ∷ line ∷ [])

abbrev replaced : RoomState
replaced = room_after opened p (edits (change 0 1 2)) four

first_is_taken_as_it_is : asked_of opened p 0 (edits (change 0 1 2)) ≡ Ok (edits (change 0 1 2))
first_is_taken_as_it_is = refl

splice_moves : asked_of replaced q 0 (edits (change 2 1 1)) ≡ Ok (edits (change 3 1 1))
splice_moves = refl

abbrev spliced : RoomState
spliced = room_after replaced q (edits (change 3 1 1)) four

two_changes : spliced.changes ≡ change 0 1 2 ∷ change 3 1 1 ∷ []
two_changes = refl

two_seats : spliced.done ≡ p ∷ q ∷ []
two_seats = refl

replaced_line_is_gone : asked_of spliced q 0 (edits (change 0 1 1)) ≡ Err (overlap 1)
replaced_line_is_gone = refl

undo_of_another : asked_of spliced p 0 undoes ≡ Err (not_yours q)
undo_of_another = refl

undo_of_its_own : asked_of spliced q 0 undoes ≡ Ok undoes
undo_of_its_own = refl

nothing_to_redo : asked_of spliced p 0 redoes ≡ Ok redoes
nothing_to_redo = refl

unseen_version : asked_of spliced q 9 (edits (change 0 1 1)) ≡ Err (ahead 2)
unseen_version = refl

-- The text at version 0 had three lines.
past_its_end : asked_of spliced q 0 (edits (change 3 1 1)) ≡ Err replies.range
past_its_end = refl

-- 1,001 versions ago is too long.
stale_seat : asked_of (record { desk = four; version = 1001; changes = []; done = []; undone = [] }) q 0 (edits (change 0 1 1)) ≡ Err (stale 1001)
stale_seat = refl
