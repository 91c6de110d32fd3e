-- What a room of several seats is, what it refuses by itself, and what becomes of it by a seat's command (docs/RULES.md, "The room").
use Rattle.std.specs.Prelude.{ℕ, ◌+◌, ◌-◌, nat_lt, Result, Ok, Err, List, [], ◌∷◌, ◌++◌, length, take, drop, map, if◌then◌else◌}
use Rattle.std.specs.Str.{bytes_eq}
use Rattle.spec_text.specs.Ranges.{RangeOf}
use Rattle.spec_wire.specs.Commands.{RoomLineOf}
use Rattle.spec_wire.specs.Replies as replies
use Rattle.spec_wire.specs.Replies.{RefusalOf, ahead, stale, overlap, not_yours, ReplyOf, refused, is_refused}
use Rattle.spec_machine.specs.Machine.{EntryOf, Memory}
use Rattle.spec_machine.specs.Answers.{Step, step_of}
use Rattle.spec_room.specs.Changes.{turned, place_of, lines_then}
use Rattle.spec_room.specs.Kinds.{Kind, edits, undoes, redoes, forgets, looks, kind_of, command_at}

-- How many changes a room remembers.
abbrev pub kept_changes : ℕ
kept_changes = 1000

-- The last `most` of a list, or all where there are fewer.
abbrev pub last_of : {X : Type 0} → ℕ → List X → List X
last_of most items = drop (length items - most) items

-- A list without its last item.
abbrev pub but_last : {X : Type 0} → List X → List X
but_last items = take (length items - 1) items

-- The ranges of entries.
abbrev pub ranges_of : List EntryOf → List RangeOf
ranges_of entries = map (λ (entry : EntryOf). entry.range) entries

-- A room: the memory of its desk; its version; its last changes; the seats that made the edits that can be undone, and those that
-- can be redone, beside their entries.
pub record RoomState : Type 0 where
  pub desk : Memory
  pub version : ℕ
  pub changes : List RangeOf
  pub done : List (List ℕ)
  pub undone : List (List ℕ)

-- A room round a desk that has nothing to undo or redo.
abbrev pub opened_room : Memory → RoomState
opened_room desk = record { desk = desk; version = 0; changes = []; done = []; undone = [] }

-- ---- what a room asks of its desk

-- Where the change that a version came before stands among the last changes.
abbrev pub since : List RangeOf → ℕ → ℕ → ℕ
since changes version seen = length changes - (version - seen)

-- The changes from the version `seen` on.
abbrev pub changes_since : List RangeOf → ℕ → ℕ → List RangeOf
changes_since changes version seen = drop (since changes version seen) changes

-- An edit at its present place, or the version in its way.
abbrev pub edit_at : RangeOf → Result ℕ ℕ → Result Kind RefusalOf
edit_at range (Ok place) = Ok (edits (record { first = place; old = range.old; new = range.new }))
edit_at range (Err version) = Err (overlap version)

-- What is asked of the desk for an edit of a range of the text at the version `seen`, or the first refusal in order. There are `lines`
-- lines now.
abbrev pub asked_edit : List RangeOf → ℕ → ℕ → ℕ → RangeOf → Result Kind RefusalOf
asked_edit changes version lines seen range =
    if nat_lt version seen then Err (ahead version)
    else (if nat_lt kept_changes (version - seen) then Err (stale version)
    else (if nat_lt (lines_then lines (changes_since changes version seen)) (range.first + range.old) then Err replies.range
    else edit_at range (place_of seen range.first range.old (changes_since changes version seen))))

-- An undo or a redo is for the seat that made the edit. Where there is none, the desk answers.
abbrev pub for_owner : Kind → List ℕ → List (List ℕ) → Result Kind RefusalOf
for_owner kind seat [] = Ok kind
for_owner kind seat (owner ∷ _) = if bytes_eq owner seat then Ok kind else Err (not_yours owner)

-- What the room asks of its desk for a seat's command, or the first refusal in order.
abbrev pub asked_of : RoomState → List ℕ → ℕ → Kind → Result Kind RefusalOf
asked_of room seat seen (edits range) = asked_edit room.changes room.version (length room.desk.state.lines) seen range
asked_of room seat seen undoes = for_owner undoes seat (last_of 1 room.done)
asked_of room seat seen redoes = for_owner redoes seat (last_of 1 room.undone)
asked_of room seat seen forgets = Ok forgets
asked_of room seat seen looks = Ok looks

-- ---- what an accepted command leaves

-- By how much it raises the version.
abbrev pub rises : Kind → ℕ
rises (edits range) = 1
rises undoes = 1
rises redoes = 1
rises forgets = 0
rises looks = 0

-- The change that it makes, with the range that the desk keeps for that edit.
abbrev pub change_of : Memory → Kind → List RangeOf
change_of desk (edits range) = range ∷ []
change_of desk undoes = map turned (last_of 1 (ranges_of desk.done))
change_of desk redoes = last_of 1 (ranges_of desk.undone)
change_of desk forgets = []
change_of desk looks = []

abbrev pub done_after : RoomState → List ℕ → Kind → List (List ℕ)
done_after room seat (edits range) = room.done ++ seat ∷ []
done_after room seat undoes = but_last room.done
done_after room seat redoes = room.done ++ last_of 1 room.undone
done_after room seat forgets = []
done_after room seat looks = room.done

abbrev pub undone_after : RoomState → Kind → List (List ℕ)
undone_after room (edits range) = []
undone_after room undoes = room.undone ++ last_of 1 room.done
undone_after room redoes = but_last room.undone
undone_after room forgets = []
undone_after room looks = room.undone

-- The room whose desk took a seat's command: the change, if there is one, stands behind the others and raises the version by one.
abbrev pub room_after : RoomState → List ℕ → Kind → Memory → RoomState
room_after room seat kind desk = record {
  desk = desk;
  version = room.version + rises kind;
  changes = last_of kept_changes (room.changes ++ change_of room.desk kind);
  done = done_after room seat kind;
  undone = undone_after room kind;
}

-- ---- what becomes of a room by a seat's command, and the reply: a refused command changes nothing

pub record RoomStep : Type 0 where
  pub after : RoomState
  pub reply : ReplyOf

abbrev pub room_step_to : RoomState → ReplyOf → RoomStep
room_step_to after reply = record { after = after; reply = reply }

-- By what the desk makes of the command that the room asks of it.
abbrev pub asked_step : RoomState → List ℕ → Kind → Step → RoomStep
asked_step room seat kind step = room_step_to (if is_refused step.reply then room else room_after room seat kind step.after) step.reply

abbrev pub room_step_by : RoomState → RoomLineOf → Result Kind RefusalOf → RoomStep
room_step_by room it (Ok kind) = asked_step room it.seat kind (step_of room.desk (command_at it.command kind))
room_step_by room it (Err reason) = room_step_to room (refused reason)

abbrev pub room_step_of : RoomState → RoomLineOf → RoomStep
room_step_of room it = room_step_by room it (asked_of room it.seat it.seen (kind_of it.command))
