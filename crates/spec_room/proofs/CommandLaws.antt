-- What becomes of a room by a seat's command, where its desk took it, where its desk refused it and where the room did.
use Rattle.std.proofs.Common.{◌≡◌, ℕ, Bool, false, cond, Ok, List, sym, ap, subst, ◌∙◌, refl}
use Rattle.spec_text.specs.Edits.{EditOf, replace, splice}
use Rattle.spec_wire.specs.Commands.{CommandOf, RoomLineOf, edit, undo, redo, lock_scenes, lock_pages, next_round, sheet, labels, blocks, outline, save, speakers, paper, packet}
use Rattle.spec_wire.specs.Replies.{ReplyOf, is_refused}
use Rattle.spec_machine.specs.Machine.{Memory, memory_after, CanDo}
use Rattle.spec_machine.specs.Answers as answers
use Rattle.spec_machine.specs.Answers.{step_of}
use Rattle.spec_room.specs.Kinds.{Kind, edits, undoes, redoes, forgets, looks, edit_range, edit_moved, kind_of, command_at}
use Rattle.spec_room.specs.Rooms.{RoomState, last_of, asked_of, room_after, room_step_to, asked_step, room_step_by, room_step_of}
use Rattle.spec_room.proofs.MachineSteps.{Step, accepted-made, unrefused-made}
use Rattle.spec_room.proofs.SeatLaws.{asks_edit, for_owner-asks}

pub moved-kind : (it : EditOf) (place : ℕ) → kind_of (edit (edit_moved it place)) ≡ edits (record { first = place; old = (edit_range it).old; new = (edit_range it).new })
moved-kind (replace first count texts) place = refl
moved-kind (splice line from to text) place = refl

-- The command that the room asks of its desk is of the kind that it asks.
pub kind_of-at : (room : RoomState) (seat : List ℕ) (seen : ℕ) (command : CommandOf) (asked : Kind) → asked_of room seat seen (kind_of command) ≡ Ok asked → kind_of (command_at command asked) ≡ asked
kind_of-at room seat seen (edit it) asked e =
    let asks = asks_edit room seat seen (edit_range it) asked e in
    ap (λ (kind : Kind). kind_of (command_at (edit it) kind)) asks.is ∙ moved-kind it asks.place ∙ sym asks.is
kind_of-at room seat seen undo asked e = sym (for_owner-asks undoes seat (last_of 1 room.done) asked e)
kind_of-at room seat seen redo asked e = sym (for_owner-asks redoes seat (last_of 1 room.undone) asked e)
kind_of-at room seat seen lock_scenes asked e = let same : forgets ≡ asked = cc in same
kind_of-at room seat seen lock_pages asked e = let same : forgets ≡ asked = cc in same
kind_of-at room seat seen next_round asked e = let same : forgets ≡ asked = cc in same
kind_of-at room seat seen (speakers on) asked e = let same : forgets ≡ asked = cc in same
kind_of-at room seat seen (paper size) asked e = let same : forgets ≡ asked = cc in same
kind_of-at room seat seen (sheet index) asked e = let same : looks ≡ asked = cc in same
kind_of-at room seat seen labels asked e = let same : looks ≡ asked = cc in same
kind_of-at room seat seen blocks asked e = let same : looks ≡ asked = cc in same
kind_of-at room seat seen outline asked e = let same : looks ≡ asked = cc in same
kind_of-at room seat seen save asked e = let same : looks ≡ asked = cc in same
kind_of-at room seat seen packet asked e = let same : looks ≡ asked = cc in same

-- The desk makes a step of this kind.
pub accepted-step : (room : RoomState) (it : RoomLineOf) (asked : Kind) → asked_of room it.seat it.seen (kind_of it.command) ≡ Ok asked → CanDo room.desk (command_at it.command asked)
    → Step room.desk asked (memory_after room.desk (command_at it.command asked))
accepted-step room it asked asks can =
    subst (λ (kind : Kind). Step room.desk kind (memory_after room.desk (command_at it.command asked))) (kind_of-at room it.seat it.seen it.command asked asks)
    (accepted-made room.desk (command_at it.command asked) can)

abbrev pub step_to : Memory → ReplyOf → answers.Step
step_to after reply = record { after = after; reply = reply }

pub unrefused-step : (room : RoomState) (it : RoomLineOf) (asked : Kind) (desk : Memory) (reply : ReplyOf) → asked_of room it.seat it.seen (kind_of it.command) ≡ Ok asked
    → step_to desk reply ≡ step_of room.desk (command_at it.command asked) → is_refused reply ≡ false → Step room.desk asked desk
unrefused-step room it asked desk reply asks step free =
    let command = command_at it.command asked in
    let told : is_refused (step_of room.desk command).reply ≡ false = ap (λ (s : answers.Step). is_refused s.reply) (sym step) ∙ free in
    let made = unrefused-made room.desk command told in
    let there : Step room.desk (kind_of command) desk = subst (Step room.desk (kind_of command)) (ap (λ (s : answers.Step). s.after) (sym step)) made in
    subst (λ (kind : Kind). Step room.desk kind desk) (kind_of-at room it.seat it.seen it.command asked asks) there

-- ---- the step of the room

-- Where its desk took the command.
pub taken_step : (room : RoomState) (it : RoomLineOf) (asked : Kind) (desk : Memory) (reply : ReplyOf) → asked_of room it.seat it.seen (kind_of it.command) ≡ Ok asked
    → step_to desk reply ≡ step_of room.desk (command_at it.command asked) → is_refused reply ≡ false → room_step_to (room_after room it.seat asked desk) reply ≡ room_step_of room it
taken_step room it asked desk reply asks step free =
    ap (λ (b : Bool). room_step_to (cond b room (room_after room it.seat asked desk)) reply) (sym free)
    ∙ ap (asked_step room it.seat asked) step
    ∙ ap (room_step_by room it) (sym asks)
