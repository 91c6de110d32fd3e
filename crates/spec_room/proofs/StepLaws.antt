-- What the step of a room by a seat's command means for its lines, its version and what its seats saw.
use Rattle.std.proofs.Common.{◌≡◌, Bool, true, false, cond, Result, Ok, Err, List, sym, ap, subst, ◌∙◌, refl}
use Rattle.spec_wire.specs.Commands.{RoomLineOf}
use Rattle.spec_wire.specs.Replies.{RefusalOf, ReplyOf, refused, is_refused}
use Rattle.spec_machine.specs.Machine.{Memory}
use Rattle.spec_machine.specs.Answers.{step_of}
use Rattle.spec_room.specs.Changes.{Text}
use Rattle.spec_room.specs.Kinds.{Kind, kind_of, command_at}
use Rattle.spec_room.specs.Rooms.{RoomState, asked_of, room_after, RoomStep, room_step_to, asked_step, room_step_by, room_step_of}
use Rattle.spec_room.specs.Standing.{StandsFor, KeepsSeen, texts_after}
use Rattle.spec_room.specs.Holding.{Holds}
use Rattle.spec_room.proofs.MachineSteps.{Step}
use Rattle.spec_room.proofs.SeatLaws.{keeps_seen, stands_after}
use Rattle.spec_room.proofs.CommandLaws.{unrefused-step}

-- The desk took the command, and the room remembers what it changed.
pub record IsTaken (old : RoomState) (it : RoomLineOf) (new : RoomState) : Type 0 where
  pub asked : Kind
  pub asks : asked_of old it.seat it.seen (kind_of it.command) ≡ Ok asked
  pub desk : Memory
  pub step : Step old.desk asked desk
  pub room : new ≡ room_after old it.seat asked desk

asked-taken : (room : RoomState) (it : RoomLineOf) (asked : Kind) (new : RoomState) (reply : ReplyOf) → asked_of room it.seat it.seen (kind_of it.command) ≡ Ok asked
    → room_step_to new reply ≡ asked_step room it.seat asked (step_of room.desk (command_at it.command asked)) → is_refused reply ≡ false → IsTaken room it new
asked-taken room it asked new reply asks is free =
    let made = step_of room.desk (command_at it.command asked) in
    let told : reply ≡ made.reply = ap (λ (s : RoomStep). s.reply) is in
    let taken : is_refused made.reply ≡ false = ap is_refused (sym told) ∙ free in
    record {
      asked = asked;
      asks = asks;
      desk = made.after;
      step = unrefused-step room it asked made.after made.reply asks refl taken;
      room = ap (λ (s : RoomStep). s.after) is ∙ ap (λ (b : Bool). cond b room (room_after room it.seat asked made.after)) taken;
    }

-- A step that isn't answered by a refusal.
pub unrefused-taken : (room : RoomState) (it : RoomLineOf) (new : RoomState) (reply : ReplyOf) → room_step_to new reply ≡ room_step_of room it → is_refused reply ≡ false → IsTaken room it new
unrefused-taken room it new reply is free = by (asked_of room it.seat it.seen (kind_of it.command)) refl is
  where
    by : (asked : Result Kind RefusalOf) → asked_of room it.seat it.seen (kind_of it.command) ≡ asked → room_step_to new reply ≡ room_step_by room it asked → IsTaken room it new
    by (Ok asked) asks same = asked-taken room it asked new reply asks same free
    by (Err reason) asks same =
        absurd (let told : reply ≡ refused reason = ap (λ (s : RoomStep). s.reply) same in let bad : true ≡ false = sym (ap is_refused told) ∙ free in cc)

-- One that is leaves the room as it was.
pub refused-same : (room : RoomState) (it : RoomLineOf) (new : RoomState) (reason : RefusalOf) → room_step_to new (refused reason) ≡ room_step_of room it → new ≡ room
refused-same room it new reason is = by (asked_of room it.seat it.seen (kind_of it.command)) is
  where
    by : (asked : Result Kind RefusalOf) → room_step_to new (refused reason) ≡ room_step_by room it asked → new ≡ room
    by (Ok asked) same =
        let made = step_of room.desk (command_at it.command asked) in
        let told : is_refused made.reply ≡ true = ap (λ (s : RoomStep). is_refused s.reply) (sym same) in
        ap (λ (s : RoomStep). s.after) same ∙ ap (λ (b : Bool). cond b room (room_after room it.seat asked made.after)) told
    by (Err other) same = ap (λ (s : RoomStep). s.after) same

pub taken-seen : (room : RoomState) (it : RoomLineOf) (new : RoomState) (texts : List Text) → Holds room → StandsFor room texts → IsTaken room it new → KeepsSeen room texts it.seen (kind_of it.command) new
taken-seen room it new texts holds stands taken =
    subst (KeepsSeen room texts it.seen (kind_of it.command)) (sym taken.room) (keeps_seen room it.seat it.seen (kind_of it.command) taken.asked taken.desk texts holds stands taken.asks taken.step)

pub taken-stands : (room : RoomState) (it : RoomLineOf) (new : RoomState) (texts : List Text) → Holds room → StandsFor room texts → IsTaken room it new
    → StandsFor new (texts_after texts (kind_of it.command) new.desk.state.lines)
taken-stands room it new texts holds stands taken =
    subst (λ (it_is : RoomState). StandsFor it_is (texts_after texts (kind_of it.command) it_is.desk.state.lines)) (sym taken.room)
    (stands_after room it.seat it.seen (kind_of it.command) taken.asked taken.desk texts holds stands taken.asks taken.step)
