-- What becomes of a room by a line of one of its seats.
use Rattle.std.proofs.Common.{◌≡◌, ℕ, Bool, true, false, cond, List, [], ◌∷◌, ◌++◌, inl, inr, refl, sym, ap, ◌∙◌, subst}
use Rattle.std.specs.Prelude.{if◌then◌else◌, IfOk, OnErr}
use Rattle.std.specs.declared.option.Option.{Option}
use Rattle.std.specs.declared.option.Option.TheVariants.{Some, None}
use Rattle.std.specs.declared.result.Result.{Result}
use Rattle.std.specs.declared.result.Result.TheVariants.{Ok, Err}
use Rattle.spec_wire.specs.Commands.{CommandOf, FaultOf, RoomLineOf, edit, undo, redo, lock_scenes, lock_pages, next_round, sheet, labels, blocks, outline, save, speakers, paper, packet}
use Rattle.spec_wire.specs.Replies.{RefusalOf, ReplyOf, is_refused}
use Rattle.spec_state.specs.State.{State}
use Rattle.spec_state.specs.Keeping.{IsWhole}
use Rattle.spec_machine.specs.Machine.{Memory, memory_after}
use Rattle.spec_machine.specs.Refusals.{refusal_to}
use Rattle.spec_machine.specs.Answers.{accepted_reply, step_by, step_of}
use Rattle.spec_machine.specs.KeptMemories.{IsWholeMemory}
use Rattle.spec_machine.specs.LabelPromises.{LosesNone}
use Rattle.spec_machine.proofs.MachineLaws.{all-stay, step-lost}
use Rattle.spec_machine.proofs.RefusalLaws.{accepted-can}
use Rattle.spec_locked_pages.specs.Chains.{AreLinked}
use Rattle.spec_room.specs.Changes.{Text}
use Rattle.spec_room.specs.Kinds.{Kind, edits, undoes, redoes, forgets, looks, edit_moved, kind_of, command_at}
use Rattle.spec_room.specs.Rooms.{RoomState, RoomStep, asked_of, room_after, room_step_to, asked_step, room_step_by, room_step_of}
use Rattle.spec_room.specs.Sessions.{Session, Takes, goes, versions_after}
use Rattle.spec_room.proofs.SessionLaws.{session_seen}
use Rattle.spec_session.specs.Runs.{AtShelf}
use Rattle.sp_wire.specs.declared.reply.Reply.{Reply}
use Rattle.sp_wire.specs.Values.{reply_of}
use Rattle.sp_desk.specs.declared.fault.DeskFault.{DeskFault}
use Rattle.sp_room.specs.Answers.{IsRoomAnswer}
use Rattle.sp_run.specs.DeskLines.{Leaves, Stores, asks_save, is_packet, is_save}
use Rattle.sp_run.specs.RoomLines.{NamedRoom, SeatReplies, SeatStops, desk_of_room, other_room, packet_room, room_line_step_by, saved_room, seatless}
use Rattle.sp_wire.specs.Done.{TellsPlainly, may_have_changed}
use Rattle.sp_run.proofs.Plain.{plain-digest}
use Rattle.sp_run.proofs.Replies.{none-left, packet-plain, step-plain}
use Rattle.sp_run.specs.Promises.{Follows}
use Rattle.sp_run.specs.Seats.{IsSeen, IsTakenSeen}

-- ---- one step

-- A step that isn't answered by a refusal takes the command.
pub step-takes : (room : RoomState) (it : RoomLineOf) (new : RoomState) (reply : ReplyOf) → room_step_to new reply ≡ room_step_of room it → is_refused reply ≡ false → IsWholeMemory new.desk → Takes room it new
step-takes room it new reply is free whole = by (asked_of room it.seat it.seen (kind_of it.command)) refl is
  where
    at : Kind → CommandOf
    at asked = command_at it.command asked

    free-takes : (asked : Kind) (refusal : Option RefusalOf) → asked_of room it.seat it.seen (kind_of it.command) ≡ Ok asked → refusal_to room.desk (at asked) ≡ refusal
        → room_step_to new reply ≡ asked_step room it.seat asked (step_by room.desk (at asked) refusal) → Takes room it new
    free-takes asked None asks none same =
        let after = memory_after room.desk (at asked) in
        let taken : is_refused (step_by room.desk (at asked) None).reply ≡ false = ap (λ (s : RoomStep). is_refused s.reply) (sym same) ∙ free in
        let there : new ≡ room_after room it.seat asked after = ap (λ (s : RoomStep). s.after) same ∙ ap (λ (b : Bool). cond b room (room_after room it.seat asked after)) taken in
        let is : IsWholeMemory after = subst IsWholeMemory (ap (λ (r : RoomState). r.desk) there) whole in
        record {
          asked = asked;
          asks = asks;
          accepts = record { free = none; text = (is.state).text };
          room = there;
        }
    free-takes asked (Some reason) asks some same = absurd (let told : true ≡ false = ap (λ (s : RoomStep). is_refused s.reply) (sym same) ∙ free in cc)

    by : (asked : Result Kind RefusalOf) → asked_of room it.seat it.seen (kind_of it.command) ≡ asked → room_step_to new reply ≡ room_step_by room it asked → Takes room it new
    by (Ok asked) asks same = free-takes asked (refusal_to room.desk (at asked)) asks refl same
    by (Err reason) asks same = absurd (let told : true ≡ false = ap (λ (s : RoomStep). is_refused s.reply) (sym same) ∙ free in cc)

-- One that is leaves the room.
pub step-stays : (room : RoomState) (it : RoomLineOf) (new : RoomState) (reply : ReplyOf) → room_step_to new reply ≡ room_step_of room it → is_refused reply ≡ true → new ≡ room
step-stays room it new reply is told = by (asked_of room it.seat it.seen (kind_of it.command)) is
  where
    by : (asked : Result Kind RefusalOf) → room_step_to new reply ≡ room_step_by room it asked → new ≡ room
    by (Ok asked) same =
        let made = step_of room.desk (command_at it.command asked) in
        let refuses : is_refused made.reply ≡ true = ap (λ (s : RoomStep). is_refused s.reply) (sym same) ∙ told in
        ap (λ (s : RoomStep). s.after) same ∙ ap (λ (b : Bool). cond b room (room_after room it.seat asked made.after)) refuses
    by (Err reason) same = ap (λ (s : RoomStep). s.after) same

-- No locked label is lost.
takes-lost : (old : RoomState) (it : RoomLineOf) (new : RoomState) → IsWholeMemory old.desk → Takes old it new → LosesNone old.desk.state new.desk.state
takes-lost old it new whole takes =
    let command = command_at it.command takes.asked in
    subst (λ (room : RoomState). LosesNone old.desk.state room.desk.state) (sym takes.room) (step-lost old.desk command whole (accepted-can old.desk command takes.accepts))

step-lost-none : (old : RoomState) (it : RoomLineOf) (new : RoomState) (reply : ReplyOf) → room_step_to new reply ≡ room_step_of old it → IsWholeMemory old.desk → IsWholeMemory new.desk
    → LosesNone old.desk.state new.desk.state
step-lost-none old it new reply is whole now = by (is_refused reply) refl
  where
    by : (told : Bool) → is_refused reply ≡ told → LosesNone old.desk.state new.desk.state
    by true told = subst (λ (room : RoomState). LosesNone old.desk.state room.desk.state) (sym (step-stays old it new reply is told)) (all-stay old.desk.state)
    by false free = takes-lost old it new whole (step-takes old it new reply is free now)

-- The room follows the one before it.
pub step-follows : (old : RoomState) (it : RoomLineOf) (new : RoomState) (reply : ReplyOf) → room_step_to new reply ≡ room_step_of old it → IsWholeMemory old.desk → IsWholeMemory new.desk → AreLinked new.desk
    → Follows old.desk new.desk
step-follows old it new reply is whole now linked = record { whole = now; linked = linked; lost = step-lost-none old it new reply is whole now }

pub same-follows : (old new : RoomState) → new ≡ old → IsWholeMemory new.desk → AreLinked new.desk → Follows old.desk new.desk
same-follows old new same now linked =
    record { whole = now; linked = linked; lost = subst (λ (room : RoomState). LosesNone old.desk.state room.desk.state) (sym same) (all-stay old.desk.state) }

pub answer-follows : (old : RoomState) (it : RoomLineOf) (new : RoomState) (result : Result Reply DeskFault) → IsRoomAnswer old it new result → OnErr result (new ≡ old) → IsWholeMemory old.desk
    → IsWholeMemory new.desk → AreLinked new.desk → Follows old.desk new.desk
answer-follows old it new (Ok reply) step same whole now linked = step-follows old it new (reply_of reply) step whole now linked
answer-follows old it new (Err fault) step same whole now linked = same-follows old new same now linked

-- ---- the line of a reply

-- A command whose reply would tell what was done is refused, where its reply doesn't.
done-told : (memory : Memory) (command : CommandOf) → ((after : State) → may_have_changed (accepted_reply memory after command) ≡ true) → may_have_changed (step_of memory command).reply ≡ false
    → is_refused (step_of memory command).reply ≡ false → ⊥
done-told memory command done = by (refusal_to memory command)
  where
    by : (refusal : Option RefusalOf) → may_have_changed (step_by memory command refusal).reply ≡ false → is_refused (step_by memory command refusal).reply ≡ false → ⊥
    by None told free = let bad : true ≡ false = sym (done (memory_after memory command).state) ∙ told in let no : ⊥ = cc in no
    by (Some reason) told free = let no : ⊥ = cc in no

-- One whose reply tells nothing of the kind only looks.
told-looks : (memory : Memory) (command : CommandOf) (asked : Kind) → may_have_changed (step_of memory (command_at command asked)).reply ≡ false → is_refused (step_of memory (command_at command asked)).reply ≡ false
    → kind_of command ≡ looks
told-looks memory (edit it) (edits range) told free = absurd (done-told memory (edit (edit_moved it range.first)) (λ after. refl) told free)
told-looks memory (edit it) undoes told free = absurd (done-told memory (edit it) (λ after. refl) told free)
told-looks memory (edit it) redoes told free = absurd (done-told memory (edit it) (λ after. refl) told free)
told-looks memory (edit it) forgets told free = absurd (done-told memory (edit it) (λ after. refl) told free)
told-looks memory (edit it) looks told free = absurd (done-told memory (edit it) (λ after. refl) told free)
told-looks memory undo asked told free = absurd (done-told memory undo (λ after. refl) told free)
told-looks memory redo asked told free = absurd (done-told memory redo (λ after. refl) told free)
told-looks memory lock_scenes asked told free = absurd (done-told memory lock_scenes (λ after. refl) told free)
told-looks memory lock_pages asked told free = absurd (done-told memory lock_pages (λ after. refl) told free)
told-looks memory next_round asked told free = absurd (done-told memory next_round (λ after. refl) told free)
told-looks memory (speakers on) asked told free = absurd (done-told memory (speakers on) (λ after. refl) told free)
told-looks memory (paper size) asked told free = absurd (done-told memory (paper size) (λ after. refl) told free)
told-looks memory (sheet index) asked told free = refl
told-looks memory labels asked told free = refl
told-looks memory blocks asked told free = refl
told-looks memory outline asked told free = refl
told-looks memory save asked told free = refl
told-looks memory packet asked told free = refl

-- A reply that tells nothing of the kind leaves the room as it was.
undone-step : (old : RoomState) (it : RoomLineOf) (new : RoomState) (reply : ReplyOf) → room_step_to new reply ≡ room_step_of old it → (kind_of it.command ≡ looks → new ≡ old) → may_have_changed reply ≡ false → new ≡ old
undone-step old it new reply is looked told = by (asked_of old it.seat it.seen (kind_of it.command)) (is_refused reply) refl is
  where
    by : (asked : Result Kind RefusalOf) (refuses : Bool) → is_refused reply ≡ refuses → room_step_to new reply ≡ room_step_by old it asked → new ≡ old
    by (Err reason) refuses known same = ap (λ (s : RoomStep). s.after) same
    by (Ok asked) true known same = step-stays old it new reply is known
    by (Ok asked) false known same =
        let made = step_of old.desk (command_at it.command asked) in
        let undone : may_have_changed made.reply ≡ false = ap (λ (s : RoomStep). may_have_changed s.reply) (sym same) ∙ told in
        let free : is_refused made.reply ≡ false = ap (λ (s : RoomStep). is_refused s.reply) (sym same) ∙ known in looked (told-looks old.desk it.command asked undone free)

pub answer-undone : (old : RoomState) (it : RoomLineOf) (new : RoomState) (result : Result Reply DeskFault) → IsRoomAnswer old it new result → (kind_of it.command ≡ looks → new ≡ old)
    → IfOk result (λ reply. may_have_changed (reply_of reply) ≡ false → new ≡ old)
answer-undone old it new (Ok reply) answer looked = undone-step old it new (reply_of reply) answer looked
answer-undone old it new (Err fault) answer looked = tt

room-plain : (room : RoomState) (it : RoomLineOf) → TellsPlainly (room_step_of room it).reply
room-plain room it = by (asked_of room it.seat it.seen (kind_of it.command))
  where
    by : (asked : Result Kind RefusalOf) → TellsPlainly (room_step_by room it asked).reply
    by (Ok asked) = step-plain room.desk (command_at it.command asked)
    by (Err reason) = tt

seat-line-plain : (room : RoomState) (asked : Result RoomLineOf FaultOf) → TellsPlainly (room_line_step_by room asked).reply
seat-line-plain room (Err fault) = tt
seat-line-plain room (Ok it) = by (is_save it.command) (is_packet it.command)
  where
    by : (saves packs : Bool) → TellsPlainly (if saves then saved_room room else (if packs then packet_room room else room_step_of room it)).reply
    by true packs = plain-digest room.desk.state.lines
    by false true = packet-plain room.desk.state
    by false false = room-plain room it

pub seat-plain : (before after : AtShelf NamedRoom) (asked : Result RoomLineOf FaultOf) (reply : ReplyOf) → SeatReplies before asked after reply → TellsPlainly reply
seat-plain before after asked reply (inl it) = subst TellsPlainly (sym (ap (λ (s : RoomStep). s.reply) it.step)) (seat-line-plain before.it.room asked)
seat-plain before after asked reply (inr it) = subst TellsPlainly (sym it.told) tt

seat-unasked : (room : RoomState) (asked : Result RoomLineOf FaultOf) → may_have_changed (room_line_step_by room asked).reply ≡ false → asks_save (seatless asked) ≡ false
seat-unasked room (Err fault) = λ told. refl
seat-unasked room (Ok it) = by (is_save it.command)
  where
    by : (saves : Bool) → may_have_changed (if saves then saved_room room else other_room room it).reply ≡ false → saves ≡ false
    by true told = absurd (let bad : ⊥ = cc in bad)
    by false told = refl

pub seat-stops : (before after : AtShelf NamedRoom) (asked : Result RoomLineOf FaultOf) (reply : ReplyOf) → may_have_changed reply ≡ false → after.it.room ≡ before.it.room → SeatReplies before asked after reply
    → SeatStops before asked after
seat-stops before after asked reply told same (inl it) =
    let unasked = seat-unasked before.it.room asked (sym (ap (λ (s : RoomStep). may_have_changed s.reply) it.step) ∙ told) in
    record {
      room = same;
      name = it.name;
      leaves = subst (λ (b : Bool). Leaves b (desk_of_room before) (desk_of_room after)) (sym unasked) (subst (λ (b : Bool). Stores b (desk_of_room before) (desk_of_room after)) unasked it.stores);
    }
seat-stops before after asked reply told same (inr it) = absurd (let bad : true ≡ false = sym (ap may_have_changed it.told) ∙ told in let no : ⊥ = cc in no)

-- Where nothing was done, all is as it was.
pub seat-none-stops : (at : AtShelf NamedRoom) (asked : Result RoomLineOf FaultOf) → SeatStops at asked at
seat-none-stops at asked = record { room = refl; name = refl; leaves = none-left (asks_save (seatless asked)) (desk_of_room at) }

-- ---- what the seats saw

-- A session with one line more.
pub record Goes (state : State) (old : RoomState) (texts : List Text) (asked : Result RoomLineOf FaultOf) (new : RoomState) : Type 0 where
  pub behind : List Text
  pub taken : IsTakenSeen old texts asked new behind
  pub commands : List CommandOf
  pub session : Session state commands new behind

seen-by : (state : State) (commands : List CommandOf) (old : RoomState) (texts : List Text) (seat : List ℕ) (seen : ℕ) (command : CommandOf) (new : RoomState) → IsWhole state
    → Session state commands old texts → Takes old (record { seat = seat; seen = seen; command = command }) new → IsSeen old texts seen (kind_of command) new
seen-by state commands old texts seat seen (edit it) new whole session takes = session_seen state commands old texts seat seen it new whole session takes
seen-by state commands old texts seat seen undo new whole session takes = tt
seen-by state commands old texts seat seen redo new whole session takes = tt
seen-by state commands old texts seat seen lock_scenes new whole session takes = tt
seen-by state commands old texts seat seen lock_pages new whole session takes = tt
seen-by state commands old texts seat seen next_round new whole session takes = tt
seen-by state commands old texts seat seen (speakers on) new whole session takes = tt
seen-by state commands old texts seat seen (paper size) new whole session takes = tt
seen-by state commands old texts seat seen (sheet index) new whole session takes = tt
seen-by state commands old texts seat seen labels new whole session takes = tt
seen-by state commands old texts seat seen blocks new whole session takes = tt
seen-by state commands old texts seat seen outline new whole session takes = tt
seen-by state commands old texts seat seen save new whole session takes = tt
seen-by state commands old texts seat seen packet new whole session takes = tt

pub stays-on : (state : State) (commands : List CommandOf) (old : RoomState) (texts : List Text) (asked : Result RoomLineOf FaultOf) (new : RoomState) → Session state commands old texts → new ≡ old
    → Goes state old texts asked new
stays-on state commands old texts asked new session same =
    record { behind = texts; taken = inl (same, refl); commands = commands; session = subst (λ (room : RoomState). Session state commands room texts) (sym same) session }

takes-on : (state : State) (commands : List CommandOf) (old : RoomState) (texts : List Text) (it : RoomLineOf) (new : RoomState) → IsWhole state → Session state commands old texts → Takes old it new
    → Goes state old texts (Ok it) new
takes-on state commands old texts it new whole session takes = record {
  behind = versions_after texts (kind_of it.command) new.desk.state.lines;
  taken = inr (record { it = it; asks = refl; takes = takes; seen = seen-by state commands old texts it.seat it.seen it.command new whole session takes; are = refl });
  commands = commands ++ command_at it.command takes.asked ∷ [];
  session = goes commands old texts it new session takes;
}

pub goes-on : (state : State) (commands : List CommandOf) (old : RoomState) (texts : List Text) (asked : Result RoomLineOf FaultOf) (new : RoomState) (reply : ReplyOf) → IsWhole state
    → Session state commands old texts → room_step_to new reply ≡ room_line_step_by old asked → IsWholeMemory new.desk → Goes state old texts asked new
goes-on state commands old texts (Err fault) new reply whole session is now = stays-on state commands old texts (Err fault) new session (ap (λ (s : RoomStep). s.after) is)
goes-on state commands old texts (Ok it) new reply whole session is now = by (is_save it.command) is
  where
    told-by : (told : Bool) → is_refused reply ≡ told → room_step_to new reply ≡ room_step_of old it → Goes state old texts (Ok it) new
    told-by true told same = stays-on state commands old texts (Ok it) new session (step-stays old it new reply same told)
    told-by false free same = takes-on state commands old texts it new whole session (step-takes old it new reply same free now)

    by-packet : (asks : Bool) → room_step_to new reply ≡ (if asks then packet_room old else room_step_of old it) → Goes state old texts (Ok it) new
    by-packet true same = stays-on state commands old texts (Ok it) new session (ap (λ (s : RoomStep). s.after) same)
    by-packet false same = told-by (is_refused reply) refl same

    by : (saves : Bool) → room_step_to new reply ≡ (if saves then saved_room old else other_room old it) → Goes state old texts (Ok it) new
    by true same = stays-on state commands old texts (Ok it) new session (ap (λ (s : RoomStep). s.after) same)
    by false same = by-packet (is_packet it.command) same
