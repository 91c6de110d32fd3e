-- A session of a room.
use Rattle.std.proofs.Common.{◌≡◌, ℕ, ◌-◌, ◌^◌, ◌<◌, List, [], ◌∷◌, inl, inr, refl, ap, ◌∙◌, subst}
use Rattle.std.specs.Prelude.{Bool, true, false, if◌then◌else◌, slice_index_or}
use Rattle.std.specs.Str.{bytes_eq}
use Rattle.std.specs.declared.result.Result.{Result}
use Rattle.std.specs.declared.result.Result.TheVariants.{Ok, Err}
use Rattle.json.proofs.OnLiterals.{json_on_literals}
use Rattle.serde_json.proofs.OnLiterals.{serde_json_on_literals}
use Rattle.spec_session.specs.Runs.{Answered, AtShelf, Counts, Runs}
use Rattle.spec_wire.specs.Lines.{room_line_of_line}
use Rattle.spec_wire.specs.Commands.{CommandOf, FaultOf, RoomLineOf}
use Rattle.spec_wire.specs.Replies.{ReplyOf, saved, room_reply_line}
use Rattle.spec_records.specs.RecordFile.{digest_of}
use Rattle.spec_state.specs.State.{State}
use Rattle.spec_state.specs.Keeping.{IsWhole}
use Rattle.spec_machine.specs.KeptMemories.{IsWholeMemory}
use Rattle.spec_room.specs.Changes.{Text}
use Rattle.spec_room.specs.Rooms.{RoomState, RoomStep, opened_room}
use Rattle.spec_room.specs.Sessions.{Session, opens}
use Rattle.sp_run.specs.DeskLines.{asks_save}
use Rattle.sp_run.specs.RoomLines.{NamedRoom, AnswersRoomLine, SeatReplies, StopsAtRoomLine, answered_room_line, desk_of_room, other_room, room_line_step_by, saved_room, seat_saves, seatless, step_line}
use Rattle.sp_run.specs.Seats.{AreTakenSeen}
use Rattle.sp_run.specs.Unopened.{Outside}
use Rattle.sp_run.specs.DeskEnding.{begun_at}
use Rattle.sp_run.specs.RoomEnding.{RoomAnsweredAll, RoomAnsweredCalmly, the_room}
use Rattle.sp_run.proofs.Held.{not-risen}
use Rattle.sp_run.proofs.HeldSessions.{calmly}
use Rattle.sp_run.proofs.Seats.{Goes, goes-on, stays-on}
use Rattle.sp_run.proofs.Touches.{Touches, Halts, Way, unsaved_line, other-line}

-- ---- what an answer of a room does

-- The line of a save that was done.
done-letter : (digest : List ℕ) (version : ℕ) → slice_index_or (room_reply_line (saved digest) version) 2 0 ≡ 100
unfolding serde_json_on_literals json_on_literals
done-letter digest version = refl

saved-told : (room : RoomState) (asked : Result RoomLineOf FaultOf) (reply : ReplyOf) (version : ℕ) → reply ≡ (room_line_step_by room asked).reply → asks_save (seatless asked) ≡ true
    → bytes_eq (room_reply_line reply version) unsaved_line ≡ false
saved-told room (Ok it) reply version is asks =
    let told : reply ≡ saved (digest_of room.desk.state.lines) = is ∙ ap (λ (b : Bool). (if b then saved_room room else other_room room it).reply) asks in
    other-line (room_reply_line reply version) (ap (λ (r : ReplyOf). slice_index_or (room_reply_line r version) 2 0) told ∙ done-letter (digest_of room.desk.state.lines) version)
saved-told room (Err fault) reply version is asks = absurd (let bad : ⊥ = cc in bad)

pub answer-touches : (before : AtShelf NamedRoom) (line : List ℕ) (after : AtShelf NamedRoom) (bytes : List ℕ) → AnswersRoomLine before line after bytes
    → Touches (seat_saves line) (desk_of_room before) (desk_of_room after) bytes
answer-touches before line after bytes it = by it.replies
  where
    by : SeatReplies before (room_line_of_line line) after it.reply → Touches (seat_saves line) (desk_of_room before) (desk_of_room after) bytes
    by (inl done) = record {
      named = done.name;
      stored = inl (record {
        stores = done.stores;
        told = λ asks. ap (λ (b : List ℕ). bytes_eq b unsaved_line) it.is
            ∙ saved-told before.it.room (room_line_of_line line) it.reply after.it.room.version (ap (λ (s : RoomStep). s.reply) done.step) asks;
      });
      follows = it.follows;
    }
    by (inr failed) = record { named = ap (λ (r : NamedRoom). r.name) failed.same; stored = inr (record { saves = failed.asks; failed = failed.failed }); follows = it.follows }

pub stop-halts : (before : AtShelf NamedRoom) (line : List ℕ) (after : AtShelf NamedRoom) → StopsAtRoomLine before line after → Halts (seat_saves line) (desk_of_room before) (desk_of_room after)
stop-halts before line after it = record { named = it.stops.name; memory = ap (λ (r : RoomState). r.desk) it.stops.room; leaves = it.stops.leaves }

-- ---- what the seats saw

line-goes : (state : State) (commands : List CommandOf) (before : AtShelf NamedRoom) (texts : List Text) (line : List ℕ) (after : AtShelf NamedRoom) (reply : ReplyOf) → IsWhole state
    → Session state commands before.it.room texts → SeatReplies before (room_line_of_line line) after reply → IsWholeMemory after.it.room.desk → Goes state before.it.room texts (room_line_of_line line) after.it.room
line-goes state commands before texts line after reply whole session (inl done) now =
    goes-on state commands before.it.room texts (room_line_of_line line) after.it.room reply whole session done.step now
line-goes state commands before texts line after reply whole session (inr failed) now =
    stays-on state commands before.it.room texts (room_line_of_line line) after.it.room session (ap (λ (r : NamedRoom). r.room) failed.same)

pub runs-taken : (state : State) (commands : List CommandOf) (before : AtShelf NamedRoom) (texts : List Text) (lines : List (List ℕ)) (steps : List (Answered (AtShelf NamedRoom))) → IsWhole state
    → Session state commands before.it.room texts → Runs AnswersRoomLine before lines steps → AreTakenSeen before.it.room texts lines steps
runs-taken state commands before texts [] steps whole session runs = tt
runs-taken state commands before texts (line ∷ lines) [] whole session runs = tt
runs-taken state commands before texts (line ∷ lines) (step ∷ steps) whole session runs =
    let on = line-goes state commands before texts line step.after runs.0.reply whole session runs.0.replies runs.0.follows.whole in
    (on.behind, on.taken, runs-taken state on.commands step.after on.behind lines steps whole on.session runs.1)

abbrev pub by_room : Way
by_room = record {
  how = the_room;
  touches = answer-touches;
  halts = stop-halts;
  begins = λ name memory. refl;
  sees = λ name state shelf counts lines steps whole runs. runs-taken state [] (begun_at the_room name state shelf counts) (state.lines ∷ []) lines steps whole opens runs;
}

-- ---- where no store failed

abbrev seen : AtShelf NamedRoom → RoomState
seen at = at.it.room

-- The step that a line asks for was done.
calm-step : (before : AtShelf NamedRoom) (line : List ℕ) (after : AtShelf NamedRoom) (reply : ReplyOf) → SeatReplies before (room_line_of_line line) after reply → after.shelf.faults ≡ before.shelf.faults
    → after.shelf.faults < 2 ^ 64 - 1 → record { after = seen after; reply = room_reply_line reply (seen after).version } ≡ answered_room_line (seen before) line
calm-step before line after reply (inl done) same low = ap (λ (it : RoomStep). record { after = it.after; reply = step_line it }) done.step
calm-step before line after reply (inr failed) same low = absurd (not-risen before.shelf.faults after.shelf.faults failed.failed.rose same (subst (λ (n : ℕ). n < 2 ^ 64 - 1) same low))

calm-line : (before : AtShelf NamedRoom) (line : List ℕ) (after : AtShelf NamedRoom) (bytes : List ℕ) → AnswersRoomLine before line after bytes → after.shelf.faults ≡ before.shelf.faults
    → after.shelf.faults < 2 ^ 64 - 1 → record { after = seen after; reply = bytes } ≡ answered_room_line (seen before) line
calm-line before line after bytes it same low =
    ap (λ (reply : List ℕ). record { after = seen after; reply = reply }) it.is ∙ calm-step before line after it.reply it.replies same low

pub room-calmly : (name : List ℕ) (old new : Outside) (from to : Counts) → RoomAnsweredAll name old new from to → new.shelf.faults ≡ old.shelf.faults → old.shelf.faults < 2 ^ 64 - 1 → RoomAnsweredCalmly name old new
room-calmly = calmly by_room seen answered_room_line opened_room calm-line (λ name state shelf counts. refl)
