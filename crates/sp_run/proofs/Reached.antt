-- The memories of a session are those that accepted commands lead to.
use Rattle.std.proofs.Common.{◌≡◌, ◌⊎◌, inl, inr, ℕ, zero, suc, Bool, true, false, cond, Option, Some, None, Result, Ok, Err, List, [], ◌∷◌, length, ◌≤◌, refl, ap, subst, arith}
use Rattle.std.specs.Prelude.{slice_get}
use Rattle.spec_wire.specs.Commands.{CommandOf, FaultOf}
use Rattle.spec_wire.specs.Lines.{command_of_line, room_line_of_line}
use Rattle.spec_wire.specs.Replies.{RefusalOf, ReplyOf}
use Rattle.spec_machine.specs.Machine.{Memory, memory_after}
use Rattle.spec_machine.specs.Refusals.{refusal_to}
use Rattle.spec_machine.specs.Sessions.{Accepts, LeadsTo}
use Rattle.spec_machine.specs.KeptMemories.{IsWholeMemory}
use Rattle.spec_machine.specs.Answers.{Step, step_by}
use Rattle.spec_machine.proofs.SessionLaws.{leads-itself, command-leads}
use Rattle.spec_session.specs.Runs.{Answered, AtShelf, Runs}
use Rattle.spec_room.specs.Changes.{Text}
use Rattle.spec_room.specs.Kinds.{command_at}
use Rattle.spec_room.specs.Rooms.{RoomState}
use Rattle.sp_run.specs.DeskLines.{AnswersLine, NamedDesk, RepliesTo, desk_itself, is_packet, is_save, line_step_by, memories_of, other_step, packet_step, saved_step}
use Rattle.sp_run.specs.RoomLines.{NamedRoom, desk_in}
use Rattle.sp_run.specs.Seats.{AreTakenSeen, IsTakenSeen}

-- A memory stays, or it is the one behind an accepted command.
abbrev Moves : Memory → Memory → Type 0
Moves old new = (new ≡ old) ⊎ ((command : CommandOf) × Accepts old command × (new ≡ memory_after old command))

moves-lead : (old new now : Memory) → Moves old new → LeadsTo new now → LeadsTo old now
moves-lead old new now (inl same) lead = subst (λ (it : Memory). LeadsTo it now) same lead
moves-lead old new now (inr (command, can, is)) lead = command-leads old now command can (subst (λ (it : Memory). LeadsTo it now) is lead)

-- ---- the lines of a desk

line-moves : (memory : Memory) (asked : Result CommandOf FaultOf) (step : Step) → step ≡ line_step_by memory asked → IsWholeMemory step.after → Moves memory step.after
line-moves memory (Err fault) step is whole = inl (ap (λ (it : Step). it.after) is)
line-moves memory (Ok command) step is whole = by-save (is_save command) is
  where
    by-refusal : (refusal : Option RefusalOf) → refusal_to memory command ≡ refusal → step ≡ step_by memory command refusal → Moves memory step.after
    by-refusal None free same =
        let there : step.after ≡ memory_after memory command = ap (λ (it : Step). it.after) same in
        let after : IsWholeMemory (memory_after memory command) = subst IsWholeMemory there whole in
        inr (command, record { free = free; text = (after.state).text }, there)
    by-refusal (Some reason) free same = inl (ap (λ (it : Step). it.after) same)

    by-packet : (b : Bool) → step ≡ cond b (packet_step memory) (step_by memory command (refusal_to memory command)) → Moves memory step.after
    by-packet true same = inl (ap (λ (it : Step). it.after) same)
    by-packet false same = by-refusal (refusal_to memory command) refl same

    by-save : (b : Bool) → step ≡ cond b (saved_step memory) (other_step memory command) → Moves memory step.after
    by-save true same = inl (ap (λ (it : Step). it.after) same)
    by-save false same = by-packet (is_packet command) same

desk-moves : (before : AtShelf NamedDesk) (asked : Result CommandOf FaultOf) (after : AtShelf NamedDesk) (reply : ReplyOf) → RepliesTo before asked after reply → IsWholeMemory after.it.memory
    → Moves before.it.memory after.it.memory
desk-moves before asked after reply (inl done) whole = line-moves before.it.memory asked (record { after = after.it.memory; reply = reply }) done.step whole
desk-moves before asked after reply (inr unsaved) whole = inl (ap (λ (it : NamedDesk). it.memory) unsaved.same)

some-one : (one other : Memory) → Some one ≡ Some other → one ≡ other
some-one one other same = let is : one ≡ other = cc in is

none-one : (memory : Memory) → None ≡ Some memory → ⊥
none-one memory same = let bad : ⊥ = cc in bad

-- Each memory of a desk.
pub desk-leads : (before : AtShelf NamedDesk) (lines : List (List ℕ)) (steps : List (Answered (AtShelf NamedDesk))) → Runs AnswersLine before lines steps
    → (j : ℕ) (now : Memory) → slice_get (memories_of desk_itself before.it.memory steps) j ≡ Some now → LeadsTo before.it.memory now
desk-leads before lines steps runs zero now is = subst (LeadsTo before.it.memory) (some-one before.it.memory now is) (leads-itself before.it.memory)
desk-leads before [] [] runs (suc j) now is = absurd (none-one now is)
desk-leads before [] (step ∷ steps) runs (suc j) now is = absurd runs
desk-leads before (line ∷ lines) [] runs (suc j) now is = absurd runs
desk-leads before (line ∷ lines) (step ∷ steps) runs (suc j) now is =
    let here = runs.0 in
    moves-lead before.it.memory step.after.it.memory now
    (desk-moves before (command_of_line line) step.after here.reply here.replies here.follows.whole)
    (desk-leads step.after lines steps runs.1 j now is)

-- ---- the lines of a room

room-moves : (old new : RoomState) (texts behind : List Text) (line : List ℕ) → IsTakenSeen old texts (room_line_of_line line) new behind → Moves old.desk new.desk
room-moves old new texts behind line (inl same) = inl (ap (λ (it : RoomState). it.desk) same.0)
room-moves old new texts behind line (inr took) = (let takes = took.takes in inr (command_at took.it.command takes.asked, takes.accepts, ap (λ (it : RoomState). it.desk) takes.room))

-- Each memory of a room.
pub room-leads : (room : RoomState) (texts : List Text) (lines : List (List ℕ)) (steps : List (Answered (AtShelf NamedRoom))) → AreTakenSeen room texts lines steps → length steps ≤ length lines
    → (j : ℕ) (now : Memory) → slice_get (memories_of desk_in room.desk steps) j ≡ Some now → LeadsTo room.desk now
room-leads room texts lines steps seen few zero now is = subst (LeadsTo room.desk) (some-one room.desk now is) (leads-itself room.desk)
room-leads room texts lines [] seen few (suc j) now is = absurd (none-one now is)
room-leads room texts [] (step ∷ steps) seen few (suc j) now is = absurd (omega (arith, few))
room-leads room texts (line ∷ lines) (step ∷ steps) seen few (suc j) now is =
    moves-lead room.desk step.after.it.room.desk now
    (room-moves room step.after.it.room texts seen.0 line seen.1)
    (room-leads step.after.it.room seen.0 lines steps seen.2 (omega (arith, few)) j now is)

-- There is a step for each line.
pub runs-few : {R : Type 0} (answers : R → List ℕ → R → List ℕ → Type 0) (before : R) (lines : List (List ℕ)) (steps : List (Answered R)) → Runs answers before lines steps → length steps ≤ length lines
runs-few answers before [] [] runs = omega arith
runs-few answers before [] (step ∷ steps) runs = absurd runs
runs-few answers before (line ∷ lines) [] runs = absurd runs
runs-few answers before (line ∷ lines) (step ∷ steps) runs = (let few = runs-few answers step.after lines steps runs.1 in omega (arith, few))
