-- What a session saved and left, however it ended.
use Rattle.std.proofs.Common.{◌≡◌, ℕ, zero, suc, ◌<◌, ◌⊎◌, inl, inr, Some, List, [], ◌∷◌, refl, sym, ap, subst, ◌∙◌, arith}
use Rattle.std.specs.Prelude.{Bool, true, false, if◌then◌else◌, slice_get}
use Rattle.std.specs.Str.{bytes_eq}
use Rattle.std.specs.declared.result.Result.{Result}
use Rattle.std.specs.declared.result.Result.TheVariants.{Ok, Err}
use Rattle.std.proofs.lemmas.Slice.Eq.{bytes_eq-Decides}
use Rattle.spec_session.specs.Runs.{Answered, AtShelf, Counts, Runs, left_by}
use Rattle.spec_session.specs.Sessions.{Course, EndsAs, RanOut, SessionEnds, Streams, streams}
use Rattle.spec_session.specs.declared.SessionEnd.{SessionEnd}
use Rattle.spec_session.specs.declared.SessionEnd.TheVariants as endings
use Rattle.spec_session.proofs.RunLaws.{left_by-push}
use Rattle.spec_wire.specs.Commands.{CommandOf, FaultOf, RoomLineOf}
use Rattle.spec_wire.specs.Lines.{command_of_line, room_line_of_line}
use Rattle.spec_wire.specs.Replies.{reply_line, room_reply_line}
use Rattle.spec_state.specs.State.{State}
use Rattle.spec_state.specs.Keeping.{IsWhole}
use Rattle.spec_machine.specs.Machine.{Memory, opened_memory}
use Rattle.spec_machine.specs.Answers.{Step}
use Rattle.spec_machine.specs.Sessions.{LeadsTo}
use Rattle.spec_machine.proofs.SessionLaws.{reopened-leads}
use Rattle.spec_room.specs.Rooms.{RoomState, RoomStep, opened_room}
use Rattle.sp_kit.specs.Files.{Files, ShelfState}
use Rattle.sp_run.specs.Asking.{telling}
use Rattle.sp_run.specs.DeskEnding.{HeldSession}
use Rattle.sp_run.specs.DeskLines.{AnswersLine, Leaves, NamedDesk, RepliesTo, Stores, asks_save, desk_at, desk_itself, line_step_by, memories_of, other_step, saved_step, saves}
use Rattle.sp_run.specs.RoomEnding.{HeldRoom}
use Rattle.sp_run.specs.RoomLines.{AnswersRoomLine, NamedRoom, SeatReplies, desk_in, desk_of_room, other_room, room_at, room_line_step_by, saved_room, seat_saves, seatless}
use Rattle.sp_run.specs.Reopening.{EndsInSave, HasSaved}
use Rattle.sp_run.specs.Saving.{SavesState}
use Rattle.sp_run.specs.Unopened.{Outside}
use Rattle.sp_run.proofs.DeskSessions.{by_desk}
use Rattle.sp_run.proofs.Reached.{desk-leads, room-leads, runs-few}
use Rattle.sp_run.proofs.Reopened.{save-left, saved-reopened}
use Rattle.sp_run.proofs.RoomSessions.{by_room}
use Rattle.sp_run.proofs.Touches.{Failed, Stored, Way, desk_seen, unsaved_line}

-- ---- the shelf behind the last save

stays : (asks : Bool) (before after : AtShelf NamedDesk) (bytes : List ℕ) → asks ≡ false → Stored asks before after bytes ⊎ Failed asks before after → after.shelf ≡ before.shelf
stays false before after bytes none (inl done) = done.stores
stays false before after bytes none (inr not) = absurd (let asks = not.saves in let bad : ⊥ = cc in bad)
stays true before after bytes none it = absurd (let bad : ⊥ = cc in bad)

-- Lines that ask for no save leave the shelf as it was.
unsaved-stay : (way : Way) (before : AtShelf way.how.It) (lines : List (List ℕ)) (steps : List (Answered (AtShelf way.how.It))) → Runs way.how.answers before lines steps
    → ((m : ℕ) (line : List ℕ) → slice_get lines m ≡ Some line → way.how.saves line ≡ false) → (left_by before steps).shelf ≡ before.shelf
unsaved-stay way before [] [] runs none = refl
unsaved-stay way before [] (step ∷ steps) runs none = absurd runs
unsaved-stay way before (line ∷ lines) [] runs none = absurd runs
unsaved-stay way before (line ∷ lines) (step ∷ steps) runs none =
    unsaved-stay way step.after lines steps runs.1 (λ m later is. none (suc m) later is)
    ∙ stays (way.how.saves line) (desk_seen way before) (desk_seen way step.after) step.reply (none 0 line refl) (way.touches before line step.after step.reply runs.0).stored

same-step : {R : Type 0} (one other : Answered R) → Some one ≡ Some other → one ≡ other
same-step one other same = let is : one ≡ other = cc in is

-- So they leave it as the last save left it.
saved-stay : (way : Way) (before : AtShelf way.how.It) (lines : List (List ℕ)) (steps : List (Answered (AtShelf way.how.It))) → Runs way.how.answers before lines steps
    → (k : ℕ) (step : Answered (AtShelf way.how.It)) → slice_get steps k ≡ Some step
    → ((m : ℕ) (line : List ℕ) → k < m → slice_get lines m ≡ Some line → way.how.saves line ≡ false) → (left_by before steps).shelf ≡ step.after.shelf
saved-stay way before [] [] runs k step there none = absurd (let bad : ⊥ = cc in bad)
saved-stay way before [] (one ∷ steps) runs k step there none = absurd runs
saved-stay way before (line ∷ lines) [] runs k step there none = absurd runs
saved-stay way before (line ∷ lines) (one ∷ steps) runs zero step there none =
    unsaved-stay way one.after lines steps runs.1 (λ m later is. none (suc m) later (omega arith) is) ∙ ap (λ (it : Answered (AtShelf way.how.It)). it.after.shelf) (same-step one step there)
saved-stay way before (line ∷ lines) (one ∷ steps) runs (suc k) step there none =
    saved-stay way one.after lines steps runs.1 k step there (λ m later less is. none (suc m) later (omega (arith, less)) is)

keeps-name : (way : Way) (before : AtShelf way.how.It) (lines : List (List ℕ)) (steps : List (Answered (AtShelf way.how.It))) → Runs way.how.answers before lines steps
    → (way.how.desk (left_by before steps).it).name ≡ (way.how.desk before.it).name
keeps-name way before [] [] runs = refl
keeps-name way before [] (step ∷ steps) runs = absurd runs
keeps-name way before (line ∷ lines) [] runs = absurd runs
keeps-name way before (line ∷ lines) (step ∷ steps) runs =
    keeps-name way step.after lines steps runs.1 ∙ (way.touches before line step.after step.reply runs.0).named

-- The shelf that a session leaves is that behind its last line, or want of memory ended it in a save.
ends-left : (way : Way) (old new : Streams) (before after : AtShelf way.how.It) (course : Course (AtShelf way.how.It)) (end : SessionEnd) → EndsAs way.how.stops old new before after course end
    → (after.shelf ≡ (left_by before course.steps).shelf)
    ⊎ EndsInSave (way.how.desk (left_by before course.steps).it).name (way.how.desk (left_by before course.steps).it).memory.state (left_by before course.steps).shelf after.shelf end
ends-left way old new before after course endings.Done ends = inl (ap (λ (it : AtShelf way.how.It). it.shelf) ends.replied.left)
ends-left way old new before after course endings.ReadFault ends = inl (ap (λ (it : AtShelf way.how.It). it.shelf) ends.replied.left)
ends-left way old new before after course endings.WriteFault ends =
    inl (ap (λ (it : AtShelf way.how.It). it.shelf) (ends.left ∙ sym (left_by-push before ends.done ends.last) ∙ ap (left_by before) (sym ends.split)))
ends-left way old new before after course endings.NoMemory ends = by ends.ran_out
  where
    last : AtShelf way.how.It
    last = left_by before course.steps

    halted : (asks : Bool) → Leaves asks (desk_seen way last) (desk_seen way after)
        → (after.shelf ≡ last.shelf) ⊎ EndsInSave (way.how.desk last.it).name (way.how.desk last.it).memory.state last.shelf after.shelf endings.NoMemory
    halted true leaves = inr (record { ends = refl; left = leaves })
    halted false leaves = inl leaves

    by : RanOut way.how.stops new.source.unread before after course
        → (after.shelf ≡ last.shelf) ⊎ EndsInSave (way.how.desk last.it).name (way.how.desk last.it).memory.state last.shelf after.shelf endings.NoMemory
    by (inl left) = inl (ap (λ (it : AtShelf way.how.It). it.shelf) left)
    by (inr (line, first, stops)) = halted (way.how.saves line) (way.halts last line after stops).leaves
ends-left way old new before after course (endings.CommandLong number) ends = inl (ap (λ (it : AtShelf way.how.It). it.shelf) ends.replied.left)
ends-left way old new before after course endings.InputFull ends = inl (ap (λ (it : AtShelf way.how.It). it.shelf) ends.replied.left)

-- What the last save of a session stored stands when it ended, or want of memory ended it in a further save.
session-saved : (way : Way) (old new : Streams) (begun after : AtShelf way.how.It) (left : ShelfState) (end : SessionEnd) (ends : SessionEnds way.how.answers way.how.stops old new begun after end) → left ≡ after.shelf
    → (k : ℕ) (step : Answered (AtShelf way.how.It)) (state : State) → slice_get ends.course.steps k ≡ Some step → HasSaved step.after.shelf (way.how.desk begun.it).name state
    → ((m : ℕ) (line : List ℕ) → k < m → slice_get ends.course.lines m ≡ Some line → way.how.saves line ≡ false)
    → HasSaved left (way.how.desk begun.it).name state ⊎ ((last : State) × EndsInSave (way.how.desk begun.it).name last step.after.shelf left end)
session-saved way old new begun after left end ends same k step state there saved none = by (ends-left way old new begun after ends.course end ends.ends)
  where
    name : List ℕ
    name = (way.how.desk begun.it).name

    last : AtShelf way.how.It
    last = left_by begun ends.course.steps

    behind : last.shelf ≡ step.after.shelf
    behind = saved-stay way begun ends.course.lines ends.course.steps ends.went.runs k step there none

    by : (after.shelf ≡ last.shelf) ⊎ EndsInSave (way.how.desk last.it).name (way.how.desk last.it).memory.state last.shelf after.shelf end
        → HasSaved left name state ⊎ ((other : State) × EndsInSave name other step.after.shelf left end)
    by (inl stayed) = inl (subst (λ (shelf : ShelfState). HasSaved shelf name state) (sym (same ∙ stayed ∙ behind)) saved)
    by (inr halted) =
        let named : EndsInSave name (way.how.desk last.it).memory.state last.shelf after.shelf end =
        subst (λ (n : List ℕ). EndsInSave n (way.how.desk last.it).memory.state last.shelf after.shelf end) (keeps-name way begun ends.course.lines ends.course.steps ends.went.runs) halted in
        inr (
          (way.how.desk last.it).memory.state,
          subst (λ (shelf : ShelfState). EndsInSave name (way.how.desk last.it).memory.state step.after.shelf shelf end) (sym same)
              (subst (λ (shelf : ShelfState). EndsInSave name (way.how.desk last.it).memory.state shelf after.shelf end) behind named),
        )

-- ---- a save of a desk and of a room

step-stays : (memory : Memory) (asked : Result CommandOf FaultOf) (step : Step) → step ≡ line_step_by memory asked → asks_save asked ≡ true → step.after ≡ memory
step-stays memory (Ok command) step is asks = ap (λ (it : Step). it.after) is ∙ ap (λ (b : Bool). (if b then saved_step memory else other_step memory command).after) asks
step-stays memory (Err fault) step is asks = absurd (let bad : ⊥ = cc in bad)

no-fault : (bytes : List ℕ) → bytes_eq bytes unsaved_line ≡ false → bytes ≡ unsaved_line → ⊥
no-fault bytes told same = let is = (bytes_eq-Decides bytes unsaved_line).1 same in let bad : ⊥ = cc in bad

-- A save that wasn't answered that a store failed left its files on a shelf that tells them.
pub line-saved : (before : AtShelf NamedDesk) (line : List ℕ) (after : AtShelf NamedDesk) (bytes : List ℕ) (files : Files) → AnswersLine before line after bytes → saves line ≡ true
    → bytes_eq bytes unsaved_line ≡ false → before.shelf.files ≡ Some files → HasSaved after.shelf before.it.name after.it.memory.state
line-saved before line after bytes files it asks told is = by it.replies
  where
    by : RepliesTo before (command_of_line line) after it.reply → HasSaved after.shelf before.it.name after.it.memory.state
    by (inl done) =
        let stores : SavesState before.it.name before.it.memory.state before.shelf after.shelf = subst (λ (b : Bool). Stores b before after) asks done.stores in
        subst (λ (memory : Memory). HasSaved after.shelf before.it.name memory.state)
        (sym (step-stays before.it.memory (command_of_line line) (record { after = after.it.memory; reply = it.reply }) done.step asks))
        (save-left before.it.name before.it.memory.state before.shelf after.shelf files is stores)
    by (inr failed) = absurd (no-fault bytes told (it.is ∙ ap reply_line failed.told))

room-stays : (room : RoomState) (asked : Result RoomLineOf FaultOf) (step : RoomStep) → step ≡ room_line_step_by room asked → asks_save (seatless asked) ≡ true → step.after ≡ room
room-stays room (Ok it) step is asks = ap (λ (s : RoomStep). s.after) is ∙ ap (λ (b : Bool). (if b then saved_room room else other_room room it).after) asks
room-stays room (Err fault) step is asks = absurd (let bad : ⊥ = cc in bad)

pub seat-saved : (before : AtShelf NamedRoom) (line : List ℕ) (after : AtShelf NamedRoom) (bytes : List ℕ) (files : Files) → AnswersRoomLine before line after bytes → seat_saves line ≡ true
    → bytes_eq bytes unsaved_line ≡ false → before.shelf.files ≡ Some files → HasSaved after.shelf before.it.name after.it.room.desk.state
seat-saved before line after bytes files it asks told is = by it.replies
  where
    by : SeatReplies before (room_line_of_line line) after it.reply → HasSaved after.shelf before.it.name after.it.room.desk.state
    by (inl done) =
        let stores : SavesState before.it.name before.it.room.desk.state before.shelf after.shelf = subst (λ (b : Bool). Stores b (desk_of_room before) (desk_of_room after)) asks done.stores in
        subst (λ (room : RoomState). HasSaved after.shelf before.it.name room.desk.state)
        (sym (room-stays before.it.room (room_line_of_line line) _ done.step asks))
        (save-left before.it.name before.it.room.desk.state before.shelf after.shelf files is stores)
    by (inr failed) = absurd (no-fault bytes told (it.is ∙ ap (λ reply. room_reply_line reply after.it.room.version) failed.told))

-- ---- a session of a desk

module _ {name : List ℕ} {old new : Outside} {from to : Counts} {end : SessionEnd} (held : HeldSession name old new from to end) where
  -- Accepted commands lead from the state that it opened to each memory that it had, also to that of a line whose reply wasn't written whole.
  pub held-leads : (j : ℕ) (now : Memory) → slice_get (memories_of desk_itself (opened_memory held.state) held.ends.course.steps) j ≡ Some now → LeadsTo (opened_memory held.state) now
  held-leads = desk-leads (desk_at name (opened_memory held.state) (telling old.shelf held.calls) held.opened) held.ends.course.lines held.ends.course.steps held.ends.went.runs

  -- It opened the state that an earlier session saved, where that stood on the shelf.
  pub held-reopened : (saved : State) → IsWhole saved → HasSaved old.shelf name saved → held.state ≡ saved
  held-reopened saved whole stands = saved-reopened old.shelf name saved held.state whole stands held.has

  -- So what led to the memory that was saved leads on to each of its own.
  pub held-goes-on : (earlier saved : Memory) → LeadsTo earlier saved → IsWhole saved.state → HasSaved old.shelf name saved.state → (j : ℕ) (now : Memory)
      → slice_get (memories_of desk_itself (opened_memory held.state) held.ends.course.steps) j ≡ Some now → LeadsTo earlier now
  held-goes-on earlier saved leads whole stands j now there =
      reopened-leads earlier saved now leads (subst (λ (state : State). LeadsTo (opened_memory state) now) (held-reopened saved.state whole stands) (held-leads j now there))

  -- What its last save stored stands when it ended, or want of memory ended it in a further save.
  pub held-saved : (k : ℕ) (step : Answered (AtShelf NamedDesk)) (state : State) → slice_get held.ends.course.steps k ≡ Some step → HasSaved step.after.shelf name state
      → ((m : ℕ) (line : List ℕ) → k < m → slice_get held.ends.course.lines m ≡ Some line → saves line ≡ false)
      → HasSaved new.shelf name state ⊎ ((last : State) × EndsInSave name last step.after.shelf new.shelf end)
  held-saved = session-saved by_desk (streams old.source old.sink) (streams new.source new.sink) (desk_at name (opened_memory held.state) (telling old.shelf held.calls) held.opened) held.after new.shelf end held.ends held.left

-- ---- a session of a room

module _ {name : List ℕ} {old new : Outside} {from to : Counts} {end : SessionEnd} (held : HeldRoom name old new from to end) where
  pub room-held-leads : (j : ℕ) (now : Memory) → slice_get (memories_of desk_in (opened_memory held.state) held.ends.course.steps) j ≡ Some now → LeadsTo (opened_memory held.state) now
  room-held-leads =
      let first = opened_room (opened_memory held.state) in
      room-leads first (held.state.lines ∷ []) held.ends.course.lines held.ends.course.steps held.seen
      (runs-few AnswersRoomLine (room_at name first (telling old.shelf held.calls) held.opened) held.ends.course.lines held.ends.course.steps held.ends.went.runs)

  pub room-held-reopened : (saved : State) → IsWhole saved → HasSaved old.shelf name saved → held.state ≡ saved
  room-held-reopened saved whole stands = saved-reopened old.shelf name saved held.state whole stands held.has

  pub room-held-goes-on : (earlier saved : Memory) → LeadsTo earlier saved → IsWhole saved.state → HasSaved old.shelf name saved.state → (j : ℕ) (now : Memory)
      → slice_get (memories_of desk_in (opened_memory held.state) held.ends.course.steps) j ≡ Some now → LeadsTo earlier now
  room-held-goes-on earlier saved leads whole stands j now there =
      reopened-leads earlier saved now leads (subst (λ (state : State). LeadsTo (opened_memory state) now) (room-held-reopened saved.state whole stands) (room-held-leads j now there))

  pub room-held-saved : (k : ℕ) (step : Answered (AtShelf NamedRoom)) (state : State) → slice_get held.ends.course.steps k ≡ Some step → HasSaved step.after.shelf name state
      → ((m : ℕ) (line : List ℕ) → k < m → slice_get held.ends.course.lines m ≡ Some line → seat_saves line ≡ false)
      → HasSaved new.shelf name state ⊎ ((last : State) × EndsInSave name last step.after.shelf new.shelf end)
  room-held-saved =
      session-saved by_room (streams old.source old.sink) (streams new.source new.sink) (room_at name (opened_room (opened_memory held.state)) (telling old.shelf held.calls) held.opened) held.after new.shelf end held.ends held.left
