-- A room after a command: it keeps what each room keeps, and is what the step of the definitions makes of it.
use Rattle.std.proofs.Common.{◌≡◌, ℕ, ◌+◌, ◌-◌, ◌<◌, ◌^◌, Bool, true, false, not, cond, List, [], ◌∷◌, ◌++◌, length, drop, refl, sym, ap, subst, ◌∙◌, arith, append-nil, length-append}
use Rattle.std.specs.Prelude.{IfOk, OnOk, OnErr, Option, Some, None}
use Rattle.std.specs.Str.{bytes_eq}
use Rattle.std.specs.declared.result.Result.{Result}
use Rattle.std.specs.declared.result.Result.TheVariants.{Ok, Err}
use Rattle.std.proofs.lemmas.List.{length-map, map-append, drop-map}
use Rattle.spec_text.specs.Edits.{EditOf}
use Rattle.spec_text.specs.Ranges.{RangeOf}
use Rattle.spec_wire.specs.Commands.{CommandOf, RoomLineOf, edit, undo, redo, lock_scenes, lock_pages, next_round, sheet, labels, blocks, outline, save, speakers, paper, packet}
use Rattle.spec_wire.specs.Replies.{RefusalOf, ReplyOf, is_refused, not_yours, refused}
use Rattle.spec_machine.specs.Machine.{Memory}
use Rattle.spec_machine.specs.Answers.{Step, step_by, step_of}
use Rattle.spec_machine.specs.Refusals.{refusal_to}
use Rattle.spec_room.specs.Changes.{Text, turned}
use Rattle.spec_room.specs.Kinds.{Kind, edits, undoes, redoes, forgets, looks, edit_range, edit_moved, kind_of, command_at}
use Rattle.spec_room.specs.Rooms.{RoomState, RoomStep, asked_step, room_step_by, kept_changes, last_of, but_last, asked_edit, for_owner, asked_of, change_of, room_after, room_step_to, room_step_of}
use Rattle.spec_room.specs.Standing.{StandsFor, KeepsSeen, texts_after}
use Rattle.spec_room.specs.Holding.{Holds}
use Rattle.spec_room.proofs.MachineSteps as machine
use Rattle.spec_room.proofs.RoomLaws.{holds_after, last_of-put, but_last-put}
use Rattle.spec_room.proofs.CommandLaws.{unrefused-step, taken_step}
use Rattle.spec_room.proofs.StepLaws.{unrefused-taken, refused-same, taken-seen, taken-stands}
use Rattle.sp_wire.specs.declared.reply.Reply.{Reply}
use Rattle.sp_wire.specs.Values.{reply_of, refusal_of}
use Rattle.sp_desk.specs.declared.fault.DeskFault.{DeskFault}
use Rattle.sp_desk.specs.declared.fault.DeskFault.TheVariants.{Refused, NoMemory}
use Rattle.sp_desk.specs.Answers.{step_to, IsAnswer}
use Rattle.sp_room.specs.Changes.{range_of, ranges}
use Rattle.sp_room.specs.Owners.{OwnerOf, Own, MovesLast, seats_of}
use Rattle.sp_room.specs.Asking.{MakesNoChange, is_forgetting}
use Rattle.sp_room.specs.Answers.{line_of, IsRoomAnswer}
use Rattle.sp_room.specs.Inside.{Keeps, room_of}
use Rattle.sp_room.specs.declared.change.Change.{Change}
use Rattle.sp_room.proofs.OwnerLaws.{own_edit, own_undo, own_redo, own_forgets, own_looks, seats-put, change_of-undoes, change_of-redoes}

-- ---- the parts of a room after a command that its desk took

record Went (old : RoomState) (seat : List ℕ) (asked : Kind) (desk : Memory) (version : ℕ) (changes : List Change) (did undid : List OwnerOf) : Type 0 where
  room : room_of desk version changes did undid ≡ room_after old seat asked desk
  keeps : Keeps desk version changes did undid

keeps_from : (old : RoomState) (seat : List ℕ) (asked : Kind) (desk : Memory) (version : ℕ) (changes : List Change) (did undid : List OwnerOf) → Holds old → machine.Step old.desk asked desk → length old.desk.state.lines < 2 ^ 64
    → room_of desk version changes did undid ≡ room_after old seat asked desk → Own desk did undid → Went old seat asked desk version changes did undid
keeps_from old seat asked desk version changes did undid holds step few room own = record { room = room; keeps = record { holds = subst Holds (sym room) (holds_after old seat asked desk holds step few); own = own } }

-- The ranges of the changes with one more behind.
remembered-ranges : (changes : List Change) (change : Change) → ranges (last_of kept_changes (changes ++ change ∷ [])) ≡ last_of kept_changes (ranges changes ++ range_of change ∷ [])
remembered-ranges changes change =
    let all = changes ++ change ∷ [] in
    sym (drop-map range_of (length all - kept_changes) all)
    ∙ ap (λ (n : ℕ). drop (n - kept_changes) (ranges all)) (sym (length-map all range_of))
    ∙ ap (last_of kept_changes) (map-append range_of changes (change ∷ []))

went_edit : (desk desk' : Memory) (version : ℕ) (changes changes' : List Change) (did undid did' undid' : List OwnerOf) (seat : List ℕ) (change : Change) → Keeps desk version changes did undid → machine.Step desk (edits (range_of change)) desk'
    → length desk.state.lines < 2 ^ 64 → changes' ≡ last_of kept_changes (changes ++ change ∷ []) → did' ≡ did ++ record { seat = seat; range = range_of change } ∷ [] → undid' ≡ []
    → Went (room_of desk version changes did undid) seat (edits (range_of change)) desk' (version + 1) changes' did' undid'
went_edit desk desk' version changes changes' did undid did' undid' seat change keeps step few remembered did_is undid_is =
    let owner : OwnerOf = record { seat = seat; range = range_of change } in
    let all : ranges changes' ≡ last_of kept_changes (ranges changes ++ range_of change ∷ []) = ap ranges remembered ∙ remembered-ranges changes change in
    let seats : seats_of did' ≡ seats_of did ++ seat ∷ [] = ap seats_of did_is ∙ seats-put did owner in
    let none : seats_of undid' ≡ [] = ap seats_of undid_is in
    let own : Own desk' (did ++ owner ∷ []) [] = own_edit desk (range_of change) desk' did undid seat keeps.own step in
    keeps_from (room_of desk version changes did undid) seat (edits (range_of change)) desk' (version + 1) changes' did' undid' keeps.holds step few
    (λ i. record { desk = desk'; version = version + 1; changes = all i; done = seats i; undone = none i })
    (subst (λ (owners : List OwnerOf). Own desk' owners undid') (sym did_is) (subst (λ (owners : List OwnerOf). Own desk' (did ++ owner ∷ []) owners) (sym undid_is) own))

went_undo : (desk desk' : Memory) (version : ℕ) (changes changes' : List Change) (did undid did' undid' : List OwnerOf) (seat : List ℕ) (change : Change) → Keeps desk version changes did undid → machine.Step desk undoes desk'
    → length desk.state.lines < 2 ^ 64 → change_of desk undoes ≡ range_of change ∷ [] → changes' ≡ last_of kept_changes (changes ++ change ∷ []) → MovesLast did undid did' undid'
    → Went (room_of desk version changes did undid) seat undoes desk' (version + 1) changes' did' undid'
went_undo desk desk' version changes changes' did undid did' undid' seat change keeps step few made remembered moves =
    let all : ranges changes' ≡ last_of kept_changes (ranges changes ++ change_of desk undoes) =
    ap ranges remembered ∙ remembered-ranges changes change ∙ sym (ap (λ more. last_of kept_changes (ranges changes ++ more)) made) in
    let was : seats_of did ≡ seats_of did' ++ moves.owner.seat ∷ [] = ap seats_of moves.taken ∙ seats-put did' moves.owner in
    let done : seats_of did' ≡ but_last (seats_of did) = sym (ap but_last was ∙ but_last-put (seats_of did') moves.owner.seat) in
    let last : last_of 1 (seats_of did) ≡ moves.owner.seat ∷ [] = ap (last_of 1) was ∙ last_of-put (seats_of did') moves.owner.seat in
    let undone : seats_of undid' ≡ seats_of undid ++ last_of 1 (seats_of did) = ap seats_of moves.put ∙ seats-put undid moves.owner ∙ sym (ap (λ seats. seats_of undid ++ seats) last) in
    let own : Own desk' did' (undid ++ moves.owner ∷ []) = own_undo desk desk' did undid did' moves.owner keeps.own moves.taken step in
    keeps_from (room_of desk version changes did undid) seat undoes desk' (version + 1) changes' did' undid' keeps.holds step few
    (λ i. record { desk = desk'; version = version + 1; changes = all i; done = done i; undone = undone i })
    (subst (λ (owners : List OwnerOf). Own desk' did' owners) (sym moves.put) own)

went_redo : (desk desk' : Memory) (version : ℕ) (changes changes' : List Change) (did undid did' undid' : List OwnerOf) (seat : List ℕ) (change : Change) → Keeps desk version changes did undid → machine.Step desk redoes desk'
    → length desk.state.lines < 2 ^ 64 → change_of desk redoes ≡ range_of change ∷ [] → changes' ≡ last_of kept_changes (changes ++ change ∷ []) → MovesLast undid did undid' did'
    → Went (room_of desk version changes did undid) seat redoes desk' (version + 1) changes' did' undid'
went_redo desk desk' version changes changes' did undid did' undid' seat change keeps step few made remembered moves =
    let all : ranges changes' ≡ last_of kept_changes (ranges changes ++ change_of desk redoes) =
    ap ranges remembered ∙ remembered-ranges changes change ∙ sym (ap (λ more. last_of kept_changes (ranges changes ++ more)) made) in
    let was : seats_of undid ≡ seats_of undid' ++ moves.owner.seat ∷ [] = ap seats_of moves.taken ∙ seats-put undid' moves.owner in
    let undone : seats_of undid' ≡ but_last (seats_of undid) = sym (ap but_last was ∙ but_last-put (seats_of undid') moves.owner.seat) in
    let last : last_of 1 (seats_of undid) ≡ moves.owner.seat ∷ [] = ap (last_of 1) was ∙ last_of-put (seats_of undid') moves.owner.seat in
    let done : seats_of did' ≡ seats_of did ++ last_of 1 (seats_of undid) = ap seats_of moves.put ∙ seats-put did moves.owner ∙ sym (ap (λ seats. seats_of did ++ seats) last) in
    let own : Own desk' (did ++ moves.owner ∷ []) undid' = own_redo desk desk' did undid undid' moves.owner keeps.own moves.taken step in
    keeps_from (room_of desk version changes did undid) seat redoes desk' (version + 1) changes' did' undid' keeps.holds step few
    (λ i. record { desk = desk'; version = version + 1; changes = all i; done = done i; undone = undone i })
    (subst (λ (owners : List OwnerOf). Own desk' owners undid') (sym moves.put) own)

-- ---- the answer to a command that the desk took

pub record Answered (old : RoomState) (it : RoomLineOf) (desk : Memory) (version : ℕ) (changes : List Change) (did undid : List OwnerOf) (reply : ReplyOf) : Type 0 where
  pub keeps : Keeps desk version changes did undid
  pub step : room_step_to (room_of desk version changes did undid) reply ≡ room_step_of old it

answered_by : (old : RoomState) (it : RoomLineOf) (asked : Kind) (desk : Memory) (version : ℕ) (changes : List Change) (did undid : List OwnerOf) (reply : ReplyOf) → asked_of old it.seat it.seen (kind_of it.command) ≡ Ok asked
    → step_to desk reply ≡ step_of old.desk (command_at it.command asked) → is_refused reply ≡ false → Went old it.seat asked desk version changes did undid → Answered old it desk version changes did undid reply
answered_by old it asked desk version changes did undid reply asks step free went = record {
  keeps = went.keeps;
  step = ap (λ (room : RoomState). room_step_to room reply) went.room ∙ taken_step old it asked desk reply asks step free;
}

-- An edit that was taken at its present place.
pub edit_answered : (desk desk' : Memory) (version : ℕ) (changes changes' : List Change) (did undid did' undid' : List OwnerOf) (seat : List ℕ) (seen : ℕ) (it moved : EditOf) (range : Change) (place : ℕ) (reply : ReplyOf)
    → Keeps desk version changes did undid → length desk.state.lines < 2 ^ 64 → range_of range ≡ edit_range it
    → asked_edit (ranges changes) version (length desk.state.lines) seen (range_of range) ≡ Ok (edits (record { first = place; old = range.taken; new = range.put }))
    → moved ≡ edit_moved it place → step_to desk' reply ≡ step_of desk (edit moved) → is_refused reply ≡ false
    → changes' ≡ last_of kept_changes (changes ++ record { first = place; taken = range.taken; put = range.put } ∷ [])
    → did' ≡ did ++ record { seat = seat; range = record { first = place; old = range.taken; new = range.put } } ∷ [] → undid' ≡ []
    → Answered (room_of desk version changes did undid) (line_of seat seen (edit it)) desk' (version + 1) changes' did' undid' reply
edit_answered desk desk' version changes changes' did undid did' undid' seat seen it moved range place reply keeps few range_is found moved_is step free remembered did_is undid_is =
    let change : Change = record { first = place; taken = range.taken; put = range.put } in
    let old = room_of desk version changes did undid in
    let line = line_of seat seen (edit it) in
    let asked = edits (range_of change) in
    let asks : asked_of old seat seen (kind_of (edit it)) ≡ Ok asked = ap (asked_edit (ranges changes) version (length desk.state.lines) seen) (sym range_is) ∙ found in
    let at : step_to desk' reply ≡ step_of desk (command_at (edit it) asked) = step ∙ ap (λ (e : EditOf). step_of desk (edit e)) moved_is in
    let made = unrefused-step old line asked desk' reply asks at free in
    answered_by old line asked desk' (version + 1) changes' did' undid' reply asks at free
    (went_edit desk desk' version changes changes' did undid did' undid' seat change keeps made few remembered did_is undid_is)

-- An undo or a redo is asked of the desk where the last owner is the seat.
for_owner-own : (kind : Kind) (seat owner : List ℕ) (owners : List (List ℕ)) → last_of 1 owners ≡ owner ∷ [] → bytes_eq owner seat ≡ true → for_owner kind seat (last_of 1 owners) ≡ Ok kind
for_owner-own kind seat owner owners last own =
    ap (for_owner kind seat) last ∙ ap (λ b. cond b (Ok kind) (Err (not_yours owner))) own

-- The seat of the last owner stands last among the seats.
last_seat : (owners before : List OwnerOf) (owner : OwnerOf) → owners ≡ before ++ owner ∷ [] → last_of 1 (seats_of owners) ≡ owner.seat ∷ []
last_seat owners before owner split = ap (λ (it : List OwnerOf). last_of 1 (seats_of it)) split ∙ ap (last_of 1) (seats-put before owner) ∙ last_of-put (seats_of before) owner.seat

pub undo_answered : (desk desk' : Memory) (version : ℕ) (changes changes' : List Change) (did undid did' undid' : List OwnerOf) (seat : List ℕ) (seen : ℕ) (before : List OwnerOf) (owner : OwnerOf) (change : Change) (reply : ReplyOf)
    → Keeps desk version changes did undid → length desk.state.lines < 2 ^ 64 → did ≡ before ++ owner ∷ [] → bytes_eq owner.seat seat ≡ true → range_of change ≡ turned owner.range
    → step_to desk' reply ≡ step_of desk undo → is_refused reply ≡ false
    → changes' ≡ last_of kept_changes (changes ++ change ∷ []) → MovesLast did undid did' undid'
    → Answered (room_of desk version changes did undid) (line_of seat seen undo) desk' (version + 1) changes' did' undid' reply
undo_answered desk desk' version changes changes' did undid did' undid' seat seen before owner change reply keeps few split own change_is step free remembered moves =
    let old = room_of desk version changes did undid in
    let line = line_of seat seen undo in
    let asks : asked_of old seat seen undoes ≡ Ok undoes = for_owner-own undoes seat owner.seat (seats_of did) (last_seat did before owner split) own in
    let made = unrefused-step old line undoes desk' reply asks step free in
    let makes : change_of desk undoes ≡ range_of change ∷ [] = change_of-undoes desk did undid before owner keeps.own split ∙ ap (λ r. r ∷ []) (sym change_is) in
    answered_by old line undoes desk' (version + 1) changes' did' undid' reply asks step free
    (went_undo desk desk' version changes changes' did undid did' undid' seat change keeps made few makes remembered moves)

pub redo_answered : (desk desk' : Memory) (version : ℕ) (changes changes' : List Change) (did undid did' undid' : List OwnerOf) (seat : List ℕ) (seen : ℕ) (before : List OwnerOf) (owner : OwnerOf) (change : Change) (reply : ReplyOf)
    → Keeps desk version changes did undid → length desk.state.lines < 2 ^ 64 → undid ≡ before ++ owner ∷ [] → bytes_eq owner.seat seat ≡ true → range_of change ≡ owner.range
    → step_to desk' reply ≡ step_of desk redo → is_refused reply ≡ false
    → changes' ≡ last_of kept_changes (changes ++ change ∷ []) → MovesLast undid did undid' did'
    → Answered (room_of desk version changes did undid) (line_of seat seen redo) desk' (version + 1) changes' did' undid' reply
redo_answered desk desk' version changes changes' did undid did' undid' seat seen before owner change reply keeps few split own change_is step free remembered moves =
    let old = room_of desk version changes did undid in
    let line = line_of seat seen redo in
    let asks : asked_of old seat seen redoes ≡ Ok redoes = for_owner-own redoes seat owner.seat (seats_of undid) (last_seat undid before owner split) own in
    let made = unrefused-step old line redoes desk' reply asks step free in
    let makes : change_of desk redoes ≡ range_of change ∷ [] = change_of-redoes desk did undid before owner keeps.own split ∙ ap (λ r. r ∷ []) (sym change_is) in
    answered_by old line redoes desk' (version + 1) changes' did' undid' reply asks step free
    (went_redo desk desk' version changes changes' did undid did' undid' seat change keeps made few makes remembered moves)

-- ---- the answer to a command that makes no change

-- No change more is remembered.
no_more : (version : ℕ) (changes : List Change) (desk : Memory) (did undid : List OwnerOf) → Keeps desk version changes did undid → last_of kept_changes (ranges changes ++ []) ≡ ranges changes
no_more version changes desk did undid keeps =
    let kept = keeps.holds.kept in
    let few : length (ranges changes ++ []) - kept_changes ≡ 0 = omega (arith, kept, ap length (append-nil (ranges changes))) in
    ap (λ (n : ℕ). drop n (ranges changes ++ [])) few ∙ append-nil (ranges changes)

went_forgets : (desk desk' : Memory) (version : ℕ) (changes : List Change) (did undid did' undid' : List OwnerOf) (seat : List ℕ) → Keeps desk version changes did undid → machine.Step desk forgets desk' → length desk.state.lines < 2 ^ 64
    → did' ≡ [] → undid' ≡ [] → Went (room_of desk version changes did undid) seat forgets desk' version changes did' undid'
went_forgets desk desk' version changes did undid did' undid' seat keeps step few did_is undid_is =
    let same = sym (no_more version changes desk did undid keeps) in
    let up : version ≡ version + 0 = omega arith in
    let none : seats_of did' ≡ [] = ap seats_of did_is in
    let nor : seats_of undid' ≡ [] = ap seats_of undid_is in
    keeps_from (room_of desk version changes did undid) seat forgets desk' version changes did' undid' keeps.holds step few
    (λ i. record { desk = desk'; version = up i; changes = same i; done = none i; undone = nor i })
    (subst (λ (owners : List OwnerOf). Own desk' owners undid') (sym did_is) (subst (λ (owners : List OwnerOf). Own desk' [] owners) (sym undid_is) (own_forgets desk desk' step)))

went_looks : (desk desk' : Memory) (version : ℕ) (changes : List Change) (did undid : List OwnerOf) (seat : List ℕ) → Keeps desk version changes did undid → machine.Step desk looks desk' → length desk.state.lines < 2 ^ 64
    → Went (room_of desk version changes did undid) seat looks desk' version changes did undid
went_looks desk desk' version changes did undid seat keeps step few =
    let same = sym (no_more version changes desk did undid keeps) in
    let up : version ≡ version + 0 = omega arith in
    keeps_from (room_of desk version changes did undid) seat looks desk' version changes did undid keeps.holds step few
    (λ i. record { desk = desk'; version = up i; changes = same i; done = seats_of did; undone = seats_of undid })
    (own_looks desk desk' did undid keeps.own step)

-- What isn't an edit at a place is asked as it is.
pub same-command : (command : CommandOf) (kind : Kind) → ((range : RangeOf) → kind ≡ edits range → ⊥) → command_at command kind ≡ command
same-command (edit it) (edits range) none = absurd (none range refl)
same-command (edit it) undoes none = refl
same-command (edit it) redoes none = refl
same-command (edit it) forgets none = refl
same-command (edit it) looks none = refl
same-command undo kind none = refl
same-command redo kind none = refl
same-command lock_scenes kind none = refl
same-command lock_pages kind none = refl
same-command next_round kind none = refl
same-command (speakers on) kind none = refl
same-command (paper size) kind none = refl
same-command (sheet index) kind none = refl
same-command labels kind none = refl
same-command blocks kind none = refl
same-command outline kind none = refl
same-command save kind none = refl
same-command packet kind none = refl

-- A command that empties what can be undone and redone.
pub forgets_answered : (desk desk' : Memory) (version : ℕ) (changes : List Change) (did undid did' undid' : List OwnerOf) (it : RoomLineOf) (reply : ReplyOf) → Keeps desk version changes did undid → length desk.state.lines < 2 ^ 64
    → kind_of it.command ≡ forgets → step_to desk' reply ≡ step_of desk it.command → is_refused reply ≡ false → did' ≡ [] → undid' ≡ [] → Answered (room_of desk version changes did undid) it desk' version changes did' undid' reply
forgets_answered desk desk' version changes did undid did' undid' it reply keeps few kind step free did_is undid_is =
    let old = room_of desk version changes did undid in
    let asks : asked_of old it.seat it.seen (kind_of it.command) ≡ Ok forgets = ap (asked_of old it.seat it.seen) kind in
    let at : step_to desk' reply ≡ step_of desk (command_at it.command forgets) = step ∙ ap (step_of desk) (sym (same-command it.command forgets (λ range is. absurd (let bad : ⊥ = cc in bad)))) in
    let made = unrefused-step old it forgets desk' reply asks at free in
    answered_by old it forgets desk' version changes did' undid' reply asks at free (went_forgets desk desk' version changes did undid did' undid' it.seat keeps made few did_is undid_is)

-- Any other command that makes no change.
pub looks_answered : (desk desk' : Memory) (version : ℕ) (changes : List Change) (did undid : List OwnerOf) (it : RoomLineOf) (reply : ReplyOf) → Keeps desk version changes did undid → length desk.state.lines < 2 ^ 64
    → kind_of it.command ≡ looks → step_to desk' reply ≡ step_of desk it.command → is_refused reply ≡ false → Answered (room_of desk version changes did undid) it desk' version changes did undid reply
looks_answered desk desk' version changes did undid it reply keeps few kind step free =
    let old = room_of desk version changes did undid in
    let asks : asked_of old it.seat it.seen (kind_of it.command) ≡ Ok looks = ap (asked_of old it.seat it.seen) kind in
    let at : step_to desk' reply ≡ step_of desk (command_at it.command looks) = step ∙ ap (step_of desk) (sym (same-command it.command looks (λ range is. absurd (let bad : ⊥ = cc in bad)))) in
    let made = unrefused-step old it looks desk' reply asks at free in
    answered_by old it looks desk' version changes did undid reply asks at free (went_looks desk desk' version changes did undid it.seat keeps made few)

-- Commands that make no change are of one of two kinds.
pub no-change : (kind : Kind) → MakesNoChange kind → is_forgetting kind ≡ true → kind ≡ forgets
no-change forgets none is = refl
no-change looks none is = absurd (let bad : ⊥ = cc in bad)
no-change (edits range) none is = absurd none
no-change undoes none is = absurd none
no-change redoes none is = absurd none

pub no-change-looks : (kind : Kind) → MakesNoChange kind → is_forgetting kind ≡ false → kind ≡ looks
no-change-looks forgets none is = absurd (let bad : ⊥ = cc in bad)
no-change-looks looks none is = refl
no-change-looks (edits range) none is = absurd none
no-change-looks undoes none is = absurd none
no-change-looks redoes none is = absurd none

-- ---- the answer to a command that the desk refused, or for which there was no memory

-- A desk that refuses a command, or finds no memory for it, is as it was.
pub same-desk : (old : Memory) (command : CommandOf) (new : Memory) (result : Result Reply DeskFault) → IsAnswer old command new result → OnErr result (new ≡ old)
same-desk old command new (Ok reply) answer = tt
same-desk old command new (Err (Refused reason)) answer =
    ap (λ (s : Step). s.after) answer ∙ machine.refused-same old command (refusal_of reason) (ap (λ (s : Step). s.reply) (sym answer))
same-desk old command new (Err NoMemory) answer = answer

-- So is the room, and it answers what its desk does.
pub refused_answered : (old : RoomState) (it : RoomLineOf) (asked : Kind) (desk : Memory) (fault : DeskFault) → asked_of old it.seat it.seen (kind_of it.command) ≡ Ok asked
    → IsAnswer old.desk (command_at it.command asked) desk (Err fault) → IsRoomAnswer old it (record old { desk = desk }) (Err fault)
refused_answered old it asked desk (Refused reason) asks answer =
    ap (λ (m : Memory). room_step_to (record old { desk = m }) (refused (refusal_of reason))) (same-desk old.desk (command_at it.command asked) desk (Err (Refused reason)) answer)
    ∙ ap (asked_step old it.seat asked) answer ∙ sym (ap (room_step_by old it) asks)
refused_answered old it asked desk NoMemory asks answer = ap (λ (m : Memory). record old { desk = m }) answer

-- An edit that was refused at its present place, or for which there was no memory.
pub edit_refused : (desk desk' : Memory) (version : ℕ) (changes changes' : List Change) (did undid did' : List OwnerOf) (seat : List ℕ) (seen : ℕ) (it moved : EditOf) (range : RangeOf) (place : ℕ) (fault : DeskFault)
    → range ≡ edit_range it → asked_edit (ranges changes) version (length desk.state.lines) seen range ≡ Ok (edits (record range { first = place }))
    → moved ≡ edit_moved it place → IsAnswer desk (edit moved) desk' (Err fault) → changes' ≡ changes → did' ≡ did
    → IsRoomAnswer (room_of desk version changes did undid) (line_of seat seen (edit it)) (room_of desk' version changes' did' undid) (Err fault)
edit_refused desk desk' version changes changes' did undid did' seat seen it moved range place fault range_is found moved_is answer same_changes same_did =
    let old = room_of desk version changes did undid in
    let line = line_of seat seen (edit it) in
    let asked = edits (record range { first = place }) in
    let asks : asked_of old seat seen (kind_of (edit it)) ≡ Ok asked = ap (asked_edit (ranges changes) version (length desk.state.lines) seen) (sym range_is) ∙ found in
    let at : IsAnswer desk (command_at (edit it) asked) desk' (Err fault) = subst (λ (e : EditOf). IsAnswer desk (edit e) desk' (Err fault)) moved_is answer in
    subst (λ (now : List Change). IsRoomAnswer old line (room_of desk' version now did' undid) (Err fault)) (sym same_changes)
    (subst (λ (now : List OwnerOf). IsRoomAnswer old line (room_of desk' version changes now undid) (Err fault)) (sym same_did) (refused_answered old line asked desk' fault asks at))

-- ---- what follows from the answer of a room

pub same-room : (old new : RoomState) (it : RoomLineOf) (result : Result Reply DeskFault) → IsRoomAnswer old it new result → OnErr result (new ≡ old)
same-room old new it (Ok reply) answer = tt
same-room old new it (Err (Refused reason)) answer = refused-same old it new (refusal_of reason) answer
same-room old new it (Err NoMemory) answer = answer

-- A command that only looks leaves a desk as it was.
looks-desk : (memory : Memory) (command : CommandOf) → kind_of command ≡ looks → (step_of memory (command_at command looks)).after ≡ memory
looks-desk memory command kind = subst (λ (it : CommandOf). (step_of memory it).after ≡ memory) (sym (same-command command looks (λ range is. absurd (let bad : ⊥ = cc in bad)))) (by command kind (refusal_to memory command))
  where
    by : (command : CommandOf) → kind_of command ≡ looks → (refusal : Option RefusalOf) → (step_by memory command refusal).after ≡ memory
    by command kind (Some reason) = refl
    by (sheet index) kind None = refl
    by labels kind None = refl
    by blocks kind None = refl
    by outline kind None = refl
    by save kind None = refl
    by packet kind None = refl
    by command kind None = absurd (let bad : ⊥ = cc in bad)

looks-after : (old : RoomState) (seat : List ℕ) → Holds old → room_after old seat looks old.desk ≡ old
looks-after old seat holds =
    let kept = holds.kept in
    let long = length-append old.changes [] in
    let none : length (old.changes ++ []) - kept_changes ≡ 0 = omega (arith, long, kept) in
    let changes : last_of kept_changes (old.changes ++ []) ≡ old.changes = ap (λ (n : ℕ). drop n (old.changes ++ [])) none ∙ append-nil old.changes in
    let version : old.version + 0 ≡ old.version = omega arith in
    λ i. record { desk = old.desk; version = version i; changes = changes i; done = old.done; undone = old.undone }

pub looks-same : (old new : RoomState) (it : RoomLineOf) (result : Result Reply DeskFault) → Holds old → IsRoomAnswer old it new result → IfOk result (λ reply. is_refused (reply_of reply) ≡ false)
    → kind_of it.command ≡ looks → new ≡ old
looks-same old new it (Ok reply) holds answer free kind =
    let made = step_of old.desk (command_at it.command looks) in
    let at : room_step_to new (reply_of reply) ≡ asked_step old it.seat looks made = answer ∙ ap (room_step_by old it) (ap (asked_of old it.seat it.seen) kind) in
    let taken : is_refused made.reply ≡ false = ap (λ (s : RoomStep). is_refused s.reply) (sym at) ∙ free in
    ap (λ (s : RoomStep). s.after) at ∙ ap (λ (b : Bool). cond b old (room_after old it.seat looks made.after)) taken
    ∙ ap (λ (m : Memory). room_after old it.seat looks m) (looks-desk old.desk it.command kind) ∙ looks-after old it.seat holds
looks-same old new it (Err fault) holds answer free kind = same-room old new it (Err fault) answer

pub seen-kept : (old new : RoomState) (it : RoomLineOf) (result : Result Reply DeskFault) → Holds old → IsRoomAnswer old it new result → IfOk result (λ reply. is_refused (reply_of reply) ≡ false)
    → (texts : List Text) → StandsFor old texts → OnOk result (KeepsSeen old texts it.seen (kind_of it.command) new)
seen-kept old new it (Ok reply) holds answer free texts stands = taken-seen old it new texts holds stands (unrefused-taken old it new (reply_of reply) answer free)
seen-kept old new it (Err fault) holds answer free texts stands = tt

pub stands-kept : (old new : RoomState) (it : RoomLineOf) (result : Result Reply DeskFault) → Holds old → IsRoomAnswer old it new result → IfOk result (λ reply. is_refused (reply_of reply) ≡ false)
    → (texts : List Text) → StandsFor old texts → OnOk result (StandsFor new (texts_after texts (kind_of it.command) new.desk.state.lines))
stands-kept old new it (Ok reply) holds answer free texts stands = taken-stands old it new texts holds stands (unrefused-taken old it new (reply_of reply) answer free)
stands-kept old new it (Err fault) holds answer free texts stands = tt

-- ---- small helps

pub not-false : (b : Bool) → false ≡ not b → b ≡ true
not-false true e = refl
not-false false e = absurd (cc)

-- The same move, where the list that is added to has the same owners.
pub moves_as : {from to to2 from' to' : List OwnerOf} → to ≡ to2 → MovesLast from to from' to' → MovesLast from to2 from' to'
moves_as same moves = record { owner = moves.owner; taken = moves.taken; put = moves.put ∙ ap (λ (owners : List OwnerOf). owners ++ moves.owner ∷ []) same }
