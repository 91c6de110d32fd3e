use Rattle.std.proofs.Common.{◌≡◌, ℕ, ◌+◌, ◌<◌, ◌^◌, List, [], ◌∷◌, ◌++◌, length, ap, sym, ◌∙◌, refl, subst, arith, string_bytes, Result, Ok, Err}
use Rattle.spec_wire.specs.Commands.{CommandOf, edit}
use Rattle.spec_room.specs.Kinds.{edits}
use Rattle.spec_room.specs.Rooms.{RoomState, kept_changes, last_of, asked_edit, room_step_of}
use Rattle.sp_text.specs.Changing.{edit_of}
use Rattle.sp_wire.specs.Values.{reply_of}
use Rattle.sp_wire.specs.declared.reply.Reply.{Reply}
use Rattle.sp_desk.specs.declared.fault.DeskFault.{DeskFault}
use Rattle.sp_desk.specs.declared.fault.DeskFault.TheVariants.{NoMemory, Refused}
use Rattle.sp_desk.specs.Reads.{CommandReads}
use Rattle.sp_desk.specs.Fills.{CommandFills}
use Rattle.sp_desk.proofs.Counting.{no-reads, no-fills}
use Rattle.sp_room.specs.Changes.{range_of, ranges}
use Rattle.sp_room.specs.Owners.{OwnerOf}
use Rattle.sp_room.specs.Answers.{IsRoomAnswer, line_of}
use Rattle.sp_room.specs.Counts.{RoomReads, RoomFills}
use Rattle.sp_room.specs.Inside.{room_of}
use Rattle.sp_room.specs.declared.change.Change.{Change}
use Rattle.sp_room.proofs.Answering.{Answered, edit_answered, edit_refused}
use Rattle.sp_room.proofs.Counting.{edit-asks, is-err, of-any, of-edit, of-refused}
use Rattle.sp_room.proofs.room.Room.edit.Given.{Over}
use Rattle.sp_room.proofs.room.Room.edit.Goals as goal
use Rattle.sp_room.proofs.room.Room.edit.Goals.{After-remember}

stepped : (g : Over) (c : After-remember g) → Answered (room_of c.self.inside.desk c.self.inside.version c.self.inside.changes.items c.self.inside.done.items c.self.inside.undone.items)
    (line_of c.args.seat.now c.args.seen (edit (edit_of c.args.edit))) c.ask.new.desk (c.self.inside.version + 1) c.remember.new.changes.items c.push_reserved.new.self.items c.clear.new.self.items (reply_of c.in_ok-reply.reply)
stepped g c =
    let it = c.self.inside in
    let range = c.edit_change-range.result in
    let change : Change = record { first = c.in-Ok.place; taken = range.taken; put = range.put } in
    let owner : OwnerOf = record { seat = string_bytes c.in_ok-seat.seat; range = range_of change } in
    let lines : c.args.lines ≡ length it.desk.state.lines = c.requires.lines ∙ ap (λ (r : RoomState). length r.desk.state.lines) (sym c.self.view_is) in
    let few : length it.desk.state.lines < 2 ^ 64 = omega (arith, lines) in
    let found : asked_edit (ranges it.changes.items) it.version (length it.desk.state.lines) c.args.seen (range_of range) ≡ Ok (edits (range_of change)) =
    ap (λ (n : ℕ). asked_edit (ranges it.changes.items) it.version n c.args.seen (range_of range)) (sym lines) ∙ c.in-Ok.ensures in
    let remembered : c.remember.new.changes.items ≡ last_of kept_changes (it.changes.items ++ change ∷ []) =
    c.remember.ensures ∙ ap (λ (changes : List Change). last_of kept_changes (changes ++ c.change_at-change.result ∷ [])) c.in_ok-make_room.ensures.changes
    ∙ ap (λ (made : Change). last_of kept_changes (it.changes.items ++ made ∷ [])) c.change_at-change.ensures in
    let did : c.push_reserved.new.self.items ≡ it.done.items ++ owner ∷ [] =
    c.push_reserved.ensures.items ∙ ap (λ (owners : List OwnerOf). owners ++ record { seat = string_bytes c.in_ok-seat.seat; range = range_of c.change_at-change.result } ∷ []) c.in_ok-make_room.ensures.owners
    ∙ ap (λ (made : Change). it.done.items ++ record { seat = string_bytes c.in_ok-seat.seat; range = range_of made } ∷ []) c.change_at-change.ensures in
    let undid : c.clear.new.self.items ≡ [] = c.clear.ensures.items in
    let seat : string_bytes c.in_ok-seat.seat ≡ c.args.seat.now = c.in_ok-seat.ensures.ok in
    subst (λ (seat : List ℕ). Answered (room_of it.desk it.version it.changes.items it.done.items it.undone.items) (line_of seat c.args.seen (edit (edit_of c.args.edit))) c.ask.new.desk (it.version + 1)
    c.remember.new.changes.items c.push_reserved.new.self.items c.clear.new.self.items (reply_of c.in_ok-reply.reply)) seat
    (edit_answered it.desk c.ask.new.desk it.version it.changes.items c.remember.new.changes.items it.done.items it.undone.items c.push_reserved.new.self.items c.clear.new.self.items
    (string_bytes c.in_ok-seat.seat) c.args.seen (edit_of c.args.edit) (edit_of c.moved_to.result) range c.in-Ok.place (reply_of c.in_ok-reply.reply)
    c.self.invariant few c.edit_change-range.ensures found c.moved_to.ensures c.in_ok-reply.ensures.step c.in_ok-reply.ensures.unrefused remembered did undid)

pub invariant_of-self-2 : goal.invariant_of-self-2
invariant_of-self-2 g c = (stepped g (goal.at.invariant_of-self-2 g c).After-remember).keeps

pub returns-clause-step : goal.returns-clause-step
returns-clause-step g c = (stepped g (goal.at.returns-clause-step g c).After-remember).step ∙ ap (λ (r : RoomState). room_step_of r (line_of c.args.seat.now c.args.seen (edit (edit_of c.args.edit)))) c.self.view_is

pub returns-in-Err-clause-reads : goal.returns-in-Err-clause-reads
returns-in-Err-clause-reads g c =
    let it = c.self.inside in
    let asks = edit-asks (room_of it.desk it.version it.changes.items it.done.items it.undone.items) c.args.self.now c.args.seat.now c.args.seen c.args.lines (edit_of c.args.edit) (range_of c.edit_change-range.result) _
    c.self.view_is c.requires.lines c.edit_change-range.ensures c.in-Err.ensures in
    of-refused (λ (command : CommandOf). CommandReads {T = Reply} {E = DeskFault} c.args.self.now.desk.state command (Err (Refused c.in-Err.refusal)) (g.S.Steps.reads c.args.steps.now) (g.S.Steps.reads c.args.steps.now)) (g.S.Steps.reads c.args.steps.now ≡ g.S.Steps.reads c.args.steps.now) (edit (edit_of c.args.edit)) _ _ asks refl

pub returns-in_err-seat-clause-reads : goal.returns-in_err-seat-clause-reads
returns-in_err-seat-clause-reads g c =
    is-err (λ (r : Result Reply DeskFault). RoomReads c.args.self.now (line_of c.args.seat.now c.args.seen (edit (edit_of c.args.edit))) r (g.S.Steps.reads c.args.steps.now) (g.S.Steps.reads c.args.steps.now)) NoMemory c.from_residual.result c.from_residual.ensures.1
    (of-any (λ (command : CommandOf). CommandReads {T = Reply} {E = DeskFault} c.args.self.now.desk.state command (Err NoMemory) (g.S.Steps.reads c.args.steps.now) (g.S.Steps.reads c.args.steps.now)) (g.S.Steps.reads c.args.steps.now ≡ g.S.Steps.reads c.args.steps.now) (edit (edit_of c.args.edit)) _
    (λ (command : CommandOf). no-reads Reply DeskFault c.args.self.now.desk.state command NoMemory (g.S.Steps.reads c.args.steps.now)) refl)

pub returns-in_err-make_room-clause-reads : goal.returns-in_err-make_room-clause-reads
returns-in_err-make_room-clause-reads g c =
    is-err (λ (r : Result Reply DeskFault). RoomReads c.args.self.now (line_of c.args.seat.now c.args.seen (edit (edit_of c.args.edit))) r (g.S.Steps.reads c.args.steps.now) (g.S.Steps.reads c.args.steps.now)) NoMemory c.from_residual-in_err-make_room.result c.from_residual-in_err-make_room.ensures.1
    (of-any (λ (command : CommandOf). CommandReads {T = Reply} {E = DeskFault} c.args.self.now.desk.state command (Err NoMemory) (g.S.Steps.reads c.args.steps.now) (g.S.Steps.reads c.args.steps.now)) (g.S.Steps.reads c.args.steps.now ≡ g.S.Steps.reads c.args.steps.now) (edit (edit_of c.args.edit)) _
    (λ (command : CommandOf). no-reads Reply DeskFault c.args.self.now.desk.state command NoMemory (g.S.Steps.reads c.args.steps.now)) refl)

pub returns-in_err-reply-clause-reads : goal.returns-in_err-reply-clause-reads
returns-in_err-reply-clause-reads g c =
    let it = c.self.inside in
    let change : Change = record { first = c.in-Ok.place; taken = c.edit_change-range.result.taken; put = c.edit_change-range.result.put } in
    let asks = edit-asks (room_of it.desk it.version it.changes.items it.done.items it.undone.items) c.args.self.now c.args.seat.now c.args.seen c.args.lines (edit_of c.args.edit) (range_of c.edit_change-range.result) _
    c.self.view_is c.requires.lines c.edit_change-range.ensures c.in-Ok.ensures in
    is-err (λ (r : Result Reply DeskFault). RoomReads c.args.self.now (line_of c.args.seat.now c.args.seen (edit (edit_of c.args.edit))) r (g.S.Steps.reads c.args.steps.now) (g.S.Steps.reads c.ask.new.steps)) _ c.from_residual-in_err-reply.result c.from_residual-in_err-reply.ensures.1
    (of-edit (λ (command : CommandOf). CommandReads {T = Reply} {E = DeskFault} c.args.self.now.desk.state command (Err c.in_err-reply.field-0.0) (g.S.Steps.reads c.args.steps.now) (g.S.Steps.reads c.ask.new.steps)) (g.S.Steps.reads c.ask.new.steps ≡ g.S.Steps.reads c.args.steps.now) (edit_of c.args.edit) (edit_of c.moved_to.result) (range_of change) _
    asks c.moved_to.ensures
    (subst (λ (room : RoomState). CommandReads {T = Reply} {E = DeskFault} room.desk.state (edit (edit_of c.moved_to.result)) (Err c.in_err-reply.field-0.0) (g.S.Steps.reads c.args.steps.now) (g.S.Steps.reads c.ask.new.steps)) c.self.view_is c.in_err-reply.ensures.reads))

pub returns-clause-reads : goal.returns-clause-reads
returns-clause-reads g c =
    let it = c.self.inside in
    let change : Change = record { first = c.in-Ok.place; taken = c.edit_change-range.result.taken; put = c.edit_change-range.result.put } in
    let asks = edit-asks (room_of it.desk it.version it.changes.items it.done.items it.undone.items) c.args.self.now c.args.seat.now c.args.seen c.args.lines (edit_of c.args.edit) (range_of c.edit_change-range.result) _
    c.self.view_is c.requires.lines c.edit_change-range.ensures c.in-Ok.ensures in
    of-edit (λ (command : CommandOf). CommandReads {T = Reply} {E = DeskFault} c.args.self.now.desk.state command (Ok c.in_ok-reply.reply) (g.S.Steps.reads c.args.steps.now) (g.S.Steps.reads c.ask.new.steps)) (g.S.Steps.reads c.ask.new.steps ≡ g.S.Steps.reads c.args.steps.now) (edit_of c.args.edit) (edit_of c.moved_to.result) (range_of change) _
    asks c.moved_to.ensures
    (subst (λ (room : RoomState). CommandReads {T = Reply} {E = DeskFault} room.desk.state (edit (edit_of c.moved_to.result)) (Ok c.in_ok-reply.reply) (g.S.Steps.reads c.args.steps.now) (g.S.Steps.reads c.ask.new.steps)) c.self.view_is c.in_ok-reply.ensures.reads)

pub returns-in-Err-clause-fills : goal.returns-in-Err-clause-fills
returns-in-Err-clause-fills g c =
    let it = c.self.inside in
    let asks = edit-asks (room_of it.desk it.version it.changes.items it.done.items it.undone.items) c.args.self.now c.args.seat.now c.args.seen c.args.lines (edit_of c.args.edit) (range_of c.edit_change-range.result) _
    c.self.view_is c.requires.lines c.edit_change-range.ensures c.in-Err.ensures in
    of-refused (λ (command : CommandOf). CommandFills {T = Reply} {E = DeskFault} c.args.self.now.desk.state command (Err (Refused c.in-Err.refusal)) (g.S.Steps.fills c.args.steps.now) (g.S.Steps.fills c.args.steps.now)) (g.S.Steps.fills c.args.steps.now ≡ g.S.Steps.fills c.args.steps.now) (edit (edit_of c.args.edit)) _ _ asks refl

pub returns-in_err-seat-clause-fills : goal.returns-in_err-seat-clause-fills
returns-in_err-seat-clause-fills g c =
    is-err (λ (r : Result Reply DeskFault). RoomFills c.args.self.now (line_of c.args.seat.now c.args.seen (edit (edit_of c.args.edit))) r (g.S.Steps.fills c.args.steps.now) (g.S.Steps.fills c.args.steps.now)) NoMemory c.from_residual.result c.from_residual.ensures.1
    (of-any (λ (command : CommandOf). CommandFills {T = Reply} {E = DeskFault} c.args.self.now.desk.state command (Err NoMemory) (g.S.Steps.fills c.args.steps.now) (g.S.Steps.fills c.args.steps.now)) (g.S.Steps.fills c.args.steps.now ≡ g.S.Steps.fills c.args.steps.now) (edit (edit_of c.args.edit)) _
    (λ (command : CommandOf). no-fills Reply DeskFault c.args.self.now.desk.state command NoMemory (g.S.Steps.fills c.args.steps.now)) refl)

pub returns-in_err-make_room-clause-fills : goal.returns-in_err-make_room-clause-fills
returns-in_err-make_room-clause-fills g c =
    is-err (λ (r : Result Reply DeskFault). RoomFills c.args.self.now (line_of c.args.seat.now c.args.seen (edit (edit_of c.args.edit))) r (g.S.Steps.fills c.args.steps.now) (g.S.Steps.fills c.args.steps.now)) NoMemory c.from_residual-in_err-make_room.result c.from_residual-in_err-make_room.ensures.1
    (of-any (λ (command : CommandOf). CommandFills {T = Reply} {E = DeskFault} c.args.self.now.desk.state command (Err NoMemory) (g.S.Steps.fills c.args.steps.now) (g.S.Steps.fills c.args.steps.now)) (g.S.Steps.fills c.args.steps.now ≡ g.S.Steps.fills c.args.steps.now) (edit (edit_of c.args.edit)) _
    (λ (command : CommandOf). no-fills Reply DeskFault c.args.self.now.desk.state command NoMemory (g.S.Steps.fills c.args.steps.now)) refl)

pub returns-in_err-reply-clause-fills : goal.returns-in_err-reply-clause-fills
returns-in_err-reply-clause-fills g c =
    let it = c.self.inside in
    let change : Change = record { first = c.in-Ok.place; taken = c.edit_change-range.result.taken; put = c.edit_change-range.result.put } in
    let asks = edit-asks (room_of it.desk it.version it.changes.items it.done.items it.undone.items) c.args.self.now c.args.seat.now c.args.seen c.args.lines (edit_of c.args.edit) (range_of c.edit_change-range.result) _
    c.self.view_is c.requires.lines c.edit_change-range.ensures c.in-Ok.ensures in
    is-err (λ (r : Result Reply DeskFault). RoomFills c.args.self.now (line_of c.args.seat.now c.args.seen (edit (edit_of c.args.edit))) r (g.S.Steps.fills c.args.steps.now) (g.S.Steps.fills c.ask.new.steps)) _ c.from_residual-in_err-reply.result c.from_residual-in_err-reply.ensures.1
    (of-edit (λ (command : CommandOf). CommandFills {T = Reply} {E = DeskFault} c.args.self.now.desk.state command (Err c.in_err-reply.field-0.0) (g.S.Steps.fills c.args.steps.now) (g.S.Steps.fills c.ask.new.steps)) (g.S.Steps.fills c.ask.new.steps ≡ g.S.Steps.fills c.args.steps.now) (edit_of c.args.edit) (edit_of c.moved_to.result) (range_of change) _
    asks c.moved_to.ensures
    (subst (λ (room : RoomState). CommandFills {T = Reply} {E = DeskFault} room.desk.state (edit (edit_of c.moved_to.result)) (Err c.in_err-reply.field-0.0) (g.S.Steps.fills c.args.steps.now) (g.S.Steps.fills c.ask.new.steps)) c.self.view_is c.in_err-reply.ensures.fills))

pub returns-clause-fills : goal.returns-clause-fills
returns-clause-fills g c =
    let it = c.self.inside in
    let change : Change = record { first = c.in-Ok.place; taken = c.edit_change-range.result.taken; put = c.edit_change-range.result.put } in
    let asks = edit-asks (room_of it.desk it.version it.changes.items it.done.items it.undone.items) c.args.self.now c.args.seat.now c.args.seen c.args.lines (edit_of c.args.edit) (range_of c.edit_change-range.result) _
    c.self.view_is c.requires.lines c.edit_change-range.ensures c.in-Ok.ensures in
    of-edit (λ (command : CommandOf). CommandFills {T = Reply} {E = DeskFault} c.args.self.now.desk.state command (Ok c.in_ok-reply.reply) (g.S.Steps.fills c.args.steps.now) (g.S.Steps.fills c.ask.new.steps)) (g.S.Steps.fills c.ask.new.steps ≡ g.S.Steps.fills c.args.steps.now) (edit_of c.args.edit) (edit_of c.moved_to.result) (range_of change) _
    asks c.moved_to.ensures
    (subst (λ (room : RoomState). CommandFills {T = Reply} {E = DeskFault} room.desk.state (edit (edit_of c.moved_to.result)) (Ok c.in_ok-reply.reply) (g.S.Steps.fills c.args.steps.now) (g.S.Steps.fills c.ask.new.steps)) c.self.view_is c.in_ok-reply.ensures.fills)

pub returns-in_err-reply-clause-step : goal.returns-in_err-reply-clause-step
returns-in_err-reply-clause-step g c =
    let it = c.self.inside in
    let line = line_of c.args.seat.now c.args.seen (edit (edit_of c.args.edit)) in
    let lines : c.args.lines ≡ length it.desk.state.lines = c.requires.lines ∙ ap (λ (r : RoomState). length r.desk.state.lines) (sym c.self.view_is) in
    let found : asked_edit (ranges it.changes.items) it.version (length it.desk.state.lines) c.args.seen (range_of c.edit_change-range.result) ≡ Ok (edits (record (range_of c.edit_change-range.result) { first = c.in-Ok.place })) =
    ap (λ (n : ℕ). asked_edit (ranges it.changes.items) it.version n c.args.seen (range_of c.edit_change-range.result)) (sym lines) ∙ c.in-Ok.ensures in
    is-err (λ (r : Result Reply DeskFault). IsRoomAnswer c.args.self.now line (room_of c.ask.new.desk it.version c.make_room.new.changes.items c.make_room.new.owners.items it.undone.items) r) c.in_err-reply.field-0.0 c.from_residual-in_err-reply.result c.from_residual-in_err-reply.ensures.1
    (subst (λ (r : RoomState). IsRoomAnswer r line (room_of c.ask.new.desk it.version c.make_room.new.changes.items c.make_room.new.owners.items it.undone.items) (Err c.in_err-reply.field-0.0)) c.self.view_is
    (edit_refused it.desk c.ask.new.desk it.version it.changes.items c.make_room.new.changes.items it.done.items it.undone.items c.make_room.new.owners.items c.args.seat.now c.args.seen (edit_of c.args.edit) (edit_of c.moved_to.result)
    (range_of c.edit_change-range.result) c.in-Ok.place c.in_err-reply.field-0.0 c.edit_change-range.ensures found c.moved_to.ensures c.in_err-reply.ensures.step c.in_ok-make_room.ensures.changes c.in_ok-make_room.ensures.owners))
