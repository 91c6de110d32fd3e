use Rattle.std.proofs.Common.{◌≡◌, ℕ, ◌+◌, ◌<◌, ◌^◌, true, List, [], ◌∷◌, ◌++◌, length, ap, sym, ◌∙◌, subst}
use Rattle.std.specs.Str.{bytes_eq}
use Rattle.spec_wire.specs.Commands.{redo}
use Rattle.spec_room.specs.Rooms.{RoomState, kept_changes, last_of, room_step_of}
use Rattle.sp_wire.specs.Values.{reply_of}
use Rattle.sp_room.specs.Changes.{range_of}
use Rattle.sp_room.specs.Owners.{OwnerOf, IsLast, MovesLast}
use Rattle.sp_room.specs.Answers.{line_of}
use Rattle.sp_room.specs.Inside.{room_of}
use Rattle.sp_room.specs.declared.change.Change.{Change}
use Rattle.sp_room.proofs.Answering.{Answered, redo_answered, not-false, moves_as}
use Rattle.sp_room.proofs.room.Room.redo.Given.{Over}
use Rattle.sp_room.proofs.room.Room.redo.Goals as goal
use Rattle.sp_room.proofs.room.Room.redo.Goals.{After-remember}

stepped : (g : Over) (c : After-remember g) (seen : ℕ) → Answered (room_of c.self.inside.desk c.self.inside.version c.self.inside.changes.items c.self.inside.done.items c.self.inside.undone.items)
    (line_of c.args.seat.now seen redo) c.ask-2.new.desk (c.self.inside.version + 1) c.remember.new.changes.items c.move_last.new.to.items c.move_last.new.from.items (reply_of c.in_ok-reply.reply)
stepped g c seen =
    let it = c.self.inside in
    let few : length it.desk.state.lines < 2 ^ 64 = subst (λ (r : RoomState). length r.desk.state.lines < 2 ^ 64) (sym c.self.view_is) c.requires.lines in
    let last : IsLast it.undone.items c.in-Some.owner.now = subst (λ (owners : List OwnerOf). IsLast owners c.in-Some.owner.now) c.deref.ensures.value c.in-Some.ensures.some in
    let range : range_of c.owner.inside.range ≡ c.in-Some.owner.now.range = ap (λ (o : OwnerOf). o.range) c.owner.view_is in
    let name : c.as_str.result.now ≡ c.in-Some.owner.now.seat = c.as_str.ensures.value ∙ ap (λ (o : OwnerOf). o.seat) c.owner.view_is in
    let equal : bytes_eq c.as_str.result.now c.args.seat.now ≡ true = not-false (bytes_eq c.as_str.result.now c.args.seat.now) c.if-ne.ensures in
    let own : bytes_eq c.in-Some.owner.now.seat c.args.seat.now ≡ true = ap (λ (s : List ℕ). bytes_eq s c.args.seat.now) (sym name) ∙ equal in
    let remembered : c.remember.new.changes.items ≡ last_of kept_changes (it.changes.items ++ c.owner.inside.range ∷ []) =
    c.remember.ensures ∙ ap (λ (changes : List Change). last_of kept_changes (changes ++ c.owner.inside.range ∷ [])) c.in_ok-make_room.ensures.changes in
    let moved : MovesLast it.undone.items c.make_room.new.owners.items c.move_last.new.from.items c.move_last.new.to.items = c.move_last.ensures in
    redo_answered it.desk c.ask-2.new.desk it.version it.changes.items c.remember.new.changes.items it.done.items it.undone.items c.move_last.new.to.items c.move_last.new.from.items
    c.args.seat.now seen last.before c.in-Some.owner.now (c.owner.inside.range) (reply_of c.in_ok-reply.reply)
    c.self.invariant few last.split own range c.in_ok-reply.ensures.step c.in_ok-reply.ensures.unrefused remembered
    (moves_as c.in_ok-make_room.ensures.owners moved)

pub invariant_of-self-2 : goal.invariant_of-self-2
invariant_of-self-2 g c = (stepped g (goal.at.invariant_of-self-2 g c).After-remember 0).keeps

pub returns-clause-step : goal.returns-clause-step
returns-clause-step g c = λ (seen : ℕ). (stepped g (goal.at.returns-clause-step g c).After-remember seen).step ∙ ap (λ (r : RoomState). room_step_of r (line_of c.args.seat.now seen redo)) c.self.view_is
