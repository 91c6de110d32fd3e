use Rattle.std.proofs.Common.{◌≡◌, ℕ, ◌<◌, ◌^◌, List, [], length, ap, sym, ◌∙◌, subst, Result, Ok, Err}
use Rattle.spec_wire.specs.Commands.{CommandOf, RoomLineOf}
use Rattle.spec_room.specs.Kinds.{kind_of}
use Rattle.spec_room.specs.Rooms.{RoomState, room_step_to, room_step_of}
use Rattle.sp_wire.specs.Values.{command_of, reply_of}
use Rattle.sp_wire.specs.declared.reply.Reply.{Reply}
use Rattle.sp_desk.specs.declared.fault.DeskFault.{DeskFault}
use Rattle.sp_desk.specs.Reads.{CommandReads}
use Rattle.sp_desk.specs.Fills.{CommandFills}
use Rattle.sp_room.specs.Answers.{line_of}
use Rattle.sp_room.specs.Counts.{RoomReads, RoomFills}
use Rattle.sp_room.proofs.Answering.{no-change, no-change-looks, forgets_answered, looks_answered}
use Rattle.sp_room.proofs.Counting.{is-err, of-looks}
use Rattle.sp_room.proofs.room.Room.ask_other.Goals as goal
use Rattle.sp_room.proofs.room.Room.ask_other.Goals.{then-forgets, else-forgets}

pub invariant_of-self-then-forgets : goal.invariant_of-self-then-forgets
invariant_of-self-then-forgets g c =
    let it = c.self.inside in
    let few : length it.desk.state.lines < 2 ^ 64 = subst (λ (r : RoomState). length r.desk.state.lines < 2 ^ 64) (sym c.self.view_is) c.requires.lines in
    let kind = no-change (kind_of (command_of c.args.command)) c.requires.kind (sym c.if-forgets.ensures) in
    (forgets_answered it.desk c.ask.new.desk it.version it.changes.items it.done.items it.undone.items c.clear.new.self.items c.clear-then-forgets.new.self.items (line_of [] 0 (command_of c.args.command))
    (reply_of c.in_ok-reply.reply) c.self.invariant few kind c.in_ok-reply.ensures.step c.in_ok-reply.ensures.unrefused c.clear.ensures.items c.clear-then-forgets.ensures.items).keeps

pub invariant_of-self-else-forgets : goal.invariant_of-self-else-forgets
invariant_of-self-else-forgets g c =
    let it = c.self.inside in
    let few : length it.desk.state.lines < 2 ^ 64 = subst (λ (r : RoomState). length r.desk.state.lines < 2 ^ 64) (sym c.self.view_is) c.requires.lines in
    let kind = no-change-looks (kind_of (command_of c.args.command)) c.requires.kind (sym c.if-forgets.ensures) in
    (looks_answered it.desk c.ask.new.desk it.version it.changes.items it.done.items it.undone.items (line_of [] 0 (command_of c.args.command)) (reply_of c.in_ok-reply.reply)
    c.self.invariant few kind c.in_ok-reply.ensures.step c.in_ok-reply.ensures.unrefused).keeps

pub returns-clause-step : goal.returns-clause-step
returns-clause-step g c = λ (seat : List ℕ) (seen : ℕ).
    let it = c.self.inside in
    let line : RoomLineOf = line_of seat seen (command_of c.args.command) in
    let few : length it.desk.state.lines < 2 ^ 64 = subst (λ (r : RoomState). length r.desk.state.lines < 2 ^ 64) (sym c.self.view_is) c.requires.lines in
    let whole = ap (λ (r : RoomState). room_step_of r line) c.self.view_is in
    elim c.if-forgets.branch [
      | then-forgets w ↦
          ap (λ (r : RoomState). room_step_to r (reply_of c.in_ok-reply.reply)) w.self-is
          ∙ (forgets_answered it.desk c.ask.new.desk it.version it.changes.items it.done.items it.undone.items w.clear.new.self.items w.clear-then-forgets.new.self.items line (reply_of c.in_ok-reply.reply)
          c.self.invariant few (no-change (kind_of (command_of c.args.command)) c.requires.kind (sym w.if-forgets.ensures)) c.in_ok-reply.ensures.step c.in_ok-reply.ensures.unrefused
          w.clear.ensures.items w.clear-then-forgets.ensures.items).step
          ∙ whole
      | else-forgets w ↦
          ap (λ (r : RoomState). room_step_to r (reply_of c.in_ok-reply.reply)) w.self-is
          ∙ (looks_answered it.desk c.ask.new.desk it.version it.changes.items it.done.items it.undone.items line (reply_of c.in_ok-reply.reply)
          c.self.invariant few (no-change-looks (kind_of (command_of c.args.command)) c.requires.kind (sym w.if-forgets.ensures)) c.in_ok-reply.ensures.step c.in_ok-reply.ensures.unrefused).step
          ∙ whole
    ]

pub returns-in_err-reply-clause-reads : goal.returns-in_err-reply-clause-reads
returns-in_err-reply-clause-reads g c = λ (seat : List ℕ) (seen : ℕ).
    is-err (λ (r : Result Reply DeskFault). RoomReads c.args.self.now (line_of seat seen (command_of c.args.command)) r (g.S.Steps.reads c.args.steps.now) (g.S.Steps.reads c.ask.new.steps)) _ c.from_residual.result c.from_residual.ensures.1
    (of-looks (λ (command : CommandOf). CommandReads {T = Reply} {E = DeskFault} c.args.self.now.desk.state command (Err c.in_err-reply.field-0.0) (g.S.Steps.reads c.args.steps.now) (g.S.Steps.reads c.ask.new.steps)) (g.S.Steps.reads c.ask.new.steps ≡ g.S.Steps.reads c.args.steps.now) c.args.self.now seat seen (command_of c.args.command) c.requires.kind
    (subst (λ (room : RoomState). CommandReads {T = Reply} {E = DeskFault} room.desk.state (command_of c.args.command) (Err c.in_err-reply.field-0.0) (g.S.Steps.reads c.args.steps.now) (g.S.Steps.reads c.ask.new.steps)) c.self.view_is c.in_err-reply.ensures.reads))

pub returns-clause-reads : goal.returns-clause-reads
returns-clause-reads g c = λ (seat : List ℕ) (seen : ℕ).
    of-looks (λ (command : CommandOf). CommandReads {T = Reply} {E = DeskFault} c.args.self.now.desk.state command (Ok c.in_ok-reply.reply) (g.S.Steps.reads c.args.steps.now) (g.S.Steps.reads c.ask.new.steps)) (g.S.Steps.reads c.ask.new.steps ≡ g.S.Steps.reads c.args.steps.now) c.args.self.now seat seen (command_of c.args.command) c.requires.kind
    (subst (λ (room : RoomState). CommandReads {T = Reply} {E = DeskFault} room.desk.state (command_of c.args.command) (Ok c.in_ok-reply.reply) (g.S.Steps.reads c.args.steps.now) (g.S.Steps.reads c.ask.new.steps)) c.self.view_is c.in_ok-reply.ensures.reads)

pub returns-in_err-reply-clause-fills : goal.returns-in_err-reply-clause-fills
returns-in_err-reply-clause-fills g c = λ (seat : List ℕ) (seen : ℕ).
    is-err (λ (r : Result Reply DeskFault). RoomFills c.args.self.now (line_of seat seen (command_of c.args.command)) r (g.S.Steps.fills c.args.steps.now) (g.S.Steps.fills c.ask.new.steps)) _ c.from_residual.result c.from_residual.ensures.1
    (of-looks (λ (command : CommandOf). CommandFills {T = Reply} {E = DeskFault} c.args.self.now.desk.state command (Err c.in_err-reply.field-0.0) (g.S.Steps.fills c.args.steps.now) (g.S.Steps.fills c.ask.new.steps)) (g.S.Steps.fills c.ask.new.steps ≡ g.S.Steps.fills c.args.steps.now) c.args.self.now seat seen (command_of c.args.command) c.requires.kind
    (subst (λ (room : RoomState). CommandFills {T = Reply} {E = DeskFault} room.desk.state (command_of c.args.command) (Err c.in_err-reply.field-0.0) (g.S.Steps.fills c.args.steps.now) (g.S.Steps.fills c.ask.new.steps)) c.self.view_is c.in_err-reply.ensures.fills))

pub returns-clause-fills : goal.returns-clause-fills
returns-clause-fills g c = λ (seat : List ℕ) (seen : ℕ).
    of-looks (λ (command : CommandOf). CommandFills {T = Reply} {E = DeskFault} c.args.self.now.desk.state command (Ok c.in_ok-reply.reply) (g.S.Steps.fills c.args.steps.now) (g.S.Steps.fills c.ask.new.steps)) (g.S.Steps.fills c.ask.new.steps ≡ g.S.Steps.fills c.args.steps.now) c.args.self.now seat seen (command_of c.args.command) c.requires.kind
    (subst (λ (room : RoomState). CommandFills {T = Reply} {E = DeskFault} room.desk.state (command_of c.args.command) (Ok c.in_ok-reply.reply) (g.S.Steps.fills c.args.steps.now) (g.S.Steps.fills c.ask.new.steps)) c.self.view_is c.in_ok-reply.ensures.fills)
