use Rattle.std.proofs.Common.{◌≡◌, refl, subst, sym}
use Rattle.spec_wire.specs.Commands.{CommandOf, undo, redo}
use Rattle.spec_room.specs.Holding.{Holds}
use Rattle.spec_room.specs.Kinds.{kind_of}
use Rattle.spec_room.specs.Rooms.{asked_of}
use Rattle.sp_wire.specs.Values.{command_of}
use Rattle.sp_wire.specs.declared.command.Command.{Command}
use Rattle.sp_desk.specs.Reads.{CommandReads}
use Rattle.sp_desk.specs.Fills.{CommandFills}
use Rattle.sp_room.specs.Answers.{line_of, IsRoomAnswer}
use Rattle.sp_room.specs.Counts.{RoomReads, RoomFills}
use Rattle.sp_room.proofs.Answering.{looks-same, same-room, seen-kept, stands-kept}
use Rattle.sp_room.proofs.Counting.{of-same}
use Rattle.sp_room.proofs.room.Room.apply.Goals as goal

pub returns-in-Edit : goal.returns-in-Edit
returns-in-Edit g c =
    let it = line_of c.args.seat.now c.args.seen (command_of c.args.command) in
    let holds : Holds c.args.self.now = subst Holds c.self.view_is c.self.invariant.holds in
    let step : IsRoomAnswer c.args.self.now it c.edit.new.self c.edit.result =
    subst (λ (command : Command). IsRoomAnswer c.args.self.now (line_of c.args.seat.now c.args.seen (command_of command)) c.edit.new.self c.edit.result) (sym c.in-Edit.is) c.edit.ensures.step in
    record {
      step = step;
      unrefused = c.edit.ensures.unrefused;
      same = same-room c.args.self.now c.edit.new.self it c.edit.result step;
      looks = looks-same c.args.self.now c.edit.new.self it c.edit.result holds step c.edit.ensures.unrefused;
      seen = seen-kept c.args.self.now c.edit.new.self it c.edit.result holds step c.edit.ensures.unrefused;
      stands = stands-kept c.args.self.now c.edit.new.self it c.edit.result holds step c.edit.ensures.unrefused;
      reads = subst (λ (command : Command). RoomReads c.args.self.now (line_of c.args.seat.now c.args.seen (command_of command)) c.edit.result (g.S.Steps.reads c.args.steps.now) (g.S.Steps.reads c.edit.new.steps)) (sym c.in-Edit.is)
          c.edit.ensures.reads;
      fills = subst (λ (command : Command). RoomFills c.args.self.now (line_of c.args.seat.now c.args.seen (command_of command)) c.edit.result (g.S.Steps.fills c.args.steps.now) (g.S.Steps.fills c.edit.new.steps)) (sym c.in-Edit.is)
          c.edit.ensures.fills;
    }

pub returns-in-Undo : goal.returns-in-Undo
returns-in-Undo g c =
    let it = line_of c.args.seat.now c.args.seen (command_of c.args.command) in
    let holds : Holds c.args.self.now = subst Holds c.self.view_is c.self.invariant.holds in
    let step : IsRoomAnswer c.args.self.now it c.undo.new.self c.undo.result =
    subst (λ (command : Command). IsRoomAnswer c.args.self.now (line_of c.args.seat.now c.args.seen (command_of command)) c.undo.new.self c.undo.result) (sym c.in-Undo.is) (c.undo.ensures.step c.args.seen) in
    record {
      step = step;
      unrefused = c.undo.ensures.unrefused;
      same = same-room c.args.self.now c.undo.new.self it c.undo.result step;
      looks = looks-same c.args.self.now c.undo.new.self it c.undo.result holds step c.undo.ensures.unrefused;
      seen = seen-kept c.args.self.now c.undo.new.self it c.undo.result holds step c.undo.ensures.unrefused;
      stands = stands-kept c.args.self.now c.undo.new.self it c.undo.result holds step c.undo.ensures.unrefused;
      reads = subst (λ (command : Command). RoomReads c.args.self.now (line_of c.args.seat.now c.args.seen (command_of command)) c.undo.result (g.S.Steps.reads c.args.steps.now) (g.S.Steps.reads c.undo.new.steps)) (sym c.in-Undo.is)
          (of-same (λ (command : CommandOf). CommandReads c.args.self.now.desk.state command c.undo.result (g.S.Steps.reads c.args.steps.now) (g.S.Steps.reads c.undo.new.steps)) (g.S.Steps.reads c.undo.new.steps ≡ g.S.Steps.reads c.args.steps.now) undo
          (asked_of c.args.self.now c.args.seat.now c.args.seen (kind_of undo)) (λ kind. refl) c.undo.ensures.reads c.undo.ensures.reads);
      fills = subst (λ (command : Command). RoomFills c.args.self.now (line_of c.args.seat.now c.args.seen (command_of command)) c.undo.result (g.S.Steps.fills c.args.steps.now) (g.S.Steps.fills c.undo.new.steps)) (sym c.in-Undo.is)
          (of-same (λ (command : CommandOf). CommandFills c.args.self.now.desk.state command c.undo.result (g.S.Steps.fills c.args.steps.now) (g.S.Steps.fills c.undo.new.steps)) (g.S.Steps.fills c.undo.new.steps ≡ g.S.Steps.fills c.args.steps.now) undo
          (asked_of c.args.self.now c.args.seat.now c.args.seen (kind_of undo)) (λ kind. refl) c.undo.ensures.fills c.undo.ensures.fills);
    }

pub returns-in-Redo : goal.returns-in-Redo
returns-in-Redo g c =
    let it = line_of c.args.seat.now c.args.seen (command_of c.args.command) in
    let holds : Holds c.args.self.now = subst Holds c.self.view_is c.self.invariant.holds in
    let step : IsRoomAnswer c.args.self.now it c.redo.new.self c.redo.result =
    subst (λ (command : Command). IsRoomAnswer c.args.self.now (line_of c.args.seat.now c.args.seen (command_of command)) c.redo.new.self c.redo.result) (sym c.in-Redo.is) (c.redo.ensures.step c.args.seen) in
    record {
      step = step;
      unrefused = c.redo.ensures.unrefused;
      same = same-room c.args.self.now c.redo.new.self it c.redo.result step;
      looks = looks-same c.args.self.now c.redo.new.self it c.redo.result holds step c.redo.ensures.unrefused;
      seen = seen-kept c.args.self.now c.redo.new.self it c.redo.result holds step c.redo.ensures.unrefused;
      stands = stands-kept c.args.self.now c.redo.new.self it c.redo.result holds step c.redo.ensures.unrefused;
      reads = subst (λ (command : Command). RoomReads c.args.self.now (line_of c.args.seat.now c.args.seen (command_of command)) c.redo.result (g.S.Steps.reads c.args.steps.now) (g.S.Steps.reads c.redo.new.steps)) (sym c.in-Redo.is)
          (of-same (λ (command : CommandOf). CommandReads c.args.self.now.desk.state command c.redo.result (g.S.Steps.reads c.args.steps.now) (g.S.Steps.reads c.redo.new.steps)) (g.S.Steps.reads c.redo.new.steps ≡ g.S.Steps.reads c.args.steps.now) redo
          (asked_of c.args.self.now c.args.seat.now c.args.seen (kind_of redo)) (λ kind. refl) c.redo.ensures.reads c.redo.ensures.reads);
      fills = subst (λ (command : Command). RoomFills c.args.self.now (line_of c.args.seat.now c.args.seen (command_of command)) c.redo.result (g.S.Steps.fills c.args.steps.now) (g.S.Steps.fills c.redo.new.steps)) (sym c.in-Redo.is)
          (of-same (λ (command : CommandOf). CommandFills c.args.self.now.desk.state command c.redo.result (g.S.Steps.fills c.args.steps.now) (g.S.Steps.fills c.redo.new.steps)) (g.S.Steps.fills c.redo.new.steps ≡ g.S.Steps.fills c.args.steps.now) redo
          (asked_of c.args.self.now c.args.seat.now c.args.seen (kind_of redo)) (λ kind. refl) c.redo.ensures.fills c.redo.ensures.fills);
    }

pub returns-in_default : goal.returns-in_default
returns-in_default g c =
    let it = line_of c.args.seat.now c.args.seen (command_of c.args.command) in
    let holds : Holds c.args.self.now = subst Holds c.self.view_is c.self.invariant.holds in
    let step : IsRoomAnswer c.args.self.now it c.ask_other.new.self c.ask_other.result =
    (c.ask_other.ensures.step c.args.seat.now c.args.seen) in
    record {
      step = step;
      unrefused = c.ask_other.ensures.unrefused;
      same = same-room c.args.self.now c.ask_other.new.self it c.ask_other.result step;
      looks = looks-same c.args.self.now c.ask_other.new.self it c.ask_other.result holds step c.ask_other.ensures.unrefused;
      seen = seen-kept c.args.self.now c.ask_other.new.self it c.ask_other.result holds step c.ask_other.ensures.unrefused;
      stands = stands-kept c.args.self.now c.ask_other.new.self it c.ask_other.result holds step c.ask_other.ensures.unrefused;
      reads = c.ask_other.ensures.reads c.args.seat.now c.args.seen;
      fills = c.ask_other.ensures.fills c.args.seat.now c.args.seen;
    }
