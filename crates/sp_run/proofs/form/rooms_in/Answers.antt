use Rattle.std.proofs.Common.{sym, ◌∙◌}
use Rattle.sp_run.proofs.RoomWords.{rooms-refused, rooms-taken, rooms-unread}
use Rattle.sp_run.proofs.form.rooms_in.Goals as goal

pub returns-in-Ok : goal.returns-in-Ok
returns-in-Ok c = sym (rooms-taken c.in-Ok.rooms c.args.word.now (sym c.is_rooms.ensures ∙ c.if-is_rooms.true))

pub returns-in_default : goal.returns-in_default
returns-in_default c = sym (rooms-refused _ c.args.word.now c.in-Ok.rooms c.parse.result c.parse.ensures.value.0 c.in-Ok.is (sym c.is_rooms.ensures ∙ c.if-is_rooms.false))

pub returns-in_default-2 : goal.returns-in_default-2
returns-in_default-2 c = sym (rooms-unread _ c.args.word.now c.in_default.field-0 c.parse.result c.parse.ensures.value.0 c.in_default.is)
