use Rattle.sp_wire.specs.Values.{command_of}
use Rattle.sp_room.proofs.Answering.{same-desk}
use Rattle.sp_room.proofs.ask.ask.Goals as goal

pub returns-clause-same : goal.returns-clause-same
returns-clause-same g c = same-desk c.args.desk.now (command_of c.args.command) c.apply.new.self c.apply.result c.apply.ensures.step
