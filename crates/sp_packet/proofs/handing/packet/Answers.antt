use Rattle.std.proofs.Common.{rules}
use Rattle.sp_packet.proofs.handing.packet.Goals as goal

pub returns-in-None-clause-locked : goal.returns-in-None-clause-locked
returns-in-None-clause-locked c = search rules

pub returns-in-None-clause-places : goal.returns-in-None-clause-places
returns-in-None-clause-places c = search rules
