use Rattle.std.proofs.Common.{rules}
use Rattle.sp_packet.proofs.sheets.fault_of.Goals as goal

pub returns-in-NoMemory : goal.returns-in-NoMemory
returns-in-NoMemory c = search rules
