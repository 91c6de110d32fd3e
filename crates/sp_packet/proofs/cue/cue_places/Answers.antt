use Rattle.std.proofs.Common.{rules}
use Rattle.sp_packet.proofs.cue.cue_places.Goals as goal

pub returns : goal.returns
returns c = search rules
