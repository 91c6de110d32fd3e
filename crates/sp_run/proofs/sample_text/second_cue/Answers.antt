use Rattle.std.proofs.Common.{rules}
use Rattle.sp_run.proofs.sample_text.second_cue.Goals as goal

pub returns-then-room-eq0 : goal.returns-then-room-eq0
returns-then-room-eq0 c = search rules

pub returns-else-room-eq0 : goal.returns-else-room-eq0
returns-else-room-eq0 c = search rules
