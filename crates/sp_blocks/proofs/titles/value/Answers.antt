use Rattle.std.proofs.Common.{rules}
use Rattle.sp_blocks.proofs.titles.value.Goals as goal

pub returns : goal.returns
returns c = search rules
