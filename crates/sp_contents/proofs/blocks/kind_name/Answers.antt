use Rattle.std.proofs.Common.{rules}
use Rattle.sp_contents.proofs.blocks.kind_name.Goals as goal

pub returns-in-Synopsis : goal.returns-in-Synopsis
returns-in-Synopsis c = search rules
