use Rattle.std.proofs.Common.{rules}
use Rattle.sp_contents.proofs.placed_speeches.walked.Goals as goal

pub returns : goal.returns
returns c = search rules
