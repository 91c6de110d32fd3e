use Rattle.std.proofs.Common.{rules}
use Rattle.sp_columns.proofs.pair_speakers.goes_on.Goals as goal

pub returns-then-place-speakers : goal.returns-then-place-speakers
returns-then-place-speakers c = search rules
