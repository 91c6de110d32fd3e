use Rattle.std.proofs.Common.{rules}
use Rattle.sp_session.proofs.answering.end_of.Goals as goal

pub returns-in-TooMany : goal.returns-in-TooMany
returns-in-TooMany c = search rules
