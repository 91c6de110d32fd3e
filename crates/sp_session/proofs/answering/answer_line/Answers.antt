use Rattle.std.proofs.Common.{rules}
use Rattle.sp_session.proofs.answering.answer_line.Goals as goal

pub returns-clause-answers : goal.returns-clause-answers
returns-clause-answers g c = search rules
