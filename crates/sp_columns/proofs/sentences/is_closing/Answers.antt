use Rattle.std.proofs.Common.{rules}
use Rattle.sp_columns.proofs.sentences.is_closing.Goals as goal

pub returns-in_default : goal.returns-in_default
returns-in_default c = search rules
