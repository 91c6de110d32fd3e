use Rattle.std.proofs.Common.{rules}
use Rattle.sp_title.proofs.keys.begins_with_centred_key.Goals as goal

pub returns-then-begins_with_word-4 : goal.returns-then-begins_with_word-4
returns-then-begins_with_word-4 c = search rules

pub returns-else-begins_with_word-4 : goal.returns-else-begins_with_word-4
returns-else-begins_with_word-4 c = search rules
