use Rattle.std.proofs.Common.{arith}
use Rattle.std.proofs.lemmas.Map.Text.{text_keys}
use Rattle.sp_system.proofs.known.make_room.Goals as goal

pub returns-clause-others : goal.returns-clause-others
returns-clause-others c = λ other differs. grind (arith, text_keys)

pub returns-clause-kept : goal.returns-clause-kept
returns-clause-kept c = λ name it was. grind (arith, text_keys)
