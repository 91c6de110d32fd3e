use Rattle.std.proofs.Common.{rules, arith}
use Rattle.std.proofs.lemmas.Grind.{common_steps}
use Rattle.sp_blocks.proofs.blocks.left_blocks.Goals as goal

pub returns-then-is_title_page : goal.returns-then-is_title_page
returns-then-is_title_page c = grind (arith, common_steps)

pub returns-then-is_speech : goal.returns-then-is_speech
returns-then-is_speech c = search rules

pub returns : goal.returns
returns c = search rules
