use Rattle.std.proofs.Common.{List, length, ap, ◌∙◌, sym, subst, arith}
use Rattle.std.specs.Prelude.{All}
use Rattle.std.proofs.lemmas.Grind.{common_steps}
use Rattle.spec_labels.specs.Labels.{LabelOf, IsLabel}
use Rattle.spec_labels.proofs.HeadingLabels.{unlocked_labels-IsLabel, length-unlocked_labels}
use Rattle.sp_scenes.proofs.numbering.unlocked.Goals as goal

pub loop-heading-preserved : goal.loop-heading-preserved
loop-heading-preserved c = grind (arith, common_steps)

pub returns-clause-numbers : goal.returns-clause-numbers
returns-clause-numbers c = grind (arith, common_steps)

pub returns-clause-labels : goal.returns-clause-labels
returns-clause-labels c = subst (λ (ls : List LabelOf). All IsLabel ls) (sym (returns-clause-numbers c)) (unlocked_labels-IsLabel c.args.headings.now c.requires.numbered)

pub returns-clause-count : goal.returns-clause-count
returns-clause-count c = ap length (returns-clause-numbers c) ∙ length-unlocked_labels c.args.headings.now
