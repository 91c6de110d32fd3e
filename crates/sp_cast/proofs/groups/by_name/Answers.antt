use Rattle.std.proofs.Common.{ap, ◌∙◌}
use Rattle.std.specs.Prelude.{bytes_eq}
use Rattle.std.proofs.lemmas.List.{take_all}
use Rattle.spec_cast.specs.Groups.{grouped}
use Rattle.spec_cast.specs.Sides.{name_of}
use Rattle.spec_cast.proofs.Counts.{names-tell}
use Rattle.sp_cast.specs.Keys.{lent_text}
use Rattle.sp_cast.proofs.KeyLaws.{gathered-even, gathered-more}
use Rattle.sp_cast.proofs.groups.by_name.Goals as goal

pub add_by_name-requires : goal.add_by_name-requires
add_by_name-requires c = gathered-even lent_text bytes_eq name_of _ c.loop-said.names.keys c.loop-said.groups.items c.loop-said.invariant

pub loop-said-preserved : goal.loop-said-preserved
loop-said-preserved c =
    gathered-more lent_text bytes_eq name_of names-tell c.args.all.now c.loop-said.said-index _ c.said-item.result c.loop-said.names.keys _ c.loop-said.groups.items _
    c.loop-said-test.true c.said-item.is c.in_ok-add_by_name.ensures c.loop-said.invariant

pub returns : goal.returns
returns c = c.loop-said.invariant.groups_are ∙ ap (grouped bytes_eq name_of) (take_all c.loop-said.said-index c.args.all.now c.loop-said-test.false)
