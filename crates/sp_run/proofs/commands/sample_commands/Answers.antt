use Rattle.std.proofs.Common.{arith, map}
use Rattle.std.proofs.lemmas.Grind.{common_steps}
use Rattle.spec_sample.proofs.SampleSteps.{edits-more}
use Rattle.sp_wire.specs.Values.{command_of}
use Rattle.sp_run.proofs.commands.sample_commands.Goals as goal

pub loop-behind-preserved : goal.loop-behind-preserved
loop-behind-preserved c = edits-more (map command_of c.loop-behind.commands.items) _ _ c.args.rooms c.loop-behind.behind c.loop-behind-test.true c.loop-behind.invariant c.in_ok-add_edits.ensures

pub returns : goal.returns
returns c = grind (arith, common_steps)
