use Rattle.std.proofs.Common.{arith}
use Rattle.spec_script.proofs.RunPlaces.{run-lies}
use Rattle.sp_blocks.proofs.spans.shown_text.Goals as goal

pub part_of-requires : goal.part_of-requires
part_of-requires c = run-lies c.args.text.now 0 c.args.runs.now c.loop-run.run-index _ c.requires (omega arith)
