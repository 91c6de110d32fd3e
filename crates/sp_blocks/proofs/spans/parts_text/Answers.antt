use Rattle.spec_text.proofs.PartsLaws.{Parts-Lies}
use Rattle.sp_blocks.proofs.spans.parts_text.Goals as goal

pub part_of-requires : goal.part_of-requires
part_of-requires c = Parts-Lies _ _ _ _ c.requires c.loop-part-test.true
