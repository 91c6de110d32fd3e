use Rattle.serde_json.specs.View.{view}
use Rattle.spec_wire.specs.Replies.{block_data}
use Rattle.sp_wire.proofs.Lists.{items-more}
use Rattle.sp_wire.proofs.writing.entries_value.Goals as goal

pub loop-block-preserved : goal.loop-block-preserved
loop-block-preserved c =
    items-more view block_data _ _ _ _ _ _ _ c.loop-block-test.true c.block-item.is c.in_ok-push.ensures.items c.in_ok-block_value.ensures c.loop-block.invariant
