use Rattle.serde_json.specs.View.{view}
use Rattle.spec_records.specs.RecordFile.{scene_data}
use Rattle.sp_records.proofs.Lists.{items-more}
use Rattle.sp_records.proofs.writing.scenes_value.Goals as goal

pub loop-entry-preserved : goal.loop-entry-preserved
loop-entry-preserved c =
    items-more view scene_data _ _ _ _ _ _ c.loop-entry-test.true c.entry-item.is c.in_ok-push.ensures.items c.in_ok-scene_value.ensures c.loop-entry.invariant
