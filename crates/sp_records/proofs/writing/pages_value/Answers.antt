use Rattle.serde_json.specs.View.{view}
use Rattle.spec_records.specs.RecordFile.{page_data}
use Rattle.sp_records.proofs.Lists.{items-more}
use Rattle.sp_records.proofs.writing.pages_value.Goals as goal

pub loop-page-preserved : goal.loop-page-preserved
loop-page-preserved c =
    items-more view page_data _ _ _ _ _ _ c.loop-page-test.true c.page-item.is c.in_ok-push.ensures.items c.in_ok-page_value.ensures c.loop-page.invariant
