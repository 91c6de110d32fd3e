use Rattle.std.proofs.Common.{sym, ◌∙◌}
use Rattle.serde_json.specs.View.{view}
use Rattle.sp_records.proofs.Lists.{all-more}
use Rattle.sp_records.proofs.items.items_of.Goals as goal

pub loop-value-preserved : goal.loop-value-preserved
loop-value-preserved g c =
    all-more g.T.Item.item view c.args.values.now c.loop-value.value-index _ _ _ _ _ c.loop-value-test.true c.value-item.is (sym c.in_ok-item.ensures ∙ c.in-Some.is) c.in_ok-push-in-Some.ensures.items c.loop-value.invariant
