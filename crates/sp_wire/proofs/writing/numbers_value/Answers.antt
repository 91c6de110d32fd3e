use Rattle.std.proofs.Common.{refl}
use Rattle.serde_json.specs.View.{view}
use Rattle.spec_jsonback.specs.Lists.{number_data}
use Rattle.sp_wire.proofs.Lists.{items-more}
use Rattle.sp_wire.proofs.writing.numbers_value.Goals as goal

pub loop-number-preserved : goal.loop-number-preserved
loop-number-preserved c =
    items-more view number_data _ _ _ c.args.numbers.now c.loop-number.number-index 0 _ c.loop-number-test.true refl c.in_ok-push.ensures.items c.from.ensures c.loop-number.invariant
