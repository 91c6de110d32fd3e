use Rattle.std.proofs.Common.{ap, ◌∙◌}
use Rattle.serde_json.specs.Data.{string}
use Rattle.serde_json.specs.View.{view}
use Rattle.sp_wire.proofs.Lists.{texts-more}
use Rattle.sp_wire.proofs.writing.texts_value.Goals as goal

pub loop-text-preserved : goal.loop-text-preserved
loop-text-preserved c =
    texts-more view _ _ _ _ _ _ c.loop-text-test.true c.text-item.is c.in_ok-push.ensures.items (c.in_ok-try_from_str.ensures ∙ ap string c.as_str.ensures.value) c.loop-text.invariant
