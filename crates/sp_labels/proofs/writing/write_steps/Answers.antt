use Rattle.std.proofs.Common.{◌+◌, drop}
use Rattle.std.specs.Prelude.{flat_map}
use Rattle.sp_kit.proofs.Writing.{writes_as, writes_then, writes_failed}
use Rattle.spec_labels.specs.Labels.{step_text}
use Rattle.sp_labels.proofs.WrittenSteps.{steps-split}
use Rattle.sp_labels.proofs.writing.write_steps.Goals as goal

pub returns-in_err-write_step : goal.returns-in_err-write_step
returns-in_err-write_step g c =
    let path = c.args.path.now in
    let i = c.loop-step.step-index in
    writes_as (steps-split path i 0 c.loop-step-test.true)
    (writes_then c.loop-step.invariant (writes_failed (flat_map step_text (drop (i + 1) path)) c.in_err-write_step.ensures c.from_residual.ensures.0))
