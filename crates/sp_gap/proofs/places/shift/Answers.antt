use Rattle.std.proofs.Common.{arith}
use Rattle.sp_gap.specs.Moves.{shifted}
use Rattle.sp_gap.proofs.MoveLaws.{shift-step}
use Rattle.sp_gap.proofs.places.shift.Goals as goal

pub loop-place-preserved : goal.loop-place-preserved
loop-place-preserved c =
    shift-step (shifted c.args.less c.args.more) 0 c.args.places.now c.loop-place.places c.loop-place.place-index (omega (arith, c.loop-place-test.true, c.loop-place.auto.places)) c.loop-place.invariant
