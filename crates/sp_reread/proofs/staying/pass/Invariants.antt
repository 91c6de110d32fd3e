use Rattle.sp_reread.specs.Gaps.{IsAbove}
use Rattle.sp_reread.proofs.staying.pass.Given as goal

abbrev pub invariant-loop-kept : goal.invariant-loop-kept
invariant-loop-kept l = IsAbove l.sides.back l.left l.kept

abbrev pub decreases-loop-kept : goal.decreases-loop-kept
decreases-loop-kept l = l.kept
