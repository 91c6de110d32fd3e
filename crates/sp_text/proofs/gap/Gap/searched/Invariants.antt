use Rattle.std.proofs.Common.{ℕ, ◌<◌, ◌≢◌, get_or}
use Rattle.spec_text.specs.Lines.{LineState}
use Rattle.sp_text.proofs.gap.Gap.searched.Given as goal

abbrev pub invariant-loop-place : goal.invariant-loop-place
invariant-loop-place l = (k : ℕ) (d : LineState) → k < l.place → (get_or l.self.lines k d).id ≢ l.id
