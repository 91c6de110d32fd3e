use Rattle.std.proofs.Common.{◌≡◌, ℕ, ◌<◌, ◌≤◌, true}
use Rattle.std.specs.Ordering.{is_lt}
use Rattle.spec_labels.specs.Labels.{label_cmp}
use Rattle.sp_contents.specs.Walks.{label_at}
use Rattle.sp_contents.proofs.entries.gone_below.Given as goal

abbrev pub invariant-loop-place : goal.invariant-loop-place
invariant-loop-place l = (k : ℕ) → l.from ≤ k → k < l.place → is_lt (label_cmp (label_at l.gone k) l.label) ≡ true
