use Rattle.std.proofs.Common.{◌≡◌, ◌-◌, ◌<◌, ◌≤◌, ℕ, false, length, slice_index}
use Rattle.spec_script.specs.Emphasis.{closes}
use Rattle.sp_emph.proofs.pairs.next_close.Given as goal

abbrev pub invariant-loop-index : goal.invariant-loop-index
invariant-loop-index l = record {
  order : l.from ≤ l.index;
  within : l.index ≤ length l.markers;
  skipped : (k : ℕ) → l.from ≤ k → k < l.index → closes l.line (slice_index l.markers k) ≡ false;
}

abbrev pub decreases-loop-index : goal.decreases-loop-index
decreases-loop-index l = length l.markers - l.index
