use Rattle.std.proofs.Common.{◌≤◌, ◌<◌, ℕ, drop, take}
use Rattle.spec_edit.specs.RelaidStanzas.{ClosesApart, OpensApart}
use Rattle.sp_layout.proofs.edges.part_start.Given as goal

-- No edge lies before those that were passed, or right behind them.
abbrev pub invariant-loop-place : goal.invariant-loop-place
invariant-loop-place l = record {
  within : l.place ≤ l.at;
  opens : (i : ℕ) → l.place ≤ i → i < l.at → OpensApart (drop i l.stanzas.stanzas) → ⊥;
  closes : (i : ℕ) → l.place < i → i ≤ l.at → ClosesApart (take i l.stanzas.stanzas) → ⊥;
}

abbrev pub decreases-loop-place : goal.decreases-loop-place
decreases-loop-place l = l.place
