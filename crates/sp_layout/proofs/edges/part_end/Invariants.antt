use Rattle.std.proofs.Common.{◌≤◌, ◌<◌, ℕ, drop, slice_range}
use Rattle.spec_edit.specs.RelaidStanzas.{ClosesApart, OpensApart}
use Rattle.sp_layout.proofs.edges.part_end.Given as goal

-- No edge lies before those that were passed, or right behind them.
abbrev pub invariant-loop-place : goal.invariant-loop-place
invariant-loop-place l = record {
  opens : (i : ℕ) → l.to ≤ i → i < l.place → OpensApart (drop i l.stanzas.stanzas) → ⊥;
  closes : (i : ℕ) → l.to < i → i ≤ l.place → ClosesApart (slice_range l.stanzas.stanzas l.to i) → ⊥;
}
