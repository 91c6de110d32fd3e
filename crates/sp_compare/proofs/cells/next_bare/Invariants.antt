use Rattle.std.proofs.Common.{◌≡◌, ◌-◌, ◌≤◌, drop, length}
use Rattle.spec_sheets.specs.Cells.{without_numbers}
use Rattle.sp_compare.proofs.cells.next_bare.Given as goal

abbrev pub invariant-loop-place : goal.invariant-loop-place
invariant-loop-place l = record {
  within : l.place ≤ length l.cells;
  same : without_numbers (drop l.from l.cells) ≡ without_numbers (drop l.place l.cells);
}

abbrev pub decreases-loop-place : goal.decreases-loop-place
decreases-loop-place l = length l.cells - l.place
