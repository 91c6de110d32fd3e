use Rattle.std.proofs.Common.{◌≡◌, ◌+◌, ◌++◌, length, take, drop}
use Rattle.spec_pages.specs.Rows.{shaped_rows}
use Rattle.sp_columns.proofs.shaping.shape_rows.Given as goal

-- The rows so far have their shapes, and the others will.
abbrev pub invariant-loop-row : goal.invariant-loop-row
invariant-loop-row l = record {
  count : l.index + l.rest ≡ length l.initial.rows;
  place : l.index ≡ l.row-index;
  shaped : take l.row-index l.rows ++ shaped_rows l.lead l.row-index (drop l.row-index l.rows) ≡ shaped_rows l.lead 0 l.initial.rows;
}
