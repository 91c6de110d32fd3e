use Rattle.std.proofs.Common.{◌≡◌, ◌+◌, ◌*◌, ◌≤◌, length}
use Rattle.spec_sheets.specs.PageRows.{page_height}
use Rattle.sp_print.proofs.SlotLaws.{height_from}
use Rattle.sp_print.proofs.slots.page_height.Given as goal

abbrev pub invariant-loop-row : goal.invariant-loop-row
invariant-loop-row l = record {
  count : l.count + height_from l.last l.rows ≡ page_height l.fn.rows;
  low : l.count + 256 * length l.rows ≤ 2 + 256 * 16777216;
}

abbrev pub decreases-loop-row : goal.decreases-loop-row
decreases-loop-row l = length l.rows
