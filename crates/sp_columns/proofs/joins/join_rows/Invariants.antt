use Rattle.std.proofs.Common.{◌≡◌, ◌+◌, ◌≤◌, ◌++◌, length, map, take, drop}
use Rattle.std.specs.Vec.Iter.{into_iter_items}
use Rattle.spec_pages.specs.Rows.{half_row, joined_rows}
use Rattle.sp_columns.proofs.joins.join_rows.Given as goal

-- The rows so far are joined, and the others will be.
abbrev pub invariant-loop-row : goal.invariant-loop-row
invariant-loop-row l = record {
  joined : take l.row-index l.row-items ++ joined_rows (drop l.row-index l.row-items) (into_iter_items l.others) ≡ joined_rows l.fn.rows.items l.fn.right.items;
  few : length (into_iter_items l.others) ≤ length l.fn.right.items;
}

abbrev pub invariant-loop-other : goal.invariant-loop-other
invariant-loop-other l =
    (goal.iterator-loop-other).can_next l.other-iterator × (goal.iterator-loop-other).is_finite l.other-iterator
    × (length l.rows.items + length (into_iter_items l.other-iterator) ≤ length l.fn.rows.items + length l.fn.right.items)
    × (l.rows.items ++ map half_row (into_iter_items l.other-iterator) ≡ joined_rows l.fn.rows.items l.fn.right.items)
