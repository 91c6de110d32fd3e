use Rattle.std.proofs.Common.{◌≡◌, ◌+◌, ◌≤◌, ◌++◌, length}
use Rattle.std.specs.Vec.Iter.{into_iter_items}
use Rattle.spec_pages.specs.Rows.{line_rows_from, text_rows}
use Rattle.sp_columns.proofs.lines.add_rows.Given as goal

abbrev pub invariant-loop-row : goal.invariant-loop-row
invariant-loop-row l =
    (goal.iterator-loop-row).can_next l.row-iterator × (goal.iterator-loop-row).is_finite l.row-iterator
    × (length l.rows.items + length (into_iter_items l.row-iterator) ≤ length l.fn.rows.items + 4096)
    × (l.number + length (into_iter_items l.row-iterator) ≤ 4096)
    × (l.rows.items ++ line_rows_from l.context l.line l.number (into_iter_items l.row-iterator) ≡ l.fn.rows.items ++ text_rows l.context l.line)
