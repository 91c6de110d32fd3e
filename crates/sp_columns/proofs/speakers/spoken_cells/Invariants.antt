use Rattle.std.proofs.Common.{◌≡◌, ◌+◌, ◌++◌, length, drop}
use Rattle.std.specs.Prelude.{All}
use Rattle.std.specs.Vec.Iter.{into_iter_items}
use Rattle.spec_pages.specs.CellParts.{CellLies}
use Rattle.spec_pages.specs.Rows.{spoken_cells}
use Rattle.sp_columns.proofs.speakers.spoken_cells.Given as goal

abbrev pub invariant-loop-cell : goal.invariant-loop-cell
invariant-loop-cell l =
    (goal.iterator-loop-cell).can_next l.cell-iterator × (goal.iterator-loop-cell).is_finite l.cell-iterator
    × (l.place + length (into_iter_items l.cell-iterator) ≡ length l.fn.cells.items)
    × All (CellLies l.lines.lines l.first) (into_iter_items l.cell-iterator)
    × (l.spoken.items ++ spoken_cells l.lines.lines l.first (drop l.place l.speakers) (into_iter_items l.cell-iterator)
    ≡ spoken_cells l.lines.lines l.first l.speakers l.fn.cells.items)
