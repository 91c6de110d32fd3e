use Rattle.std.proofs.Common.{◌≡◌, ◌+◌, ◌*◌, ◌^◌, ◌≤◌, length, drop, map}
use Rattle.spec_text.specs.Lines.{line_texts}
use Rattle.spec_pages.specs.Rows.{shifted_cell}
use Rattle.spec_sheets.specs.Cells.{shown_cell}
use Rattle.sp_print.specs.Views.{kept_cells, cells_views}
use Rattle.sp_print.proofs.row_cells.RowCells.count.Given as goal

abbrev pub invariant-loop-cell : goal.invariant-loop-cell
invariant-loop-cell l = record {
  low : l.count ≤ 2 ^ 60 * l.cell-index;
  count : l.count + length (cells_views (map (shown_cell (line_texts l.self-inside.lines.now.lines)) (kept_cells l.self-inside.unnumbered (map (shifted_cell l.self-inside.first) (drop l.cell-index l.self-inside.cells.now)))))
      ≡ length (cells_views l.self);
}
