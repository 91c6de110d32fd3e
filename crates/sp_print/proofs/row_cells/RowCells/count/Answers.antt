use Rattle.std.proofs.Common.{◌+◌, length, drop, ap, sym, ◌∙◌, arith, length-append}
use Rattle.spec_text.specs.Lines.{line_texts}
use Rattle.spec_pages.specs.Rows.{shifted_cell}
use Rattle.spec_sheets.specs.Cells.{shown_cell}
use Rattle.sp_print.specs.Views.{cell_views}
use Rattle.sp_print.proofs.PartsLent.{row_views, views-here, length-cell_views}
use Rattle.sp_print.proofs.row_cells.RowCells.count.Goals as goal

pub loop-cell-preserved : goal.loop-cell-preserved
loop-cell-preserved c =
    let inside = c.self.inside in
    let texts = line_texts inside.lines.now.lines in
    let cells = inside.cells.now in
    let i = c.loop-cell.cell-index in
    let cell = c.cell-item.result in
    let here = ap length (views-here texts inside.first inside.unnumbered cells i cell c.loop-cell-test.true c.cell-item.is (sym c.is_left_out.ensures ∙ c.if-is_left_out.false)) in
    let size = length-append (cell_views (shown_cell texts (shifted_cell inside.first cell))) (row_views texts inside.first inside.unnumbered (drop (i + 1) cells)) in
    let parts = length-cell_views texts (shifted_cell inside.first cell) in
    let low = c.loop-cell.invariant.low in
    let count = c.loop-cell.invariant.count in
    record { low = omega (arith, c.part_count-count.ensures.bound); count = omega (arith, here, size, parts, count, c.part_count-count.ensures.value) }
