use Rattle.std.proofs.Common.{◌≡◌, ◌+◌, ◌<◌, ◌≤◌, length, drop, slice_get, ap, sym, ◌∙◌, arith, length-append}
use Rattle.std.proofs.lemmas.Grind.{common_steps}
use Rattle.spec_text.specs.Lines.{line_texts}
use Rattle.spec_text.proofs.ListLaws.{slice_get-front}
use Rattle.spec_pages.specs.Rows.{shifted_cell}
use Rattle.spec_sheets.specs.Cells.{ShowsParts, shown_cell}
use Rattle.sp_print.specs.Views.{cell_views}
use Rattle.sp_print.proofs.ListPlaces.{All-image, slice_get-past}
use Rattle.sp_print.proofs.PartsLent.{row_views, views-here, length-cell_views}
use Rattle.sp_print.proofs.row_cells.RowCells.part.Goals as goal

pub cell_part-requires-clause-shows : goal.cell_part-requires-clause-shows
cell_part-requires-clause-shows c =
    let inside = c.self.inside in
    All-image (ShowsParts (line_texts inside.lines.now.lines)) (shifted_cell inside.first) inside.cells.now c.loop-cell.cell-index c.cell-item.result c.self.invariant.1 c.loop-cell-test.true c.cell-item.is

pub returns-then-left-count-clause-view : goal.returns-then-left-count-clause-view
returns-then-left-count-clause-view c =
    let inside = c.self.inside in
    let texts = line_texts inside.lines.now.lines in
    let cells = inside.cells.now in
    let i = c.loop-cell.cell-index in
    let cell = c.cell-item.result in
    let here = views-here texts inside.first inside.unnumbered cells i cell c.loop-cell-test.true c.cell-item.is (sym c.is_left_out.ensures ∙ c.if-is_left_out.false) in
    let front = cell_views (shown_cell texts (shifted_cell inside.first cell)) in
    let parts = length-cell_views texts (shifted_cell inside.first cell) in
    let within : c.loop-cell.left < length front = omega (arith, parts, c.if-left-count.true, c.part_count-count.ensures.value) in
    sym c.loop-cell.invariant.part ∙ ap (λ vs. slice_get vs c.loop-cell.left) here
    ∙ slice_get-front front (row_views texts inside.first inside.unnumbered (drop (i + 1) cells)) c.loop-cell.left within
    ∙ c.cell_part.ensures.view

pub loop-cell-preserved : goal.loop-cell-preserved
loop-cell-preserved c =
    let inside = c.self.inside in
    let texts = line_texts inside.lines.now.lines in
    let cells = inside.cells.now in
    let i = c.loop-cell.cell-index in
    let cell = c.cell-item.result in
    let here = views-here texts inside.first inside.unnumbered cells i cell c.loop-cell-test.true c.cell-item.is (sym c.is_left_out.ensures ∙ c.if-is_left_out.false) in
    let front = cell_views (shown_cell texts (shifted_cell inside.first cell)) in
    let rest = row_views texts inside.first inside.unnumbered (drop (i + 1) cells) in
    let parts = length-cell_views texts (shifted_cell inside.first cell) in
    let size = length-append front rest in
    let all = ap length here in
    let past : c.part_count-count.result ≤ c.loop-cell.left = omega (arith, c.if-left-count.false) in
    let count : length front ≡ c.part_count-count.result = omega (arith, parts, c.part_count-count.ensures.value) in
    record {
      within = omega (arith, c.loop-cell.invariant.within, all, size, count, past);
      part = sym (slice_get-past front rest c.loop-cell.left c.part_count-count.result count past) ∙ sym (ap (λ vs. slice_get vs c.loop-cell.left) here) ∙ c.loop-cell.invariant.part;
    }

pub loop-cell-preserved-then-is_left_out : goal.loop-cell-preserved-then-is_left_out
loop-cell-preserved-then-is_left_out c = grind (arith, common_steps)
