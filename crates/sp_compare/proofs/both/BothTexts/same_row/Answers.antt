use Rattle.std.proofs.Common.{◌≡◌, ◌<◌, All, List, get_or, map, ap, ap₂, sym, subst, ◌∙◌, eq-eqb}
use Rattle.spec_text.specs.Lines.{line_texts}
use Rattle.spec_pages.specs.Rows.{Cell, Row, shifted_cell, shifted_row}
use Rattle.spec_sheets.specs.Cells.{RowShows, ShowsParts}
use Rattle.spec_sheets.specs.Layout.{placed_in}
use Rattle.spec_sheets.specs.Shown.{no_row}
use Rattle.spec_state.specs.SameRows.{BareRow, same_row}
use Rattle.sp_layout.specs.Bodies.{keyed_elements, row_count}
use Rattle.sp_compare.specs.BareRows.{Both, bare_cells, bare_row}
use Rattle.sp_compare.proofs.RowLists.{bare-at, by-cells, other-key}
use Rattle.sp_compare.proofs.both.BothTexts.same_row.Goals as goal

pub returns-then-not-same_key : goal.returns-then-not-same_key
returns-then-not-same_key c =
    let it = c.self.inside in
    let was = c.row-one.result.row.now in
    let now = c.row_at-it.result.row.now in
    let one : BareRow = record { key = c.row-one.result.key; shape = was.shape; mark = was.mark; cells = bare_cells (line_texts it.old) c.row-one.result.first was.cells } in
    let other : BareRow = record { key = c.row_at-it.result.key; shape = now.shape; mark = now.mark; cells = bare_cells (line_texts it.new.now.lines) c.row_at-it.result.first now.cells } in
    sym (ap (λ (b : Both). same_row (bare_row b.old (get_or (placed_in b.olds) c.args.row no_row)) (bare_row b.new (get_or (placed_in b.news) c.args.other no_row))) (sym c.self.view_is)
    ∙ ap₂ same_row
    (bare-at it.old it.olds c.args.row c.row-one.result.first was c.row-one.result.key no_row c.self.invariant.0 (subst (λ (b : Both). c.args.row < row_count b.olds) (sym c.self.view_is) c.requires.row) (c.row-one.ensures.row no_row) c.row-one.ensures.key)
    (bare-at it.new.now.lines (keyed_elements it.news.now) c.args.other c.row_at-it.result.first now c.row_at-it.result.key no_row c.self.invariant.1 (subst (λ (b : Both). c.args.other < row_count b.news) (sym c.self.view_is) c.requires.other) (c.row_at-it.ensures.row no_row) c.row_at-it.ensures.key)
    ∙ other-key one other (sym c.same_key.ensures ∙ c.if-not-same_key.true))

pub same_cells-requires-clause-olds : goal.same_cells-requires-clause-olds
same_cells-requires-clause-olds c =
    let it = c.self.inside in
    let first = c.row-one.result.first in
    let inside = subst (λ (b : Both). c.args.row < row_count b.olds) (sym c.self.view_is) c.requires.row in
    let shows : RowShows (line_texts it.old) (shifted_row first c.row-one.result.row.now) = subst (RowShows (line_texts it.old)) (c.row-one.ensures.row no_row) (c.self.invariant.0.show c.args.row no_row inside) in
    subst (λ (cells : List Cell). All (ShowsParts (line_texts it.old)) (map (shifted_cell first) cells)) (sym c.cells_of.ensures) shows.cells

pub returns : goal.returns
returns c =
    let it = c.self.inside in
    let was-with = λ (cells : List Cell). let row : Row = record { line = c.was.inside.line; row = c.was.inside.row; mark = c.was.inside.mark; shape = c.was.inside.shape; cells = cells } in row in
    let now-with = λ (cells : List Cell). let row : Row = record { line = c.now.inside.line; row = c.now.inside.row; mark = c.now.inside.mark; shape = c.now.inside.shape; cells = cells } in row in
    let was = was-with c.cells_of.result.now in
    let now = now-with c.cells_of-2.result.now in
    let is-was : was ≡ c.row-one.result.row.now = ap was-with (c.cells_of.ensures ∙ sym (ap (λ (row : Row). row.cells) c.was.view_is)) ∙ c.was.view_is in
    let is-now : now ≡ c.row_at-it.result.row.now = ap now-with (c.cells_of-2.ensures ∙ sym (ap (λ (row : Row). row.cells) c.now.view_is)) ∙ c.now.view_is in
    let one : BareRow = record { key = c.row-one.result.key; shape = was.shape; mark = was.mark; cells = bare_cells (line_texts it.old) c.row-one.result.first was.cells } in
    let other : BareRow = record { key = c.row_at-it.result.key; shape = now.shape; mark = now.mark; cells = bare_cells (line_texts it.new.now.lines) c.row_at-it.result.first now.cells } in
    c.same_cells.ensures
    ∙ sym (ap (λ (b : Both). same_row (bare_row b.old (get_or (placed_in b.olds) c.args.row no_row)) (bare_row b.new (get_or (placed_in b.news) c.args.other no_row))) (sym c.self.view_is)
    ∙ ap₂ same_row
    (bare-at it.old it.olds c.args.row c.row-one.result.first was c.row-one.result.key no_row c.self.invariant.0 (subst (λ (b : Both). c.args.row < row_count b.olds) (sym c.self.view_is) c.requires.row) (c.row-one.ensures.row no_row ∙ ap (shifted_row c.row-one.result.first) (sym is-was)) c.row-one.ensures.key)
    (bare-at it.new.now.lines (keyed_elements it.news.now) c.args.other c.row_at-it.result.first now c.row_at-it.result.key no_row c.self.invariant.1 (subst (λ (b : Both). c.args.other < row_count b.news) (sym c.self.view_is) c.requires.other) (c.row_at-it.ensures.row no_row ∙ ap (shifted_row c.row_at-it.result.first) (sym is-now)) c.row_at-it.ensures.key)
    ∙ by-cells one other (sym c.same_key.ensures ∙ c.if-not-same_key.false) (sym c.same_shape.ensures ∙ c.if-not-same_shape.false) (eq-eqb was.mark now.mark c.if-was-now.false))
