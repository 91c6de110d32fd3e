use Rattle.std.proofs.Common.{ℕ, ◌+◌, ◌<◌, List, length, sym, subst, ap}
use Rattle.std.specs.Prelude.{All}
use Rattle.spec_script.specs.Stanzas.{PlacedBlock}
use Rattle.spec_pages.specs.Rows.{Row}
use Rattle.spec_sheets.proofs.RowLaws.{dual_rows-inside}
use Rattle.sp_layout.proofs.layout.add_pair.Goals as goal

pub push-requires-clause-inside : goal.push-requires-clause-inside
push-requires-clause-inside c =
    let lines = c.args.lines.now.lines in
    let left = c.args.left.now in
    let right = c.args.right.now in
    subst (λ (first : ℕ). All (λ (row : Row). first + row.line < length lines) c.in_ok-rows.rows.items) (ap (λ (placed : PlacedBlock). placed.first) (sym c.left.view_is))
    (subst (λ (rows : List Row). All (λ (row : Row). left.first + row.line < length lines) rows) (sym c.in_ok-rows.ensures)
    (dual_rows-inside lines left.first left.block c.args.continued right.first right.block c.args.second_continued c.requires.left c.requires.right c.requires.order))
