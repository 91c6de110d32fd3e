use Rattle.std.proofs.Common.{List, sym, subst, ap}
use Rattle.std.specs.Prelude.{All}
use Rattle.spec_script.specs.Stanzas.{PlacedBlock}
use Rattle.spec_pages.specs.CellParts.{RowLies}
use Rattle.spec_pages.specs.Rows.{Row}
use Rattle.spec_pages.proofs.CellLaws.{blocks_beside-lies}
use Rattle.sp_columns.proofs.elements.dual_rows.Goals as goal

pub tell_speakers-requires : goal.tell_speakers-requires
tell_speakers-requires c =
    let lines = c.args.lines.now.lines in
    let left = c.args.left.now in
    let right = c.args.right.now in
    let first = ap (λ (placed : PlacedBlock). placed.first) (sym c.left.view_is) in
    subst (λ first. All (RowLies lines first) c.in_ok-rows.rows.items) first
    (subst (λ (rows : List Row). All (RowLies lines left.first) rows) (sym c.in_ok-rows.ensures)
    (blocks_beside-lies lines left.first left.block right.first right.block c.requires.left c.requires.right c.requires.order))
