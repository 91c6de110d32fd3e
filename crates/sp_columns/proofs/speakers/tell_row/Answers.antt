use Rattle.std.proofs.Common.{List, sym, subst}
use Rattle.std.specs.Prelude.{All}
use Rattle.spec_pages.specs.CellParts.{CellLies, RowLies}
use Rattle.spec_pages.specs.Rows.{Cell, Row}
use Rattle.sp_columns.proofs.speakers.tell_row.Goals as goal

pub spoken_cells-requires : goal.spoken_cells-requires
spoken_cells-requires c =
    let Q = CellLies c.args.lines.now.lines c.args.first in
    let lies = subst (λ (row : Row). RowLies c.args.lines.now.lines c.args.first row) (sym c.row.view_is) c.requires in
    subst (λ (cells : List Cell). All Q cells) (sym c.in_ok-cells.ensures) lies
