use Rattle.std.proofs.Common.{◌≡◌, ◌<◌, length, take, drop}
use Rattle.std.specs.Prelude.{All}
use Rattle.std.specs.Option.{option_copied}
use Rattle.spec_text.specs.Lines.{line_texts}
use Rattle.spec_sheets.specs.Cells.{RowShows}
use Rattle.spec_sheets.specs.Layout.{placed_in}
use Rattle.spec_sheets.specs.Shown.{shown_rows}
use Rattle.sp_print.proofs.row_cursor.RowCursor.next.Given as goal

abbrev pub invariant-loop-element : goal.invariant-loop-element
invariant-loop-element l = record {
  some : 0 < l.self-inside.left;
  rows : take l.self-inside.left (drop l.self-inside.skip (shown_rows l.self-inside.lines.now.lines (option_copied l.self-inside.numbers) l.self-inside.elements.now)) ≡ l.fn.self;
  show : All (RowShows (line_texts l.self-inside.lines.now.lines)) (placed_in l.self-inside.elements.now);
}

abbrev pub decreases-loop-element : goal.decreases-loop-element
decreases-loop-element l = length l.self-inside.elements.now
