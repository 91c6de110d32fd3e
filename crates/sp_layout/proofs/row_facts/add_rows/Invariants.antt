use Rattle.std.proofs.Common.{◌≡◌, ◌+◌, ◌-◌, ◌≤◌, ◌++◌, length, map, take}
use Rattle.spec_pages.specs.Rows.{Row, shifted_row}
use Rattle.spec_sheets.specs.Shown.{row_key}
use Rattle.sp_layout.proofs.row_facts.add_rows.Given as goal

-- What is asked of the rows so far, and room for the others.
abbrev pub invariant-loop-row : goal.invariant-loop-row
invariant-loop-row l = record {
  shapes : l.shapes.items ≡ l.fn.shapes.items ++ map (λ (row : Row). row.shape) (map (shifted_row l.element.first) (take l.row-index l.element.rows));
  marks : l.marks.items ≡ l.fn.marks.items ++ map (λ (row : Row). row.mark) (map (shifted_row l.element.first) (take l.row-index l.element.rows));
  keys : l.keys.items ≡ l.fn.keys.items ++ map (row_key l.lines.lines) (map (shifted_row l.element.first) (take l.row-index l.element.rows));
  shapes_room : length l.shapes.items + (length l.element.rows - l.row-index) ≤ l.shapes.room;
  marks_room : length l.marks.items + (length l.element.rows - l.row-index) ≤ l.marks.room;
  keys_room : length l.keys.items + (length l.element.rows - l.row-index) ≤ l.keys.room;
}
