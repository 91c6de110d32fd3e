use Rattle.std.proofs.Common.{◌≡◌, ◌*◌, ◌≤◌, ◌++◌, length, drop}
use Rattle.std.specs.List.{flat_map}
use Rattle.spec_pages.specs.Rows.{block_rows, line_rows}
use Rattle.sp_columns.proofs.lines.block_rows.Given as goal

-- The rows so far and those of the lines that are left are all rows.
abbrev pub invariant-loop-line : goal.invariant-loop-line
invariant-loop-line l = record {
  items : l.rows.items ++ flat_map (line_rows l.lines.lines l.first l.shift l.side l.block.kind) (drop l.line-index l.block.lines)
      ≡ block_rows l.lines.lines l.first l.shift l.side l.block;
  few : length l.rows.items ≤ 4096 * l.line-index;
}
