use Rattle.std.proofs.Common.{◌≡◌, ◌++◌, map, take, drop}
use Rattle.spec_pages.specs.Rows.{title_row}
use Rattle.sp_columns.proofs.shaping.title_rows.Given as goal

-- The rows so far are shaped, and the others will be.
abbrev pub invariant-loop-row : goal.invariant-loop-row
invariant-loop-row l = take l.row-index l.rows ++ map title_row (drop l.row-index l.rows) ≡ map title_row l.initial.rows
