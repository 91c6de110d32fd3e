use Rattle.std.proofs.Common.{◌≡◌, take}
use Rattle.spec_machine.specs.Outlines.{heading_rows}
use Rattle.sp_contents.proofs.heading_sheets.heading_rows.Given as goal

abbrev pub invariant-loop-row : goal.invariant-loop-row
invariant-loop-row l = l.rows.items ≡ heading_rows 0 (take l.row l.shapes.items)
