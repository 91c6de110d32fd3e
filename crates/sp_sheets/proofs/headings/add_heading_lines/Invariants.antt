use Rattle.std.proofs.Common.{◌≡◌, ◌++◌, map, drop}
use Rattle.spec_script.specs.Elements.{placed_at}
use Rattle.sp_sheets.specs.HeadingLines.{heading_lines}
use Rattle.sp_sheets.proofs.headings.add_heading_lines.Given as goal

abbrev pub invariant-loop-block : goal.invariant-loop-block
invariant-loop-block l =
    l.ids.items ++ heading_lines l.lines.lines (map (placed_at l.first) (drop l.block-index l.block-items)) ≡ l.fn.ids.items ++ heading_lines l.lines.lines (map (placed_at l.first) l.block-items)
