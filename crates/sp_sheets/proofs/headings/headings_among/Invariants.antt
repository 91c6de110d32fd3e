use Rattle.std.proofs.Common.{◌≡◌, ◌++◌, map, filter, drop}
use Rattle.spec_state.specs.Headings.{heading_of, is_heading_block}
use Rattle.sp_sheets.proofs.headings.headings_among.Given as goal

abbrev pub invariant-loop-placed : goal.invariant-loop-placed
invariant-loop-placed l =
    l.headings.items ++ map (heading_of l.lines.lines) (filter is_heading_block (drop l.placed-index l.blocks)) ≡ map (heading_of l.lines.lines) (filter is_heading_block l.blocks)
