use Rattle.std.proofs.Common.{◌≡◌, drop, map}
use Rattle.spec_sheets.specs.Cells.{shown_part}
use Rattle.spec_state.specs.SameRows.{same_parts}
use Rattle.sp_compare.proofs.cells.same_parts.Given as goal

abbrev pub invariant-loop-place : goal.invariant-loop-place
invariant-loop-place l =
    same_parts (map (shown_part l.old) (drop l.place l.olds)) (map (shown_part l.new) (drop l.place l.news)) ≡ same_parts (map (shown_part l.old) l.olds) (map (shown_part l.new) l.news)
