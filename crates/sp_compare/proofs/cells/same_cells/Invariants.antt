use Rattle.std.proofs.Common.{◌≡◌, ◌≤◌, drop, length}
use Rattle.spec_text.specs.Lines.{line_texts}
use Rattle.spec_state.specs.SameRows.{same_cells}
use Rattle.sp_compare.specs.BareRows.{bare_cells}
use Rattle.sp_compare.proofs.cells.same_cells.Given as goal

abbrev pub invariant-loop-one : goal.invariant-loop-one
invariant-loop-one l = record {
  within : l.place ≤ length l.news;
  same : same_cells (bare_cells (line_texts l.old) l.old_first (drop l.one-index l.olds)) (bare_cells (line_texts l.new.lines) l.new_first (drop l.place l.news))
      ≡ same_cells (bare_cells (line_texts l.old) l.old_first l.olds) (bare_cells (line_texts l.new.lines) l.new_first l.news);
}
