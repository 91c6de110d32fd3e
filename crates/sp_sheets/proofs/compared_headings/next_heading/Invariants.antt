use Rattle.std.proofs.Common.{◌≡◌, ℕ, ◌≤◌, ◌<◌, false}
use Rattle.std.specs.Prelude.{slice_index_or}
use Rattle.spec_pages.specs.declared.Shape.{Shape}
use Rattle.spec_pages.specs.Pages.{begins_heading}
use Rattle.sp_sheets.proofs.compared_headings.next_heading.Given as goal

abbrev pub invariant-loop-place : goal.invariant-loop-place
invariant-loop-place l = (k : ℕ) (d : Shape) → l.fn.from ≤ k → k < l.place → begins_heading (slice_index_or l.shapes.items k d) ≡ false
