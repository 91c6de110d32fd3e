use Rattle.std.proofs.Common.{◌≡◌, ℕ}
use Rattle.std.specs.Prelude.{take, is_some}
use Rattle.std.specs.BTreeMap.{get}
use Rattle.std.specs.Ordering.{nat_cmp}
use Rattle.sp_contents.specs.Gone.{has_line}
use Rattle.sp_contents.proofs.gone.lines_of.Given as goal

abbrev pub invariant-loop-heading : goal.invariant-loop-heading
invariant-loop-heading l = (line : ℕ) → is_some (get nat_cmp l.lines line) ≡ has_line (take l.heading-index l.headings) line
