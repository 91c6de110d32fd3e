use Rattle.std.proofs.Common.{◌≡◌, ◌≤◌, take}
use Rattle.spec_pages.specs.Wrapping.{total_width}
use Rattle.sp_measure.proofs.list.RefSliceClusterClusterList.fitting.Given as goal

abbrev pub invariant-loop-place : goal.invariant-loop-place
invariant-loop-place l = (l.total ≡ total_width (take l.place l.self.now)) × (l.total ≤ l.width)
