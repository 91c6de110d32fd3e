use Rattle.std.proofs.Common.{◌≤◌, ◌-◌, length}
use Rattle.sp_emph.specs.Markers.{AreBelow}
use Rattle.sp_emph.proofs.markers.markers_of.Given as goal

abbrev pub invariant-loop-place : goal.invariant-loop-place
invariant-loop-place l = record {
  low : l.place ≤ length l.line;
  below : AreBelow l.line l.place l.markers;
}

abbrev pub decreases-loop-place : goal.decreases-loop-place
decreases-loop-place l = length l.line - l.place
