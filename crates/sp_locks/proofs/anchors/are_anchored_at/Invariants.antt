use Rattle.std.proofs.Common.{◌≡◌, map, take}
use Rattle.spec_labels.specs.PageRecords.{record_start}
use Rattle.sp_locks.proofs.anchors.are_anchored_at.Given as goal

abbrev pub invariant-loop-place : goal.invariant-loop-place
invariant-loop-place l = take l.place l.behind ≡ map (record_start l.lines.lines l.rows.items) (take l.place l.later)
