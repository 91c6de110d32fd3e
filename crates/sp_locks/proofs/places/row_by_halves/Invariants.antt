use Rattle.std.proofs.Common.{◌-◌}
use Rattle.spec_labels.specs.PageRecords.{is_before}
use Rattle.sp_locks.proofs.PlaceLaws.{Halved}
use Rattle.sp_locks.proofs.places.row_by_halves.Given as goal

abbrev pub invariant-loop-from : goal.invariant-loop-from
invariant-loop-from l = Halved (λ key. is_before l.lines.lines key l.anchor) l.rows.items l.from l.to

abbrev pub decreases-loop-from : goal.decreases-loop-from
decreases-loop-from l = l.to - l.from
