use Rattle.std.proofs.Common.{◌≡◌, ◌+◌, ◌-◌, ◌<◌, ◌≤◌, length, slice_index}
use Rattle.sp_measure.specs.Plain.{plain_length}
use Rattle.sp_measure.proofs.parts.part_end.Given as goal

abbrev pub invariant-loop-end : goal.invariant-loop-end
invariant-loop-end l = record {
  order : l.at + l.last ≤ l.end;
  near : l.end ≤ length l.bytes + 1;
  before : 0 < l.last → plain_length (slice_index l.bytes (l.end - l.last)) ≡ l.last;
}

abbrev pub decreases-loop-end : goal.decreases-loop-end
decreases-loop-end l = length l.bytes + 1 - l.end
