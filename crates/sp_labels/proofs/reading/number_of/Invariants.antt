use Rattle.std.proofs.Common.{◌≤◌}
use Rattle.sp_labels.proofs.Digits.{ValueSoFar}
use Rattle.sp_labels.proofs.reading.number_of.Given as goal

abbrev pub invariant-loop-digit : goal.invariant-loop-digit
invariant-loop-digit l = record {
  low : l.number ≤ l.limit;
  value : ValueSoFar l.digits l.number l.digit-index;
}
