use Rattle.std.proofs.Common.{length}
use Rattle.sp_labels.proofs.ReadSoFar.{ReadSoFar}
use Rattle.sp_labels.proofs.reading.parse.Given as goal

abbrev pub invariant-loop-rest : goal.invariant-loop-rest
invariant-loop-rest l = ReadSoFar l.text l.number l.path.items l.rest

abbrev pub decreases-loop-rest : goal.decreases-loop-rest
decreases-loop-rest l = length l.rest
