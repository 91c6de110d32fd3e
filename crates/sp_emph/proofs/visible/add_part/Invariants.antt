use Rattle.std.proofs.Common.{◌≡◌, ◌+◌, List, ◌++◌, length}
use Rattle.spec_script.specs.declared.Run.{Run}
use Rattle.spec_script.specs.Emphasis.{byte_runs}
use Rattle.sp_emph.specs.Joining.{joined_with}
use Rattle.sp_emph.proofs.visible.add_part.Given as goal

abbrev pub invariant-loop-rest : goal.invariant-loop-rest
invariant-loop-rest l = record {
  left : l.place + length l.rest ≡ l.from + length l.looks;
  added : (more : List Run) → joined_with l.runs (byte_runs l.place l.rest ++ more) ≡ joined_with l.fn.runs (byte_runs l.from l.looks ++ more);
}

abbrev pub decreases-loop-rest : goal.decreases-loop-rest
decreases-loop-rest l = length l.rest
