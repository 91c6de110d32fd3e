use Rattle.std.proofs.Common.{◌≡◌, drop}
use Rattle.spec_script.specs.Emphasis.{joined, part_runs}
use Rattle.sp_emph.specs.Joining.{joined_with}
use Rattle.sp_emph.proofs.visible.plain_runs.Given as goal

abbrev pub invariant-loop-span : goal.invariant-loop-span
invariant-loop-span l = joined_with l.runs (part_runs (drop l.span-index l.kept)) ≡ joined (part_runs l.kept)
