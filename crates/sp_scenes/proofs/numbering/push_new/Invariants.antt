use Rattle.std.proofs.Common.{◌≡◌, ◌++◌}
use Rattle.sp_scenes.specs.NewLabels.{new_labels}
use Rattle.sp_scenes.proofs.numbering.push_new.Given as goal

abbrev pub invariant-loop-before : goal.invariant-loop-before
invariant-loop-before l = l.labels.items ≡ l.fn.labels.items ++ new_labels l.records l.place 0 l.before
