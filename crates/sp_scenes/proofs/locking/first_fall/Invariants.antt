use Rattle.spec_labels.proofs.Falls.{Rises}
use Rattle.sp_scenes.proofs.locking.first_fall.Given as goal

abbrev pub invariant-loop-before : goal.invariant-loop-before
invariant-loop-before l = Rises l.labels l.before
