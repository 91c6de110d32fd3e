use Rattle.std.proofs.Common.{◌≡◌, ◌≤◌, ◌+◌, ◌++◌, drop}
use Rattle.spec_labels.specs.Scenes.{numbers_after, unlocked_labels}
use Rattle.sp_scenes.proofs.numbering.unlocked.Given as goal

abbrev pub invariant-loop-heading : goal.invariant-loop-heading
invariant-loop-heading l = record {
  so_far : l.labels.items ++ numbers_after l.before (drop l.heading-index l.headings) ≡ unlocked_labels l.headings;
  low : l.before ≤ 999999999 + l.heading-index;
}
