use Rattle.std.proofs.Common.{◌≡◌, ◌+◌, ◌++◌, length, drop}
use Rattle.std.specs.Vec.Iter.{into_iter_items}
use Rattle.spec_labels.specs.Scenes.{records_of}
use Rattle.sp_scenes.proofs.locking.records_of.Given as goal

abbrev pub invariant-loop-label : goal.invariant-loop-label
invariant-loop-label l =
    (goal.iterator-loop-label).can_next l.label-iterator ×
    (goal.iterator-loop-label).is_finite l.label-iterator ×
    (l.records.items ++ records_of (drop (length l.records.items) l.headings) (into_iter_items l.label-iterator) ≡ records_of l.headings l.fn.labels.items) ×
    (length l.records.items + length (into_iter_items l.label-iterator) ≡ length l.headings)
