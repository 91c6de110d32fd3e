use Rattle.std.proofs.Common.{◌≡◌, ◌+◌, ◌*◌, ◌≤◌, length, sum_by}
use Rattle.std.specs.List.{concat}
use Rattle.unicode_segmentation.specs.Iter.{graphemes_left}
use Rattle.spec_pages.specs.Clusters.{width_of, columns_of}
use Rattle.sp_measure.proofs.clusters.columns.Given as goal

abbrev pub invariant-loop-piece : goal.invariant-loop-piece
invariant-loop-piece l =
    (goal.iterator-loop-piece).can_next l.piece-iterator
    × (goal.iterator-loop-piece).is_finite l.piece-iterator
    × (l.total + sum_by width_of (graphemes_left l.piece-iterator) ≡ columns_of l.text)
    × (l.total + 4 * length (concat (graphemes_left l.piece-iterator)) ≤ 4 * length l.text)
