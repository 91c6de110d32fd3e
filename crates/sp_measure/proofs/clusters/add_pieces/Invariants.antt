use Rattle.std.proofs.Common.{◌≡◌, ◌+◌, ◌*◌, ◌≤◌, ◌++◌, true, length}
use Rattle.std.specs.List.{concat}
use Rattle.unicode_segmentation.specs.Grapheme.{graphemes}
use Rattle.unicode_segmentation.specs.Iter.{graphemes_left}
use Rattle.spec_pages.specs.Clusters.{clusters_at}
use Rattle.spec_pages.specs.Wrapping.{total_width}
use Rattle.sp_measure.proofs.clusters.add_pieces.Given as goal

abbrev pub invariant-loop-piece : goal.invariant-loop-piece
invariant-loop-piece l =
    (goal.iterator-loop-piece).can_next l.piece-iterator
    × (goal.iterator-loop-piece).is_finite l.piece-iterator
    × (l.at + length (concat (graphemes_left l.piece-iterator)) ≡ l.from + length l.part)
    × (l.out.items ++ clusters_at l.style l.at (graphemes_left l.piece-iterator)
    ≡ l.fn.out.items ++ clusters_at l.style l.from (graphemes true l.part))
    × (total_width l.out.items + 4 * length (concat (graphemes_left l.piece-iterator))
    ≤ total_width l.fn.out.items + 4 * length l.part)
