-- What the iterator has at its start are the clusters of the text, and they make it up.
use Rattle.std.proofs.Common.{◌≡◌, ◌++◌, true, length, ap, ◌∙◌, arith}
use Rattle.std.specs.List.{concat}
use Rattle.std.proofs.lemmas.Grind.{common_steps}
use Rattle.unicode_segmentation.specs.Grapheme.{graphemes, is_grapheme_break}
use Rattle.unicode_segmentation.specs.Iter.{graphemes_left}
use Rattle.unicode_segmentation.proofs.SegmentsLemmas.{concat-segments}
use Rattle.spec_pages.specs.Clusters.{clusters_at}
use Rattle.sp_measure.proofs.clusters.add_pieces.Goals as goal

pub loop-piece-init : goal.loop-piece-init
loop-piece-init c =
    let left : graphemes_left c.into_iter-piece-iterator.result ≡ graphemes true c.args.part.now =
    ap graphemes_left c.into_iter-piece-iterator.ensures.into_iter_gives ∙ c.graphemes-piece-items.ensures.left in
    let whole = ap (λ pieces. length (concat pieces)) left
    ∙ ap length (concat-segments (is_grapheme_break true) c.args.part.now c.utf8.part) in (
      tt,
      tt,
      omega (arith, whole),
      ap (λ pieces. c.args.out.now.items ++ clusters_at c.args.style c.args.from pieces) left,
      omega (arith, whole),
    )

pub loop-piece-preserved : goal.loop-piece-preserved
loop-piece-preserved c = grind (arith, common_steps)
