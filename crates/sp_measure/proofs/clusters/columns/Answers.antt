-- What the iterator has at its start are the clusters of the text, and they make it up.
use Rattle.std.proofs.Common.{◌≡◌, true, length, sum_by, zero-add, sym, ap, ◌∙◌, arith}
use Rattle.std.specs.List.{concat}
use Rattle.std.proofs.lemmas.Grind.{common_steps}
use Rattle.unicode_segmentation.specs.Grapheme.{graphemes, is_grapheme_break}
use Rattle.unicode_segmentation.specs.Iter.{graphemes_left}
use Rattle.unicode_segmentation.proofs.SegmentsLemmas.{concat-segments}
use Rattle.spec_pages.specs.Clusters.{width_of}
use Rattle.spec_pages.proofs.PrintableLaws.{columns_of-printable}
use Rattle.sp_measure.proofs.clusters.columns.Goals as goal

pub loop-piece-init : goal.loop-piece-init
loop-piece-init c =
    let left : graphemes_left c.into_iter-piece-iterator.result ≡ graphemes true c.args.text.now =
    ap graphemes_left c.into_iter-piece-iterator.ensures.into_iter_gives ∙ c.graphemes-piece-items.ensures.left in
    let whole = ap (λ pieces. length (concat pieces)) left
    ∙ ap length (concat-segments (is_grapheme_break true) c.args.text.now c.utf8.text) in
    (tt, tt, zero-add _ ∙ ap (sum_by width_of) left, omega (arith, whole))

pub loop-piece-preserved : goal.loop-piece-preserved
loop-piece-preserved c = grind (arith, common_steps)

pub returns-then-is_printable-clause-value : goal.returns-then-is_printable-clause-value
returns-then-is_printable-clause-value c =
    sym (columns_of-printable c.args.text.now (sym c.is_printable.ensures ∙ c.if-is_printable.true))
