-- A part's clusters are those of its character, or those that it is cut into.
use Rattle.std.proofs.Common.{◌≡◌, ◌+◌, ◌++◌, true, sym, ap, subst, OnOk, ◌∙◌, arith}
use Rattle.std.proofs.lemmas.Str.{IsCharBoundary-start}
use Rattle.spec_pages.specs.Clusters.{clusters_at, byte_clusters}
use Rattle.spec_pages.proofs.PrintableLaws.{clusters_at-printable}
use Rattle.unicode_segmentation.specs.Grapheme.{graphemes}
use Rattle.sp_measure.proofs.PlainClusters.{part-made, all-made}
use Rattle.sp_measure.proofs.clusters.add_clusters.Goals as goal

-- The clusters of a printable text are those of its bytes.
pub returns-then-is_printable-clause-items : goal.returns-then-is_printable-clause-items
returns-then-is_printable-clause-items c =
    let text = c.args.text.now in
    let same = ap (byte_clusters c.args.style c.args.from) c.as_bytes.ensures.value
    ∙ sym (clusters_at-printable c.args.style c.args.from text (sym c.is_printable.ensures ∙ c.if-is_printable.true)) in
    subst (λ added. OnOk c.add_bytes.result (c.add_bytes.new.out.items ≡ c.args.out.now.items ++ added)) same c.add_bytes.ensures.items

pub loop-at-init : goal.loop-at-init
loop-at-init c =
    let text = c.args.text.now in
    let place : c.args.from + 0 ≡ c.args.from = omega arith in
    record {
      start = IsCharBoundary-start text c.utf8.text;
      items = ap (λ n. c.args.out.now.items ++ clusters_at c.args.style n (graphemes true text)) place;
      wide = omega arith;
    }

pub loop-at-preserved : goal.loop-at-preserved
loop-at-preserved c =
    let text = c.args.text.now in
    let at = c.loop-at.at in
    let end = c.part_end-end.result in
    let made = c.loop-at.out.items in
    let added = c.in_ok-add_part.ensures.items
    ∙ ap (λ part. made ++ clusters_at c.args.style (c.args.from + at) (graphemes true part)) c.range.ensures.value in
    record {
      start = c.part_end-end.ensures.boundary;
      items = part-made text c.args.style c.args.from at end made c.add_part.new.out.items (c.args.out.now.items ++ clusters_at c.args.style c.args.from (graphemes true text))
          c.utf8.text c.loop-at.invariant.start c.part_end-end.ensures.boundary (omega (arith, c.part_end-end.ensures.after))
          c.part_end-end.ensures.parts added c.loop-at.invariant.items;
      wide = omega (arith, c.in_ok-add_part.ensures.wide, c.loop-at.invariant.wide, c.range.ensures.len, c.part_end-end.ensures.after);
    }

pub returns-clause-items : goal.returns-clause-items
returns-clause-items c =
    all-made c.args.text.now c.args.style c.args.from c.loop-at.at c.loop-at.out.items _ c.loop-at-test.false c.loop-at.invariant.items
