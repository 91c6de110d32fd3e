-- Each row is that of the cut, and what the cut leaves is next.
use Rattle.std.proofs.Common.{◌≡◌, length, map, sym, ap, subst, ◌∙◌, arith}
use Rattle.std.proofs.lemmas.Bool.{ne_eqb}
use Rattle.spec_pages.specs.Wrapping.{total_width, rows_of, row_of, row_before, rest_after}
use Rattle.spec_pages.proofs.WrapLemmas.{IsUnderWay, IsUnderWay-start, IsUnderWay-more, total_width-row_before-le, total_width-rest_after-le}
use Rattle.sp_measure.proofs.rows.rows_of.Goals as goal

pub loop-rest-init : goal.loop-rest-init
loop-rest-init g c = record {
  small = c.requires;
  under_way = subst (λ made. IsUnderWay c.args.width made (g.C.ClusterList.clusters c.args.clusters) (map row_of (rows_of c.args.width (g.C.ClusterList.clusters c.args.clusters))))
      (sym c.new-rows.ensures.items) (IsUnderWay-start c.args.width (g.C.ClusterList.clusters c.args.clusters));
}

pub row-requires : goal.row-requires
row-requires g c =
    let narrower = total_width-row_before-le c.first_cut-cut.result (g.C.ClusterList.clusters c.loop-rest.rest) in
    let same = ap total_width c.row_before.ensures in
    omega arith

pub loop-rest-preserved : goal.loop-rest-preserved
loop-rest-preserved g c =
    let left = (g.C.ClusterList.clusters c.loop-rest.rest) in
    let cut = c.first_cut-cut.ensures.value in
    let narrower = total_width-rest_after-le c.first_cut-cut.result left in
    let same = ap total_width c.rest_after-rest.ensures in
    let after = ap length c.rest_after-rest.ensures in
    let some : length (g.C.ClusterList.clusters c.rest_after-rest.result) ≡ 0 → ⊥ = λ e. c.if-count-eq0.false (c.count.ensures ∙ e) in
    record {
      small = omega arith;
      under_way = IsUnderWay-more c.args.width c.loop-rest.rows.items c.push.new.self.items left (g.C.ClusterList.clusters c.rest_after-rest.result) _ c.in_ok-row.field-0
          (c.in_ok-row.ensures ∙ ap row_of (c.row_before.ensures ∙ ap (λ k. row_before k left) cut))
          c.in_ok-push.ensures.items (c.rest_after-rest.ensures ∙ ap (λ k. rest_after k left) cut)
          c.loop-rest.invariant.under_way (omega arith) (ne_eqb (length (g.C.ClusterList.clusters c.rest_after-rest.result)) 0 some);
    }
