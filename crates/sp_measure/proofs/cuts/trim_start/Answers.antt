-- Spaces are passed; what begins with another cluster stays.
use Rattle.std.proofs.Common.{◌<◌, ◌≤◌, List, length, slice_range, sym, ap, ◌∙◌, arith}
use Rattle.std.proofs.lemmas.List.{at_drop_all}
use Rattle.spec_pages.specs.declared.Cluster.{Cluster}
use Rattle.spec_pages.specs.Wrapping.{trim_start}
use Rattle.sp_measure.proofs.Spaces.{range-to-end, trim_start-space, trim_start-word}
use Rattle.sp_measure.proofs.cuts.trim_start.Goals as goal
use Rattle.sp_measure.proofs.cuts.trim_start.Goals.{then-loop-from-test+else-is_space, else-loop-from-test}

pub loop-from-preserved : goal.loop-from-preserved
loop-from-preserved g c =
    let clusters = g.C.ClusterList.clusters c.args.clusters.now in
    let from = c.loop-from.from in
    let inside : from < length clusters = omega (arith, c.count-count.ensures, c.loop-from-test.true) in
    record {
      within = omega (arith, c.loop-from-test.true);
      left = sym (trim_start-space clusters from inside (sym c.if-is_space.true ∙ c.is_space.ensures)) ∙ c.loop-from.invariant.left;
    }

pub returns : goal.returns
returns g c =
    let clusters = g.C.ClusterList.clusters c.args.clusters.now in
    let from = c.loop-from.from in
    let part = c.part.ensures ∙ ap (slice_range clusters from) c.count-count.ensures ∙ range-to-end clusters from in
    part ∙ elim c.loop-from-test.branch [
      | then-loop-from-test+else-is_space w ↦ (let inside : from < length clusters = omega (arith, c.count-count.ensures, w.loop-from-test.true) in
          sym (trim_start-word clusters from inside (sym w.if-is_space.false ∙ w.is_space.ensures)) ∙ c.loop-from.invariant.left)
      | else-loop-from-test w ↦ (let none : length clusters ≤ from = omega (arith, c.count-count.ensures, w.loop-from-test.false) in
          at_drop_all (λ (cs : List Cluster). cs) clusters from none ∙ sym (at_drop_all trim_start clusters from none) ∙ c.loop-from.invariant.left)
    ]
