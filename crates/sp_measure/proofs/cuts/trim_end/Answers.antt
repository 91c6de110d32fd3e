-- The last cluster is dropped while it is a space; the first that is none ends the row.
use Rattle.std.proofs.Common.{◌≡◌, ◌+◌, ◌-◌, ◌<◌, true, false, take, length, refl, sym, ap, subst, ◌∙◌, arith}
use Rattle.spec_pages.specs.declared.Cluster.{Cluster}
use Rattle.spec_pages.specs.Wrapping.{trim_end}
use Rattle.spec_pages.proofs.TrimLemmas.{trim_end-take-space, trim_end-take-word}
use Rattle.sp_measure.proofs.Spaces.{range-from-start, space-get}
use Rattle.sp_measure.proofs.cuts.trim_end.Goals as goal
use Rattle.sp_measure.proofs.cuts.trim_end.Goals.{then-loop-end-test+else-is_space, else-loop-end-test}

abbrev blank : Cluster
blank = record { from = 0; to = 0; width = 0; style = 0; space = false }

pub loop-end-preserved : goal.loop-end-preserved
loop-end-preserved g c =
    let clusters = g.C.ClusterList.clusters c.args.clusters.now in
    let last = c.loop-end.end - 1 in
    let end : last + 1 ≡ c.loop-end.end = omega arith in
    let inside : last < length clusters = omega arith in (
      omega arith,
      sym (trim_end-take-space clusters last blank inside (space-get clusters last blank true inside (sym c.if-is_space.true ∙ c.is_space.ensures)))
          ∙ ap (λ n. trim_end (take n clusters)) end ∙ c.loop-end.invariant.1,
    )

pub returns : goal.returns
returns g c =
    let clusters = g.C.ClusterList.clusters c.args.clusters.now in
    c.part.ensures ∙ range-from-start clusters c.loop-end.end ∙ elim c.loop-end-test.branch [
      | then-loop-end-test+else-is_space w ↦ (let last = c.loop-end.end - 1 in
          let end : last + 1 ≡ c.loop-end.end = omega arith in
          let inside : last < length clusters = omega arith in
          subst (λ n. take n clusters ≡ trim_end (take n clusters)) end
          (sym (trim_end-take-word clusters last blank inside (space-get clusters last blank false inside (sym w.if-is_space.false ∙ w.is_space.ensures)))) ∙ c.loop-end.invariant.1)
      | else-loop-end-test w ↦ (let none : 0 ≡ c.loop-end.end = omega arith in
          subst (λ n. take n clusters ≡ trim_end (take n clusters)) none refl ∙ c.loop-end.invariant.1)
    ]
