-- From the place down to the last space, which is the greatest break if a word stands before it.
use Rattle.std.proofs.Common.{◌≡◌, ◌+◌, ◌-◌, ◌<◌, true, false, take, length, sym, ap, ◌∙◌, arith}
use Rattle.spec_pages.specs.declared.Cluster.{Cluster}
use Rattle.spec_pages.specs.Greatest.{greatest}
use Rattle.spec_pages.specs.Wrapping.{has_word, is_break}
use Rattle.spec_pages.proofs.CutLemmas.{greatest-is_break-here, greatest-is_break-skip, greatest-is_break-none}
use Rattle.sp_measure.proofs.Spaces.{range-from-start, space-get}
use Rattle.sp_measure.proofs.cuts.last_break.Goals as goal
use Rattle.sp_measure.proofs.cuts.last_break.Goals.{then-loop-end-test+else-not-is_space, else-loop-end-test}

abbrev blank : Cluster
blank = record { from = 0; to = 0; width = 0; style = 0; space = false }

pub loop-end-preserved : goal.loop-end-preserved
loop-end-preserved g c =
    let clusters = g.C.ClusterList.clusters c.args.clusters.now in
    let end : c.loop-end.end - 1 + 1 ≡ c.loop-end.end = omega arith in
    let inside : c.loop-end.end < length clusters = omega arith in (
      omega arith,
      ap (greatest (is_break clusters)) end
          ∙ sym (greatest-is_break-skip clusters c.loop-end.end blank inside
          (space-get clusters c.loop-end.end blank false inside (sym c.if-not-is_space.true ∙ c.is_space.ensures))) ∙ c.loop-end.invariant.1,
    )

pub returns-then-not-has_word : goal.returns-then-not-has_word
returns-then-not-has_word g c =
    let clusters = g.C.ClusterList.clusters c.args.clusters.now in
    let none = sym (c.has_word.ensures ∙ ap has_word (c.part.ensures ∙ range-from-start clusters c.loop-end.end)) ∙ c.if-not-has_word.true in
    sym (greatest-is_break-none clusters c.loop-end.end none) ∙ c.loop-end.invariant.1

pub returns : goal.returns
returns g c =
    let clusters = g.C.ClusterList.clusters c.args.clusters.now in
    let word = sym (c.has_word.ensures ∙ ap has_word (c.part.ensures ∙ range-from-start clusters c.loop-end.end)) ∙ c.if-not-has_word.false in
    elim c.loop-end-test.branch [
      | then-loop-end-test+else-not-is_space w ↦ (let inside : c.loop-end.end < length clusters = omega arith in
          sym (greatest-is_break-here clusters c.loop-end.end blank inside
          (space-get clusters c.loop-end.end blank true inside (sym w.if-not-is_space.false ∙ w.is_space.ensures)) word) ∙ c.loop-end.invariant.1)
      | else-loop-end-test w ↦ (let first : c.loop-end.end ≡ 0 = omega arith in
          let none : false ≡ true = ap (λ n. has_word (take n clusters)) (sym first) ∙ word in cc)
    ]
