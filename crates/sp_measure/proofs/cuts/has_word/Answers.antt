-- Spaces are passed; the first cluster that is none is a word.
use Rattle.std.proofs.Common.{◌<◌, length, sym, ◌∙◌, arith}
use Rattle.std.proofs.lemmas.Bool.{lt-ltb, le-ltb}
use Rattle.std.proofs.lemmas.List.{at_drop_all}
use Rattle.spec_pages.specs.Wrapping.{has_word}
use Rattle.sp_measure.proofs.Spaces.{has_word-space, has_word-word}
use Rattle.sp_measure.proofs.cuts.has_word.Goals as goal
use Rattle.sp_measure.proofs.cuts.has_word.Goals.{then-loop-place-test+else-is_space, else-loop-place-test}

pub loop-place-preserved : goal.loop-place-preserved
loop-place-preserved g c =
    let clusters = g.C.ClusterList.clusters c.args.clusters.now in
    let place = c.loop-place.place in
    let inside : place < length clusters = omega (arith, c.count-count.ensures, c.loop-place-test.true) in
    record {
      within = omega (arith, c.loop-place-test.true);
      left = sym (has_word-space clusters place inside (sym c.if-is_space.true ∙ c.is_space.ensures)) ∙ c.loop-place.invariant.left;
    }

pub returns : goal.returns
returns g c =
    let clusters = g.C.ClusterList.clusters c.args.clusters.now in
    let place = c.loop-place.place in
    elim c.loop-place-test.branch [
      | then-loop-place-test+else-is_space w ↦ (let inside : place < length clusters = omega (arith, c.count-count.ensures, w.loop-place-test.true) in
          lt-ltb place c.count-count.result w.loop-place-test.true
          ∙ sym (has_word-word clusters place inside (sym w.if-is_space.false ∙ w.is_space.ensures)) ∙ c.loop-place.invariant.left)
      | else-loop-place-test w ↦ le-ltb place c.count-count.result w.loop-place-test.false
          ∙ sym (at_drop_all has_word clusters place (omega (arith, c.count-count.ensures, w.loop-place-test.false))) ∙ c.loop-place.invariant.left
    ]
