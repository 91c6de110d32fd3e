-- The marker at hand opens: it pairs with the next that closes, or from here on there is none.
use Rattle.std.proofs.Common.{◌+◌, ◌<◌, not, ◌&&◌, ltb, List, length, get_or, sym, subst, ◌∙◌, arith}
use Rattle.std.proofs.lemmas.Bool.{or_from, not_from_true}
use Rattle.spec_script.specs.declared.Pair.{Pair}
use Rattle.spec_script.specs.Emphasis.{opens, closes}
use Rattle.sp_emph.specs.Layering.{AreWithin}
use Rattle.spec_script.proofs.PairLaws.{AreMarkers, AreMarkers-markers_of}
use Rattle.sp_emph.proofs.PairWalk.{IsUnderWay, step-none, step-pair, made-all, AreWithin-pairs_of}
use Rattle.sp_emph.proofs.pairs.pairs_of.Goals as goal

pub loop-index-preserved-then-used-markers : goal.loop-index-preserved-then-used-markers
loop-index-preserved-then-used-markers c =
    let layer = c.args.layer in
    let line = c.args.line.now in
    let markers = c.args.markers.now in
    let index = c.loop-index.index in
    let first = get_or markers index 0 in
    let test = or_from (closes line first && ltb index c.loop-index.used) (not (opens layer line first))
    (sym c.is_used.ensures ∙ c.if-is_used.false) (not_from_true (opens layer line first) (sym c.opens.ensures ∙ c.if-not-opens.false)) in
    record {
      within = omega arith;
      under_way = subst (IsUnderWay layer line markers c.loop-index.pairs.items (index + 1)) (sym c.if-used-markers.true)
          (step-none layer line markers c.loop-index.pairs.items index c.loop-index.used c.loop-index-test.true test
          (λ x behind low. c.next_close-used.ensures.skipped x (omega arith) (omega arith)) c.loop-index.invariant.under_way);
    }

pub loop-index-preserved : goal.loop-index-preserved
loop-index-preserved c =
    let layer = c.args.layer in
    let line = c.args.line.now in
    let markers = c.args.markers.now in
    let index = c.loop-index.index in
    let first = get_or markers index 0 in
    let next = c.next_close-used.result in
    let inside : next < length markers = omega arith in
    let test = or_from (closes line first && ltb index c.loop-index.used) (not (opens layer line first))
    (sym c.is_used.ensures ∙ c.if-is_used.false) (not_from_true (opens layer line first) (sym c.opens.ensures ∙ c.if-not-opens.false)) in
    let all = subst (AreMarkers layer line 0) (sym c.requires.all) (AreMarkers-markers_of layer line) in
    record {
      within = omega arith;
      under_way = step-pair layer line markers c.loop-index.pairs.items _ index c.loop-index.used next all c.loop-index-test.true test
          (omega arith) inside (c.next_close-used.ensures.found inside)
          (λ x behind low. c.next_close-used.ensures.skipped x (omega arith) low) c.loop-index.invariant.under_way c.in_ok-push.ensures.items;
    }

pub returns-clause-within : goal.returns-clause-within
returns-clause-within c =
    let layer = c.args.layer in
    let line = c.args.line.now in
    let markers = c.args.markers.now in
    subst (λ (pairs : List Pair). AreWithin layer pairs (length line))
    (sym (made-all layer line markers c.loop-index.pairs.items c.loop-index.index c.loop-index.used c.requires.all c.loop-index-test.false
    c.loop-index.invariant.under_way)) (AreWithin-pairs_of layer line)
