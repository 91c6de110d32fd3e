use Rattle.std.proofs.Common.{◌<◌, ◌∙◌, List, length, set, sym, ap, arith}
use Rattle.std.proofs.lemmas.List.{get_or_default, length-set}
use Rattle.std.proofs.lemmas.Option.{get_or_from_slice_get}
use Rattle.spec_text.specs.Lines.{LineState}
use Rattle.sp_text.proofs.Relabels.{relabelled-more, set-again}
use Rattle.sp_text.proofs.gap.relabel_ring.Goals as goal

pub swap-requires : goal.swap-requires
swap-requires c = omega (arith, c.loop-at-test.true, c.len-at-end.ensures.len, c.loop-at.invariant.2)

pub swap-requires-in-loop-at : goal.swap-requires-in-loop-at
swap-requires-in-loop-at c =
    let many = ap (λ (xs : List LineState). length xs) c.swap.ensures.items ∙ length-set c.loop-at.ring.items c.loop-at.at c.loop-at.line in
    omega (arith, c.loop-at-test.true, c.len-at-end.ensures.len, c.loop-at.invariant.2, many)

pub loop-at-preserved : goal.loop-at-preserved
loop-at-preserved c =
    let so_far = c.loop-at.invariant in
    let at = c.loop-at.at in
    let now = c.loop-at.ring.items in
    let line = c.swap.new.item in
    let new = c.relabel_line.new.line in
    let inside : at < length c.args.ring.now.items = omega (arith, c.loop-at-test.true, c.len-at-end.ensures.len) in
    let id_is = get_or_default c.args.ids.now at 0 _ (omega (arith, inside, c.requires.ids)) in
    let mark_is = get_or_default c.args.marks.now at 0 _ (omega (arith, inside, c.requires.marks)) in (
      c.swap-in-loop-at.ensures.items ∙ ap (λ xs. set xs at new) c.swap.ensures.items ∙ set-again now at c.loop-at.line new
          ∙ relabelled-more c.args.ring.now.items now c.args.ids.now c.args.marks.now at _ _ line new c.requires.ids c.requires.marks inside so_far.0 (sym (get_or_from_slice_get now at line line c.swap.ensures.was)) id_is mark_is c.relabel_line.ensures,
      c.swap-in-loop-at.ensures.room ∙ c.swap.ensures.room ∙ so_far.1,
      ap (λ (xs : List LineState). length xs) c.swap-in-loop-at.ensures.items ∙ length-set c.swap.new.self.items at new
          ∙ ap (λ (xs : List LineState). length xs) c.swap.ensures.items ∙ length-set now at c.loop-at.line ∙ so_far.2,
    )
