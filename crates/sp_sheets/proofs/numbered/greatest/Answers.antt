use Rattle.std.proofs.Common.{◌≡◌, ◌-◌, ◌+◌, take, drop, max, sym, ap, ap₂, ◌∙◌, arith, length-drop, get_or, get_or-drop}
use Rattle.std.specs.Prelude.{fold}
use Rattle.std.proofs.lemmas.List.Sums.{fold_more}
use Rattle.std.proofs.lemmas.Option.{get_or_from_slice_get, slice_get_within}
use Rattle.sp_sheets.proofs.numbered.greatest.Goals as goal

pub loop-row-preserved : goal.loop-row-preserved
loop-row-preserved c =
    let marks = c.args.marks.now.items in
    let from = c.args.from in
    let row = c.loop-row.row in
    let mark = c.at.result.now in
    let low = slice_get_within marks row mark c.at.ensures in
    let more = fold_more max 0 (drop from marks) (row - from) 0 (omega (arith, low, length-drop from marks)) in
    let read : get_or (drop from marks) (row - from) 0 ≡ mark = get_or-drop from marks (row - from) 0 ∙ ap (λ n. get_or marks n 0) (let same : from + (row - from) ≡ row = omega arith in same) ∙ get_or_from_slice_get marks row mark 0 c.at.ensures in
    c.max-greatest.ensures ∙ ap₂ max c.loop-row.invariant (sym read) ∙ sym more ∙ ap (λ n. fold max 0 (take n (drop from marks))) (let next : row - from + 1 ≡ row + 1 - from = omega arith in next)
