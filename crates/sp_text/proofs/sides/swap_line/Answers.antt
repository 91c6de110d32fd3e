use Rattle.std.proofs.Common.{◌+◌, ◌-◌, ◌<◌, ◌++◌, length, set, reverse, refl, ap, sym, ◌∙◌, arith}
use Rattle.std.proofs.lemmas.List.{set-append_left, get_or_append_left, length-append, length-reverse, get_or_default}
use Rattle.std.proofs.lemmas.Option.{slice_get_read}
use Rattle.spec_text.specs.Edits.{line_ids}
use Rattle.sp_text.proofs.LinesAt.{slice_get-behind}
use Rattle.sp_text.proofs.Pairs.{set-behind, swapped-front, swapped-back}
use Rattle.sp_text.proofs.sides.swap_line.Goals as goal

inside : (c : goal.After-front-1) → c.args.place < length c.args.front.now.items
inside c = omega (arith, c.if-place-len.true, c.len.ensures, c.args.front.now.ok.0)

pub returns-then-place-len-clause-lines : goal.returns-then-place-len-clause-lines
returns-then-place-len-clause-lines c =
    let front = c.args.front.now.items in
    let back = reverse c.args.back.now.items in
    ap (λ x. set front c.args.place x ++ back) c.swap.ensures.y_after ∙ sym (set-append_left front back c.args.place c.args.line.now (inside c))

pub returns-then-place-len-clause-line : goal.returns-then-place-len-clause-line
returns-then-place-len-clause-line c =
    let front = c.args.front.now.items in
    let back = reverse c.args.back.now.items in
    let read = c.swap.ensures.x_after ∙ c.index_mut.ensures.value ∙ get_or_default front c.args.place _ c.swap.new.x (inside c) in
    slice_get_read (front ++ back) (length (front ++ back)) c.args.place c.swap.new.x refl (omega (arith, inside c, length-append front back)) (read ∙ sym (get_or_append_left front back c.swap.new.x c.args.place (inside c)))

pub returns-then-place-len-clause-front_ids : goal.returns-then-place-len-clause-front_ids
returns-then-place-len-clause-front_ids c =
    let front = c.args.front.now.items in
    ap (λ x. line_ids (set front c.args.place x)) c.swap.ensures.y_after ∙ swapped-front front c.args.back.now.items c.args.place c.args.line.now c.requires.id (inside c)

pub returns-else-place-len-clause-lines : goal.returns-else-place-len-clause-lines
returns-else-place-len-clause-lines c =
    let front = c.args.front.now in
    let back = c.args.back.now in
    let behind = c.len-else-place-len.result + c.len-else-place-len-2.result - 1 - c.args.place in
    ap (λ x. front.items ++ reverse (set back.items behind x)) c.swap-else-place-len.ensures.y_after
    ∙ set-behind front.items back.items c.args.place behind c.args.line.now (omega (arith, c.if-place-len.false, c.len.ensures, front.ok.0)) (omega (arith, c.requires.place, front.ok.0, back.ok.0))
    (omega (arith, c.len-else-place-len.ensures, c.len-else-place-len-2.ensures, front.ok.0, back.ok.0))

pub returns-else-place-len-clause-line : goal.returns-else-place-len-clause-line
returns-else-place-len-clause-line c =
    let front = c.args.front.now in
    let back = c.args.back.now in
    let x = c.swap-else-place-len.new.x in
    let behind = c.len-else-place-len.result + c.len-else-place-len-2.result - 1 - c.args.place in
    let total = length-append front.items (reverse back.items) in
    let turned = length-reverse back.items in
    let low : behind < length back.items = omega (arith, c.requires.place, c.if-place-len.false, c.len.ensures, c.len-else-place-len.ensures, c.len-else-place-len-2.ensures, front.ok.0, back.ok.0) in
    let read = c.swap-else-place-len.ensures.x_after ∙ c.index_mut-else-place-len.ensures.value ∙ get_or_default back.items behind _ x low in
    slice_get-behind front.items back.items (front.items ++ reverse back.items) (c.len-else-place-len.result + c.len-else-place-len-2.result) c.args.place x refl
    (omega (arith, c.if-place-len.false, c.len.ensures, front.ok.0)) (omega (arith, total, turned, c.requires.place, front.ok.0, back.ok.0))
    (omega (arith, total, turned, c.len-else-place-len.ensures, c.len-else-place-len-2.ensures, front.ok.0, back.ok.0)) read

pub returns-else-place-len-clause-back_ids : goal.returns-else-place-len-clause-back_ids
returns-else-place-len-clause-back_ids c =
    let front = c.args.front.now in
    let back = c.args.back.now in
    let behind = c.len-else-place-len.result + c.len-else-place-len-2.result - 1 - c.args.place in
    ap (λ x. line_ids (set back.items behind x)) c.swap-else-place-len.ensures.y_after
    ∙ swapped-back front.items back.items c.args.place c.args.line.now c.requires.id behind (omega (arith, c.if-place-len.false, c.len.ensures, front.ok.0)) (omega (arith, c.requires.place, front.ok.0, back.ok.0))
    (omega (arith, c.len-else-place-len.ensures, c.len-else-place-len-2.ensures, front.ok.0, back.ok.0))
