use Rattle.std.proofs.Common.{◌≡◌, ◌-◌, ◌∙◌, length, take, arith, ap}
use Rattle.std.proofs.lemmas.List.{take_all}
use Rattle.spec_edit.specs.Windows.{stanza_lines_in}
use Rattle.sp_reread.proofs.GapPlaces.{first-behind}
use Rattle.sp_reread.proofs.sides.lines_before.Goals as goal

pub returns-else-place-before : goal.returns-else-place-before
returns-else-place-before c =
    let front = c.args.front.now.stanzas in
    let back = c.args.back.now.stanzas in
    let one : c.lines_in-else-place-before.result ≡ stanza_lines_in front = c.lines_in-else-place-before.ensures ∙ ap stanza_lines_in (take_all _ front (omega (arith, c.len-before.ensures.len))) in
    let two : c.lines_in-else-place-before-2.result ≡ stanza_lines_in back = c.lines_in-else-place-before-2.ensures ∙ ap stanza_lines_in (take_all _ back (omega (arith, c.len-count.ensures.len))) in
    let three : c.lines_in-else-place-before-3.result ≡ stanza_lines_in (take (length back - (c.args.place - length front)) back) =
    let at : c.len-count.result - (c.args.place - c.len-before.result) ≡ length back - (c.args.place - length front) = omega (arith, c.len-count.ensures.len, c.len-before.ensures.len) in
    c.lines_in-else-place-before-3.ensures ∙ ap (λ n. stanza_lines_in (take n back)) at in
    omega (arith, one, two, three, first-behind front back c.args.place (omega (arith, c.if-place-before.false, c.len-before.ensures.len)) c.requires.within)
