use Rattle.std.proofs.Common.{◌≡◌, reverse, sym, ap, ◌∙◌, arith}
use Rattle.std.proofs.lemmas.List.{length-append, length-reverse, take_all}
use Rattle.spec_edit.specs.Windows.{stanza_lines_in}
use Rattle.sp_reread.specs.Gaps.{gap_list}
use Rattle.sp_reread.proofs.GapPlaces.{sides-lines}
use Rattle.sp_reread.proofs.sides.Sides.lines.Goals as goal

pub returns : goal.returns
returns c =
    let front = c.self.inside.front.now.stanzas in
    let back = c.self.inside.back.now.stanzas in
    let xs = gap_list front back in
    let all : c.lines_before.result ≡ stanza_lines_in xs =
    c.lines_before.ensures ∙ ap stanza_lines_in (take_all _ xs (omega (arith, length-append front (reverse back), length-reverse back, c.len.ensures.len, c.len-2.ensures.len)))
    in
    rw (← c.self.view_is) (all ∙ sym (sides-lines xs c.self.inside.at))
