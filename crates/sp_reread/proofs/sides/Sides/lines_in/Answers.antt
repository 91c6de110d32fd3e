use Rattle.std.proofs.Common.{◌≡◌, ◌≤◌, ◌+◌, ◌-◌, drop, length, reverse, take, ap, ◌∙◌, arith}
use Rattle.std.proofs.lemmas.List.{length-append, length-drop, length-reverse}
use Rattle.spec_edit.specs.Windows.{stanza_lines_in}
use Rattle.sp_reread.specs.Gaps.{gap_list}
use Rattle.sp_reread.proofs.GapPlaces.{last-lines, sides-lines}
use Rattle.sp_reread.proofs.sides.Sides.lines_in.Goals as goal

facts : (c : goal.After-lines_before) → c.lines_before.result + stanza_lines_in (take c.args.count c.args.self.now.back) ≡ c.lines.result
facts c =
    let front = c.self.inside.front.now.stanzas in
    let back = c.self.inside.back.now.stanzas in
    let at = c.self.inside.at in
    let xs = gap_list front back in
    let many : c.len.result + c.len-2.result ≡ length xs = omega (arith, length-append front (reverse back), length-reverse back, c.len.ensures.len, c.len-2.ensures.len) in
    let few : c.args.count ≤ length (reverse (drop at xs)) = rw (← c.self.view_is) at c.requires in
    let low : at + c.args.count ≤ length xs = omega (arith, few, length-reverse (drop at xs), length-drop at xs, many, c.self.invariant.0, c.len.ensures.len, c.len-2.ensures.len) in
    let all : c.lines.result ≡ stanza_lines_in (take at xs) + stanza_lines_in (reverse (drop at xs)) = rw (← c.self.view_is) at c.lines.ensures in
    let before : c.lines_before.result ≡ stanza_lines_in (take (length xs - c.args.count) xs) = c.lines_before.ensures ∙ ap (λ n. stanza_lines_in (take (n - c.args.count) xs)) many in
    rw (← c.self.view_is) (omega (arith, before, all, last-lines xs at c.args.count low, sides-lines xs at))

pub overflow_sub-result : goal.overflow_sub-result
overflow_sub-result c = omega (arith, facts c)

pub returns : goal.returns
returns c = omega (arith, facts c)
