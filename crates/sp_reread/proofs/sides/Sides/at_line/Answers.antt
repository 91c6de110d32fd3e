use Rattle.std.proofs.Common.{◌≡◌, ◌+◌, length, reverse, arith}
use Rattle.std.proofs.lemmas.List.{length-append, length-reverse}
use Rattle.sp_reread.specs.Gaps.{gap_list}
use Rattle.sp_reread.proofs.GapPlaces.{met-place}
use Rattle.sp_reread.proofs.sides.Sides.at_line.Goals as goal

pub returns-clause-place : goal.returns-clause-place
returns-clause-place c =
    let front = c.args.front.now.stanzas in
    let back = c.args.back.now.stanzas in
    let xs = gap_list front back in
    let i = c.loop-high.invariant in
    let many : length xs ≡ length front + length back = omega (arith, length-append front (reverse back), length-reverse back) in
    met-place xs c.args.first c.loop-high.at c.loop-high.high i.order (omega (arith, c.loop-high-test.false)) (omega (arith, many, i.within)) (λ some. i.some (omega (arith, many, some))) i.low (λ more. i.past (omega (arith, many, more)))
