use Rattle.std.proofs.Common.{IfSome, subst, arith}
use Rattle.spec_edit.specs.Settling.{IsNextSettling}
use Rattle.sp_reread.specs.Gaps.{gap_list}
use Rattle.sp_reread.proofs.SettlingLaws.{next-over-gap}
use Rattle.sp_reread.proofs.settling.next_settling.Goals as goal

pub returns-in-None-clause-some : goal.returns-in-None-clause-some
returns-in-None-clause-some c =
    let front = c.args.front.now.stanzas in
    let back = c.args.back.now.stanzas in
    next-over-gap front back c.args.from c.next_behind-in-None.result (omega (arith, c.if-from-before.false, c.len-before.ensures.len)) c.in-None.ensures.none
    (subst (λ n. IfSome c.next_behind-in-None.result (IsNextSettling (gap_list front back) n)) c.len-before.ensures.len c.next_behind-in-None.ensures.some)
