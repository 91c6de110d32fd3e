use Rattle.std.proofs.Common.{arith}
use Rattle.sp_reread.proofs.SettlingLaws.{next-past-gap, no-next-past-gap}
use Rattle.sp_reread.proofs.settling.next_behind.Goals as goal

pub returns-then-settled-eq0-clause-none : goal.returns-then-settled-eq0-clause-none
returns-then-settled-eq0-clause-none c =
    no-next-past-gap c.args.front.now.stanzas c.args.back.now.stanzas c.args.from _ c.settled_in-settled.result c.requires.behind c.requires.within
    (omega (arith, c.len-before.ensures.len, c.len-count.ensures.len)) c.if-settled-eq0.true c.settled_in-settled.ensures

pub returns-else-settled-eq0-clause-some : goal.returns-else-settled-eq0-clause-some
returns-else-settled-eq0-clause-some c =
    next-past-gap c.args.front.now.stanzas c.args.back.now.stanzas c.args.from _ c.settled_in-settled.result _ c.requires.behind c.requires.within
    (omega (arith, c.len-before.ensures.len, c.len-count.ensures.len)) (omega (arith, c.if-settled-eq0.false)) (omega (arith, c.len-before.ensures.len, c.len-count.ensures.len)) c.settled_in-settled.ensures
