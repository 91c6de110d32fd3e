use Rattle.std.proofs.Common.{subst, arith}
use Rattle.spec_edit.specs.Settling.{IsSettledBefore}
use Rattle.sp_reread.proofs.SettlingLaws.{past-gap, none-past-gap}
use Rattle.sp_reread.proofs.settling.settled_before.Goals as goal

pub returns-in-Some : goal.returns-in-Some
returns-in-Some c =
    past-gap c.args.front.now.stanzas c.args.back.now.stanzas c.args.to _ c.in-Some.place _ (omega (arith, c.if-to-before.false, c.len-before.ensures.len)) c.requires
    (omega (arith, c.len-before.ensures.len, c.len-count.ensures.len)) (omega (arith, c.len-before.ensures.len, c.len-count.ensures.len)) c.in-Some.ensures.some

pub returns-in-None : goal.returns-in-None
returns-in-None c =
    none-past-gap c.args.front.now.stanzas c.args.back.now.stanzas c.args.to _ c.settled_in-in-None.result (omega (arith, c.if-to-before.false, c.len-before.ensures.len)) c.requires
    (omega (arith, c.len-before.ensures.len, c.len-count.ensures.len)) c.in-None.ensures.none
    (subst (λ n. IsSettledBefore c.args.front.now.stanzas n c.settled_in-in-None.result) c.len-before.ensures.len c.settled_in-in-None.ensures)
