use Rattle.std.proofs.Common.{◌-◌, ap, ◌∙◌, arith}
use Rattle.sp_gap.proofs.RunLaws.{more-exchanged}
use Rattle.sp_gap.proofs.runs.exchange_for_more.Goals as goal

pub returns-clause-list : goal.returns-clause-list
returns-clause-list g c =
    (more-exchanged c.args.list.now.items c.args.items.now.items c.hand_over.new.to.items c.hand_over.new.from.items c.trade.new.list.items c.bring_back.new.list.items c.args.from c.args.to (c.len.result - (c.args.to - c.args.from))
    c.requires.order (omega (arith, c.requires.within, c.args.list.now.ok.0)) (omega (arith, c.requires.enough, c.args.items.now.ok.0)) (ap (λ n. n - (c.args.to - c.args.from)) (c.len.ensures ∙ c.args.items.now.ok.0))
    c.hand_over.ensures.to c.hand_over.ensures.from c.trade.ensures.list c.bring_back.ensures.items).0

pub returns-clause-items : goal.returns-clause-items
returns-clause-items g c =
    c.trade.ensures.items
    ∙ (more-exchanged c.args.list.now.items c.args.items.now.items c.hand_over.new.to.items c.hand_over.new.from.items c.trade.new.list.items c.bring_back.new.list.items c.args.from c.args.to (c.len.result - (c.args.to - c.args.from))
    c.requires.order (omega (arith, c.requires.within, c.args.list.now.ok.0)) (omega (arith, c.requires.enough, c.args.items.now.ok.0)) (ap (λ n. n - (c.args.to - c.args.from)) (c.len.ensures ∙ c.args.items.now.ok.0))
    c.hand_over.ensures.to c.hand_over.ensures.from c.trade.ensures.list c.bring_back.ensures.items).1
