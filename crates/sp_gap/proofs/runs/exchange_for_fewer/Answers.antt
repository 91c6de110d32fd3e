use Rattle.std.proofs.Common.{◌++◌, ◌-◌, length, drop, refl, ap, ◌∙◌, arith}
use Rattle.sp_gap.proofs.RunLaws.{fewer-exchanged}
use Rattle.sp_gap.proofs.runs.exchange_for_fewer.Goals as goal

pub returns-clause-list : goal.returns-clause-list
returns-clause-list g c =
    c.hand_over.ensures.from
    ∙ (fewer-exchanged c.args.list.now.items c.args.items.now.items c.trade.new.list.items c.send_off.new.list.items c.args.from c.args.to c.len-count.result (c.args.to - c.args.from - c.len-count.result)
    c.requires.order (omega (arith, c.requires.within, c.args.list.now.ok.0)) (c.len-count.ensures ∙ c.args.items.now.ok.0) (omega (arith, c.requires.few, c.len-count.ensures)) refl
    c.trade.ensures.list c.send_off.ensures.items).0

pub returns-clause-items : goal.returns-clause-items
returns-clause-items g c =
    let less = c.args.to - c.args.from - c.len-count.result in
    c.hand_over.ensures.to
    ∙ ap (λ xs. xs ++ drop (length c.send_off.new.list.items - less) c.send_off.new.list.items) c.trade.ensures.items
    ∙ (fewer-exchanged c.args.list.now.items c.args.items.now.items c.trade.new.list.items c.send_off.new.list.items c.args.from c.args.to c.len-count.result less
    c.requires.order (omega (arith, c.requires.within, c.args.list.now.ok.0)) (c.len-count.ensures ∙ c.args.items.now.ok.0) (omega (arith, c.requires.few, c.len-count.ensures)) refl
    c.trade.ensures.list c.send_off.ensures.items).1
