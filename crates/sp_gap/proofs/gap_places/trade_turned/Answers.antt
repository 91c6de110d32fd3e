use Rattle.std.proofs.Common.{reverse, ap, ◌∙◌}
use Rattle.sp_gap.proofs.GapLaws.{turned-exchanged}
use Rattle.sp_gap.proofs.gap_places.trade_turned.Goals as goal

pub returns-clause-list : goal.returns-clause-list
returns-clause-list g c =
    let a = c.args in
    (turned-exchanged a.list.now.items a.items.now.items c.reverse.new.self.items c.trade.new.list.items a.list.now.len a.from a.to a.list.now.ok.0 c.requires.order c.requires.within c.reverse.ensures.items c.trade.ensures.list).0

pub returns-clause-items : goal.returns-clause-items
returns-clause-items g c =
    let a = c.args in
    c.reverse-2.ensures.items ∙ ap reverse c.trade.ensures.items
    ∙ (turned-exchanged a.list.now.items a.items.now.items c.reverse.new.self.items c.trade.new.list.items a.list.now.len a.from a.to a.list.now.ok.0 c.requires.order c.requires.within c.reverse.ensures.items c.trade.ensures.list).1
