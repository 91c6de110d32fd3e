use Rattle.std.proofs.Common.{sym, ◌∙◌, arith}
use Rattle.sp_gap.proofs.RingLaws.{turned-item, turned-set}
use Rattle.sp_gap.proofs.gap_list.put.Goals as goal

pub returns-clause-items : goal.returns-clause-items
returns-clause-items g c =
    let a = c.args in
    turned-set a.ring.now.items c.len.result a.behind a.place c.slot-slot.result a.item (omega arith) (omega arith) (omega arith) c.slot-slot.ensures.slot

pub returns-clause-was : goal.returns-clause-was
returns-clause-was g c =
    let a = c.args in
    c.index-was.ensures ∙ sym (turned-item a.ring.now.items c.len.result a.behind a.place c.slot-slot.result c.index-was.result.now (omega arith) (omega arith) (omega arith) c.slot-slot.ensures.slot)
