use Rattle.std.proofs.Common.{◌≡◌, get_or, set, sym, ap, ◌∙◌, subst, arith}
use Rattle.sp_gap.specs.Gaps.{turned}
use Rattle.sp_gap.proofs.RingLaws.{turned-item, turned-set}
use Rattle.sp_gap.proofs.gap_list.swap_at.Goals as goal

pub returns-clause-items : goal.returns-clause-items
returns-clause-items g c =
    let a = c.args in
    ap (λ x. turned a.behind (set a.ring.now.items c.slot-slot.result x)) c.swap.ensures.x_after
    ∙ turned-set a.ring.now.items c.len.result a.behind a.place c.slot-slot.result a.item.now (omega arith) (omega arith) (omega arith) c.slot-slot.ensures.slot

pub returns-clause-was : goal.returns-clause-was
returns-clause-was g c =
    let a = c.args in
    let list = turned a.behind a.ring.now.items in
    subst (λ x. x ≡ get_or list a.place x) (sym c.swap.ensures.y_after)
    (c.index_mut.ensures.value ∙ sym (turned-item a.ring.now.items c.len.result a.behind a.place c.slot-slot.result c.index_mut.result.now (omega arith) (omega arith) (omega arith) c.slot-slot.ensures.slot))
