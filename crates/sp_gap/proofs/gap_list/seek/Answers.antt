use Rattle.std.proofs.Common.{◌-◌, ◌+◌, refl, arith}
use Rattle.sp_gap.proofs.RingLaws.{turned-back, turned-on}
use Rattle.sp_gap.proofs.gap_list.seek.Goals as goal

pub returns-then-place-ahead-clause-items : goal.returns-then-place-ahead-clause-items
returns-then-place-ahead-clause-items g c =
    let a = c.args in
    let n = c.len.result - a.behind.now - a.place in
    turned-back a.ring.now.items c.rotate_right.new.self.items a.ring.now.len a.behind.now (a.behind.now + n) n a.ring.now.ok.0 (omega arith) (omega arith) refl c.rotate_right.ensures.items

pub returns-clause-items : goal.returns-clause-items
returns-clause-items g c =
    let a = c.args in
    let n = a.place - (c.len.result - a.behind.now) in
    turned-on a.ring.now.items c.rotate_left.new.self.items c.len.result a.behind.now (a.behind.now - n) n (omega arith) (omega arith) (omega arith) refl c.rotate_left.ensures.items
