use Rattle.std.proofs.Common.{slice_set, refl, arith}
use Rattle.sp_gap.specs.Gaps.{turned}
use Rattle.sp_gap.proofs.RingLaws.{traded-one, turned-length}
use Rattle.sp_gap.proofs.gap_list.swap_run.Goals as goal

pub loop-k-preserved : goal.loop-k-preserved
loop-k-preserved g c =
    let a = c.args in
    let was = c.loop-k.invariant in
    let one = traded-one (turned a.behind a.ring.now.items) a.items.now.items (turned a.behind c.loop-k.ring.items) c.loop-k.items.items (turned a.behind c.swap_at.new.ring.items) (slice_set c.loop-k.items.items c.loop-k.k c.swap_at.new.item) a.from c.loop-k.k c.swap_at.new.item c.index_mut.result.now (omega (arith, turned-length a.ring.now.items a.behind (omega arith))) (omega arith) was.list was.others c.index_mut.ensures.value c.swap_at.ensures.was c.swap_at.ensures.items refl in
    record {
      list = one.0;
      others = one.1;
      len = omega arith;
      others_len = omega arith;
      room = omega arith;
      others_room = omega arith;
    }
