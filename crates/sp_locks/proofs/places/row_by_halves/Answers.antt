use Rattle.std.proofs.Common.{sym, ◌∙◌, arith}
use Rattle.sp_locks.proofs.PlaceLaws.{rows-partitioned, Halved-behind, Halved-before, Halved-found}
use Rattle.sp_locks.proofs.places.row_by_halves.Goals as goal

pub loop-from-preserved-then-is_before : goal.loop-from-preserved-then-is_before
loop-from-preserved-then-is_before c =
    let parted = rows-partitioned c.args.lines.now.lines c.args.rows.now.items c.args.anchor c.requires in
    Halved-behind _ _ _ _ _ _ parted c.loop-from.invariant (omega arith) c.at.ensures (sym c.is_before.ensures ∙ c.if-is_before.true)

pub loop-from-preserved : goal.loop-from-preserved
loop-from-preserved c =
    let parted = rows-partitioned c.args.lines.now.lines c.args.rows.now.items c.args.anchor c.requires in
    Halved-before _ _ _ _ _ _ parted c.loop-from.invariant (omega arith) (omega arith) c.at.ensures (sym c.is_before.ensures ∙ c.if-is_before.false)

pub returns : goal.returns
returns c = Halved-found _ _ _ _ c.loop-from.invariant c.loop-from-test.false
