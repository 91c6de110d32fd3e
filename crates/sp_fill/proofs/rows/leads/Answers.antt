use Rattle.std.proofs.Common.{arith}
use Rattle.sp_fill.proofs.Scans.{leads-more}
use Rattle.sp_fill.proofs.rows.leads.Goals as goal

pub loop-row-preserved : goal.loop-row-preserved
loop-row-preserved c =
    let more = leads-more c.args.shapes.now.items c.args.from c.loop-row.row c.at.result.now c.loop-row.auto.row c.at.ensures in
    (omega (arith, more), omega arith)
