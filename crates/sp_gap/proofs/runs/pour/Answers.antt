use Rattle.std.proofs.Common.{arith}
use Rattle.sp_gap.proofs.RunLaws.{Poured-one}
use Rattle.sp_gap.proofs.runs.pour.Goals as goal

pub loop-preserved : goal.loop-preserved
loop-preserved g c =
    let one = Poured-one c.replace-source.result.items c.replace-target.result.items c.loop.source.items c.loop.target.items c.take_last.new.self.items c.push_reserved.new.self.items c.loop.counter c.take_last.result c.loop.invariant.0 c.take_last.ensures.items c.push_reserved.ensures.items in
    (one, omega arith, omega arith, omega arith, omega arith)
