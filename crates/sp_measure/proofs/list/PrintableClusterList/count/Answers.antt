use Rattle.std.proofs.Common.{length, ap, arith}
use Rattle.sp_measure.proofs.Bytes.{length-bytes}
use Rattle.sp_measure.proofs.list.PrintableClusterList.count.Goals as goal

pub returns : goal.returns
returns c =
    let p = c.self.inside in
    let view = ap length c.self.view_is in
    omega (arith, view, length-bytes p.style p.from p.bytes.now)
