use Rattle.std.proofs.Common.{length, ap, sym, ◌∙◌}
use Rattle.sp_measure.proofs.Windows.{length-window}
use Rattle.sp_measure.proofs.shown.PrintableRunsClusterList.count.Goals as goal

pub returns : goal.returns
returns c =
    let p = c.self.inside in
    sym (length-window (length p.bytes.now) p.skip p.text.now p.runs.now p.bytes.now c.self.invariant.0) ∙ ap length c.self.view_is
