-- Each byte is one column wide.
use Rattle.std.proofs.Common.{◌+◌, length, take, ap, arith}
use Rattle.spec_pages.specs.Wrapping.{total_width}
use Rattle.sp_measure.proofs.Windows.{length-window, width-window}
use Rattle.sp_measure.proofs.shown.PrintableRunsClusterList.fitting.Goals as goal

pub returns-clause-within : goal.returns-clause-within
returns-clause-within c =
    let p = c.self.inside in
    let view = ap length c.self.view_is in
    omega (arith, view, length-window (length p.bytes.now) p.skip p.text.now p.runs.now p.bytes.now c.self.invariant.0)

pub returns-clause-fit : goal.returns-clause-fit
returns-clause-fit c =
    let p = c.self.inside in
    let n = c.min.result in
    let view = ap (λ clusters. total_width (take n clusters)) c.self.view_is in
    omega (arith, view, width-window n (length p.bytes.now) p.skip p.text.now p.runs.now)

pub returns-clause-over : goal.returns-clause-over
returns-clause-over c below =
    let p = c.self.inside in
    let n = c.min.result + 1 in
    let view = ap (λ clusters. total_width (take n clusters)) c.self.view_is in
    let len = ap length c.self.view_is in
    omega (arith, view, len, width-window n (length p.bytes.now) p.skip p.text.now p.runs.now, length-window (length p.bytes.now) p.skip p.text.now p.runs.now p.bytes.now c.self.invariant.0)
