-- Each byte is one column wide.
use Rattle.std.proofs.Common.{◌+◌, length, take, ap, arith, length-take, ◌∙◌}
use Rattle.spec_pages.specs.Wrapping.{total_width}
use Rattle.sp_measure.proofs.Bytes.{length-bytes, take-bytes, total_width-bytes}
use Rattle.sp_measure.proofs.list.PrintableClusterList.fitting.Goals as goal

pub returns-clause-within : goal.returns-clause-within
returns-clause-within c =
    let p = c.self.inside in
    let view = ap length c.self.view_is in
    omega (arith, view, length-bytes p.style p.from p.bytes.now)

pub returns-clause-fit : goal.returns-clause-fit
returns-clause-fit c =
    let p = c.self.inside in
    let n = c.min.result in
    let view = ap (λ clusters. total_width (take n clusters)) c.self.view_is in
    let wide = ap total_width (take-bytes n p.style p.from p.bytes.now) ∙ total_width-bytes p.style p.from (take n p.bytes.now) in
    omega (arith, view, wide, length-take n p.bytes.now)

pub returns-clause-over : goal.returns-clause-over
returns-clause-over c below =
    let p = c.self.inside in
    let n = c.min.result + 1 in
    let view = ap (λ clusters. total_width (take n clusters)) c.self.view_is in
    let len = ap length c.self.view_is in
    let wide = ap total_width (take-bytes n p.style p.from p.bytes.now) ∙ total_width-bytes p.style p.from (take n p.bytes.now) in
    omega (arith, view, wide, len, length-bytes p.style p.from p.bytes.now, length-take n p.bytes.now)
