use Rattle.std.proofs.Common.{◌<◌, length, ap, sym, ◌∙◌, arith}
use Rattle.spec_pages.specs.Wrapping.{is_space_at}
use Rattle.sp_measure.proofs.Windows.{length-window, space-window}
use Rattle.sp_measure.proofs.shown.PrintableRunsClusterList.is_space.Goals as goal

pub bounds-self-inside-place : goal.bounds-self-inside-place
bounds-self-inside-place c =
    let p = c.self.inside in
    let view = ap length c.self.view_is in
    omega (arith, view, length-window (length p.bytes.now) p.skip p.text.now p.runs.now p.bytes.now c.self.invariant.0)

pub returns : goal.returns
returns c =
    let p = c.self.inside in
    let view = ap length c.self.view_is in
    let inside : c.args.place < length p.bytes.now = omega (arith, view, length-window (length p.bytes.now) p.skip p.text.now p.runs.now p.bytes.now c.self.invariant.0) in
    sym (space-window (length p.bytes.now) p.skip p.text.now p.runs.now p.bytes.now c.args.place c.self.invariant.0 inside)
    ∙ ap (λ clusters. is_space_at clusters c.args.place) c.self.view_is
