-- A part of a window is a window.
use Rattle.std.proofs.Common.{◌≡◌, ◌+◌, ◌-◌, ◌≤◌, length, length-take, length-drop, take, drop, slice_range, ap, sym, ◌∙◌, arith}
use Rattle.sp_measure.specs.Shown.{shown_bytes, shown_clusters}
use Rattle.sp_measure.proofs.Windows.{length-window, window-part}
use Rattle.sp_measure.proofs.shown.PrintableRunsClusterList.part.Goals as goal

pub slice_bounds-result-end : goal.slice_bounds-result-end
slice_bounds-result-end c =
    let p = c.self.inside in
    let view = ap length c.self.view_is in
    omega (arith, view, length-window (length p.bytes.now) p.skip p.text.now p.runs.now p.bytes.now c.self.invariant.0)

pub overflow_add-result : goal.overflow_add-result
overflow_add-result c =
    let p = c.self.inside in
    let view = ap length c.self.view_is in
    let within = c.requires.within in
    let order = c.requires.order in
    let small = c.self.invariant.2 in
    omega (arith, view, length-window (length p.bytes.now) p.skip p.text.now p.runs.now p.bytes.now c.self.invariant.0)

pub returns : goal.returns
returns c =
    let p = c.self.inside in
    let view = ap length c.self.view_is in
    let n = length p.bytes.now in
    let size = length-window n p.skip p.text.now p.runs.now p.bytes.now c.self.invariant.0 in
    let within : c.args.to ≤ n = omega (arith, view, size, c.requires.within) in
    let cut = slice_range p.bytes.now c.args.from c.args.to in
    let long : length cut ≡ c.args.to - c.args.from = omega (arith, length-take (c.args.to - c.args.from) (drop c.args.from p.bytes.now), length-drop c.args.from p.bytes.now) in
    ap (λ m. take m (drop (p.skip + c.args.from) (shown_clusters p.text.now p.runs.now))) long
    ∙ sym (window-part p.skip n c.args.from c.args.to (shown_clusters p.text.now p.runs.now) c.requires.order within)
    ∙ ap (λ clusters. slice_range clusters c.args.from c.args.to) c.self.view_is

pub invariant_of-result : goal.invariant_of-result
invariant_of-result c =
    let p = c.self.inside in
    let view = ap length c.self.view_is in
    let n = length p.bytes.now in
    let size = length-window n p.skip p.text.now p.runs.now p.bytes.now c.self.invariant.0 in
    let within : c.args.to ≤ n = omega (arith, view, size, c.requires.within) in
    let cut = slice_range p.bytes.now c.args.from c.args.to in
    let long : length cut ≡ c.args.to - c.args.from = omega (arith, length-take (c.args.to - c.args.from) (drop c.args.from p.bytes.now), length-drop c.args.from p.bytes.now) in
    let order = c.requires.order in
    let small = c.self.invariant.2 in (
      ap (λ bytes. slice_range bytes c.args.from c.args.to) c.self.invariant.0
          ∙ window-part p.skip n c.args.from c.args.to (shown_bytes p.text.now p.runs.now) order within
          ∙ ap (λ m. take m (drop (p.skip + c.args.from) (shown_bytes p.text.now p.runs.now))) (sym long),
      c.self.invariant.1,
      omega arith,
    )
