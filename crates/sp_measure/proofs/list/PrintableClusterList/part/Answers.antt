use Rattle.std.proofs.Common.{◌+◌, ◌-◌, length, length-take, length-drop, take, drop, slice_range, ap, sym, ◌∙◌, arith}
use Rattle.sp_measure.proofs.Bytes.{length-bytes, take-bytes, drop-bytes}
use Rattle.sp_measure.proofs.list.PrintableClusterList.part.Goals as goal

pub slice_bounds-result-end : goal.slice_bounds-result-end
slice_bounds-result-end c =
    let p = c.self.inside in
    let view = ap length c.self.view_is in
    omega (arith, view, length-bytes p.style p.from p.bytes.now)

pub overflow_cast-result : goal.overflow_cast-result
overflow_cast-result c =
    let p = c.self.inside in
    let view = ap length c.self.view_is in
    let within = c.requires.within in
    let order = c.requires.order in
    let small = c.self.invariant in
    omega (arith, view, length-bytes p.style p.from p.bytes.now)

pub overflow_add-result : goal.overflow_add-result
overflow_add-result c =
    let p = c.self.inside in
    let view = ap length c.self.view_is in
    let within = c.requires.within in
    let order = c.requires.order in
    let small = c.self.invariant in
    omega (arith, view, length-bytes p.style p.from p.bytes.now)

pub returns : goal.returns
returns c =
    let p = c.self.inside in
    let rest = drop c.args.from p.bytes.now in
    let cut = ap (take (c.args.to - c.args.from)) (drop-bytes c.args.from p.style p.from p.bytes.now)
    ∙ take-bytes (c.args.to - c.args.from) p.style (p.from + c.args.from) rest in
    sym cut ∙ ap (λ clusters. slice_range clusters c.args.from c.args.to) c.self.view_is

pub invariant_of-result : goal.invariant_of-result
invariant_of-result c =
    let p = c.self.inside in
    let view = ap length c.self.view_is in
    let within = c.requires.within in
    let order = c.requires.order in
    let small = c.self.invariant in
    omega (arith, view, length-bytes p.style p.from p.bytes.now, length-take (c.args.to - c.args.from) (drop c.args.from p.bytes.now), length-drop c.args.from p.bytes.now)
