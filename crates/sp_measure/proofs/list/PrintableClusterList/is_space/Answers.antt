use Rattle.std.proofs.Common.{◌<◌, length, ap, sym, ◌∙◌, arith}
use Rattle.spec_pages.specs.Wrapping.{is_space_at}
use Rattle.sp_measure.proofs.Bytes.{length-bytes, is_space_at-bytes}
use Rattle.sp_measure.proofs.list.PrintableClusterList.is_space.Goals as goal

pub bounds-self-inside-place : goal.bounds-self-inside-place
bounds-self-inside-place c =
    let p = c.self.inside in
    let view = ap length c.self.view_is in
    omega (arith, view, length-bytes p.style p.from p.bytes.now)

pub returns : goal.returns
returns c =
    let p = c.self.inside in
    let view = ap length c.self.view_is in
    let inside : c.args.place < length p.bytes.now = omega (arith, view, length-bytes p.style p.from p.bytes.now) in
    sym (is_space_at-bytes c.args.place p.style p.from p.bytes.now inside) ∙ ap (λ clusters. is_space_at clusters c.args.place) c.self.view_is
