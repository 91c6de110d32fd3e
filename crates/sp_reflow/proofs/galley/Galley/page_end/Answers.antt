use Rattle.std.proofs.Common.{◌<◌, length, ap, ◌∙◌, arith}
use Rattle.spec_pages.specs.Heights.{next_stop}
use Rattle.spec_pages.specs.Pages.{next_page, page_end}
use Rattle.spec_edit.proofs.NearStops.{stop_above-is}
use Rattle.sp_reflow.specs.Galleys.{GalleyOf}
use Rattle.sp_reflow.proofs.galley.Galley.page_end.Goals as goal

pub fill-requires-clause-order : goal.fill-requires-clause-order
fill-requires-clause-order g c =
    let shapes = c.self.inside.shapes.now.items in
    let stops = c.self.inside.stops.now in
    let inside : c.args.p < length shapes = omega (arith, c.requires, ap (λ (it : GalleyOf). length it.shapes) c.self.view_is) in
    let stop = stop_above-is shapes stops c.args.p c.self.invariant.stops inside in
    omega (arith, stop.above, c.stop_above-stop.ensures, ap (λ rows. next_stop rows stops c.args.p) c.len.ensures.len)

pub fill-requires-clause-within : goal.fill-requires-clause-within
fill-requires-clause-within g c =
    let shapes = c.self.inside.shapes.now.items in
    let stops = c.self.inside.stops.now in
    let inside : c.args.p < length shapes = omega (arith, c.requires, ap (λ (it : GalleyOf). length it.shapes) c.self.view_is) in
    let stop = stop_above-is shapes stops c.args.p c.self.invariant.stops inside in
    omega (arith, stop.within, c.stop_above-stop.ensures, ap (λ rows. next_stop rows stops c.args.p) c.len.ensures.len)

pub returns-clause-value : goal.returns-clause-value
returns-clause-value g c =
    let shapes = c.self.inside.shapes.now.items in
    let stops = c.self.inside.stops.now in
    c.fill.ensures.value ∙ ap (page_end c.self.inside.body shapes c.args.p) (c.stop_above-stop.ensures ∙ ap (λ rows. next_stop rows stops c.args.p) c.len.ensures.len)
    ∙ ap (λ (it : GalleyOf). next_page it.limit it.shapes it.stops c.args.p) c.self.view_is
