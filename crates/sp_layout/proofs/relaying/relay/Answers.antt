use Rattle.std.proofs.Common.{◌≡◌, sym, ap, subst, ◌∙◌}
use Rattle.sp_layout.specs.LaidOut.{LayoutOf, layout_behind}
use Rattle.sp_layout.specs.declared.kept.PartPlaces.{PartPlaces}
use Rattle.sp_layout.specs.Kept.{laid_of, places_back, with_part}
use Rattle.sp_layout.specs.Outside.{StaysOutside}
use Rattle.sp_layout.proofs.PartLaws.{relaid-is}
use Rattle.sp_layout.proofs.OutsideLaws.{outside-stays}
use Rattle.sp_layout.proofs.relaying.relay.Goals as goal

pub returns-in-Ok-clause-layout : goal.returns-in-Ok-clause-layout
returns-in-Ok-clause-layout c before it =
    let old = laid_of c.args.kept.now in
    c.in-Ok.ensures.layout ∙ ap (with_part old c.args.places) (c.new.ensures ∙ c.in_ok-layout.ensures)
    ∙ relaid-is before c.args.lines.now.lines c.args.speakers c.args.blocks.now c.args.places old it

pub returns-in-Ok-clause-places : goal.returns-in-Ok-clause-places
returns-in-Ok-clause-places c = c.in-Ok.ensures.places ∙ ap (places_back c.args.places) (c.new.ensures ∙ c.in_ok-layout.ensures)

pub returns-in-Ok-clause-outside : goal.returns-in-Ok-clause-outside
returns-in-Ok-clause-outside c before it =
    let lines = c.args.lines.now.lines in
    let old = laid_of c.args.kept.now in
    let part = layout_behind lines c.args.speakers c.args.blocks.now in
    let come : laid_of c.new.result ≡ part = c.new.ensures ∙ c.in_ok-layout.ensures in
    let now : laid_of c.swap.new.self ≡ with_part old c.args.places part = c.in-Ok.ensures.layout ∙ ap (with_part old c.args.places) come in
    let at : c.in-Ok.back.places ≡ places_back c.args.places part = c.in-Ok.ensures.places ∙ ap (places_back c.args.places) come in
    subst (λ (p : PartPlaces). StaysOutside before lines c.swap.new.self.body.elements p) (sym at)
    (subst (λ (l : LayoutOf). StaysOutside before lines l.body.elements (places_back c.args.places part)) (sym now) (outside-stays before lines c.args.speakers c.args.blocks.now c.args.places old it))
