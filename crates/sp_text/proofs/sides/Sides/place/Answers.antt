use Rattle.std.proofs.Common.{◌==◌, ◌∙◌, List, ap, sym, subst, position, length}
use Rattle.spec_text.specs.Lines.{LineState}
use Rattle.sp_text.specs.Gap.{GapState, HaveOwnIds}
use Rattle.sp_text.proofs.Places.{place-none, place-front, place-back}
use Rattle.sp_text.proofs.sides.Sides.place.Goals as goal

pub returns-in-None : goal.returns-in-None
returns-in-None c =
    let inside = c.self.inside in
    let known = c.self.invariant.indexes in
    place-none inside.front.items inside.back.items inside.index known c.args.id c.in-None.ensures
    ∙ ap (λ (g : GapState). position (λ (line : LineState). line.id == c.args.id) g.lines) c.self.view_is

pub returns-in-Front : goal.returns-in-Front
returns-in-Front c =
    let inside = c.self.inside in
    let known = c.self.invariant.indexes in
    let whole = ap (λ (g : GapState). g.lines) c.self.view_is in
    place-front inside.front.items inside.back.items inside.index known c.args.id (subst HaveOwnIds (sym whole) c.requires) c.in-Some.entry c.in-Some.ensures c.in-Front.is
    ∙ ap (λ lines. position (λ (line : LineState). line.id == c.args.id) lines) whole

pub returns-in-Back : goal.returns-in-Back
returns-in-Back c =
    let inside = c.self.inside in
    let known = c.self.invariant.indexes in
    let whole = ap (λ (g : GapState). g.lines) c.self.view_is in
    place-back inside.front.items inside.back.items inside.index known c.args.id (subst HaveOwnIds (sym whole) c.requires) c.in-Some.entry c.in-Some.ensures c.len.result (c.len.ensures.len ∙ ap (λ (lines : List LineState). length lines) (sym whole)) c.in-Back.is
    ∙ ap (λ lines. position (λ (line : LineState). line.id == c.args.id) lines) whole
