use Rattle.std.proofs.Common.{sym, ap, ◌∙◌, arith}
use Rattle.std.proofs.lemmas.Option.{get_or_from_slice_get}
use Rattle.sp_layout.specs.Bodies.{BodyOf, starts_by, headings_of}
use Rattle.sp_layout.proofs.Places.{heading-starts}
use Rattle.sp_layout.proofs.body.Body.heading_start.Goals as goal

pub at-requires : goal.at-requires
at-requires c =
    let are = heading-starts c.args.self.now.elements c.self.inside.heading_starts.items (c.self.invariant.heading_starts ∙ ap (λ (body : BodyOf). starts_by headings_of 0 body.elements) c.self.view_is) in
    omega (arith, are.count, c.requires)

pub returns : goal.returns
returns c =
    let are = heading-starts c.args.self.now.elements c.self.inside.heading_starts.items (c.self.invariant.heading_starts ∙ ap (λ (body : BodyOf). starts_by headings_of 0 body.elements) c.self.view_is) in
    sym (get_or_from_slice_get c.self.inside.heading_starts.items c.args.element c.at.result c.at.result c.at.ensures) ∙ are.get c.args.element c.at.result c.requires
