use Rattle.std.proofs.Common.{sym, ap, ◌∙◌, arith}
use Rattle.std.proofs.lemmas.Option.{get_or_from_slice_get}
use Rattle.sp_layout.specs.Bodies.{BodyOf, starts_by, rows_of}
use Rattle.sp_layout.proofs.Places.{row-starts}
use Rattle.sp_layout.proofs.body.Body.row_start.Goals as goal

pub at-requires : goal.at-requires
at-requires c =
    let are = row-starts c.args.self.now.elements c.self.inside.row_starts.items (c.self.invariant.row_starts ∙ ap (λ (body : BodyOf). starts_by rows_of 0 body.elements) c.self.view_is) in
    omega (arith, are.count, c.requires)

pub returns : goal.returns
returns c =
    let are = row-starts c.args.self.now.elements c.self.inside.row_starts.items (c.self.invariant.row_starts ∙ ap (λ (body : BodyOf). starts_by rows_of 0 body.elements) c.self.view_is) in
    sym (get_or_from_slice_get c.self.inside.row_starts.items c.args.element c.at.result c.at.result c.at.ensures) ∙ are.get c.args.element c.at.result c.requires
