use Rattle.std.proofs.Common.{refl, ap, ◌∙◌, arith}
use Rattle.sp_layout.specs.Bodies.{BodyOf, row_count, starts_by, rows_of}
use Rattle.sp_layout.proofs.Places.{row-starts, first-start, stands-in}
use Rattle.sp_layout.proofs.body.Body.element_of_row.Goals as goal

pub last_start-requires : goal.last_start-requires
last_start-requires c =
    let elements = c.args.self.now.elements in
    let are = row-starts elements c.self.inside.row_starts.items (c.self.invariant.row_starts ∙ ap (λ (body : BodyOf). starts_by rows_of 0 body.elements) c.self.view_is) in
    let first = first-start row_count elements c.self.inside.row_starts.items c.args.row are refl c.requires in
    record { rise = are.rise; some = first.0; first = first.1; low = omega (arith, c.requires, c.len-len.ensures.row_enough, c.len-len.ensures.row_small) }

pub returns : goal.returns
returns c =
    let elements = c.args.self.now.elements in
    let are = row-starts elements c.self.inside.row_starts.items (c.self.invariant.row_starts ∙ ap (λ (body : BodyOf). starts_by rows_of 0 body.elements) c.self.view_is) in
    stands-in elements c.self.inside.row_starts.items c.args.row c.last_start.result are c.requires c.last_start.ensures
