use Rattle.std.proofs.Common.{sym, ap, ◌∙◌, arith}
use Rattle.std.proofs.lemmas.List.{take_all}
use Rattle.sp_layout.specs.Bodies.{BodyOf, row_count, starts_by, rows_of}
use Rattle.sp_layout.proofs.Places.{row-starts}
use Rattle.sp_layout.proofs.body.Body.rows_before.Goals as goal

pub row_start-requires : goal.row_start-requires
row_start-requires c =
    let are = row-starts c.args.self.now.elements c.self.inside.row_starts.items (c.self.invariant.row_starts ∙ ap (λ (body : BodyOf). starts_by rows_of 0 body.elements) c.self.view_is) in
    omega (arith, are.count, c.len.ensures.len, c.if-place-len.true)

pub returns-else-place-len : goal.returns-else-place-len
returns-else-place-len c =
    let are = row-starts c.args.self.now.elements c.self.inside.row_starts.items (c.self.invariant.row_starts ∙ ap (λ (body : BodyOf). starts_by rows_of 0 body.elements) c.self.view_is) in
    c.rows.ensures ∙ sym (ap row_count (take_all c.args.place c.args.self.now.elements (omega (arith, are.count, c.len.ensures.len, c.if-place-len.false))))
