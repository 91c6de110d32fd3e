use Rattle.std.proofs.Common.{sym, ap, ◌∙◌, arith}
use Rattle.std.proofs.lemmas.List.{take_all}
use Rattle.spec_sheets.specs.Shown.{heading_count}
use Rattle.sp_layout.specs.Bodies.{BodyOf, starts_by, headings_of}
use Rattle.sp_layout.proofs.Places.{heading-starts}
use Rattle.sp_layout.proofs.body.Body.headings_before.Goals as goal

pub heading_start-requires : goal.heading_start-requires
heading_start-requires c =
    let are = heading-starts c.args.self.now.elements c.self.inside.heading_starts.items (c.self.invariant.heading_starts ∙ ap (λ (body : BodyOf). starts_by headings_of 0 body.elements) c.self.view_is) in
    omega (arith, are.count, c.len.ensures.len, c.if-place-len.true)

pub returns-else-place-len : goal.returns-else-place-len
returns-else-place-len c =
    let are = heading-starts c.args.self.now.elements c.self.inside.heading_starts.items (c.self.invariant.heading_starts ∙ ap (λ (body : BodyOf). starts_by headings_of 0 body.elements) c.self.view_is) in
    c.headings.ensures ∙ sym (ap heading_count (take_all c.args.place c.args.self.now.elements (omega (arith, are.count, c.len.ensures.len, c.if-place-len.false))))
