use Rattle.std.proofs.Common.{List, length, slice_range, ap, ◌∙◌, arith}
use Rattle.spec_pages.specs.Rows.{ElementOf}
use Rattle.sp_layout.specs.Bodies.{BodyOf, starts_by, rows_of}
use Rattle.sp_layout.proofs.Places.{row-starts, page-part, PagePart-page}
use Rattle.sp_layout.proofs.body.Body.page_part.Goals as goal

pub starts_below-end-requires : goal.starts_below-end-requires
starts_below-end-requires c =
    let elements = c.args.self.now.elements in
    let are = row-starts elements c.self.inside.row_starts.items (c.self.invariant.row_starts ∙ ap (λ (body : BodyOf). starts_by rows_of 0 body.elements) c.self.view_is) in
    are.rise

pub part_of-requires : goal.part_of-requires
part_of-requires c =
    let elements = c.args.self.now.elements in
    let starts = c.self.inside.row_starts.items in
    let are = row-starts elements starts (c.self.invariant.row_starts ∙ ap (λ (body : BodyOf). starts_by rows_of 0 body.elements) c.self.view_is) in
    let part = page-part elements starts c.args.from c.args.to c.element_of_row-first.result c.starts_below-end.result c.row_start-start.result are c.element_of_row-first.ensures c.starts_below-end.ensures
    c.requires.order c.requires.within c.row_start-start.ensures in
    let count = ap (λ (those : List ElementOf). length those) (c.deref.ensures.value ∙ ap (λ (body : BodyOf). body.elements) c.self.view_is) in
    record { order = part.order; within = omega (arith, part.within, count) }

pub returns : goal.returns
returns c =
    let elements = c.args.self.now.elements in
    let first = c.element_of_row-first.result in
    let end = c.starts_below-end.result in
    let start = c.row_start-start.result in
    let starts = c.self.inside.row_starts.items in
    let are = row-starts elements starts (c.self.invariant.row_starts ∙ ap (λ (body : BodyOf). starts_by rows_of 0 body.elements) c.self.view_is) in
    let part = page-part elements starts c.args.from c.args.to first end start are c.element_of_row-first.ensures c.starts_below-end.ensures c.requires.order c.requires.within c.row_start-start.ensures in
    let own = c.part_of.ensures ∙ ap (λ (those : List ElementOf). slice_range those first end) (c.deref.ensures.value ∙ ap (λ (body : BodyOf). body.elements) c.self.view_is) in
    PagePart-page elements c.args.from c.args.to first end start c.heading_start-headings.result c.part_of.result.now part own c.heading_start-headings.ensures
