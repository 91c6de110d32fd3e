use Rattle.std.proofs.Common.{List, length, sym, ap, ◌∙◌, arith}
use Rattle.std.proofs.lemmas.List.{length-map}
use Rattle.spec_pages.specs.declared.Shape.{Shape}
use Rattle.spec_pages.specs.Rows.{Row}
use Rattle.spec_sheets.specs.Layout.{placed_in}
use Rattle.sp_layout.specs.Bodies.{BodyOf, row_count, rows_of, headings_of}
use Rattle.sp_layout.proofs.BodyLaws.{length-starts_by}
use Rattle.sp_layout.proofs.body.Body.len.Goals as goal

pub returns-clause-len : goal.returns-clause-len
returns-clause-len c = c.len.ensures ∙ c.self.inside.elements.ok.0 ∙ ap (λ (b : BodyOf). length b.elements) c.self.view_is

pub returns-clause-enough : goal.returns-clause-enough
returns-clause-enough c =
    let elements = c.self.inside.elements.items in
    let one = ap length c.self.invariant.row_starts ∙ length-starts_by rows_of 0 elements in
    let other = ap length c.self.invariant.heading_starts ∙ length-starts_by headings_of 0 elements in
    omega (
      arith,
      one,
      other,
      c.self.inside.elements.ok,
      c.len-row_starts.ensures.enough,
      c.len-heading_starts.ensures.enough,
      ap (λ (b : BodyOf). length b.elements) c.self.view_is,
      ap (λ (b : BodyOf). b.room) c.self.view_is,
    )

pub returns-clause-row_enough : goal.returns-clause-row_enough
returns-clause-row_enough c =
    let elements = c.self.inside.elements.items in
    let shapes = ap (λ (those : List Shape). length those) c.self.invariant.shapes ∙ length-map (placed_in elements) (λ (row : Row). row.shape) in
    omega (
      arith,
      shapes,
      c.len-rows.ensures.enough,
      ap (λ (b : BodyOf). row_count b.elements) c.self.view_is,
      ap (λ (b : BodyOf). b.row_room) c.self.view_is,
    )

pub returns-clause-keys : goal.returns-clause-keys
returns-clause-keys c = sym (ap (λ (b : BodyOf). length b.keys) c.self.view_is) ∙ c.self.invariant.keys ∙ ap (λ (b : BodyOf). row_count b.elements) c.self.view_is

pub returns-clause-small : goal.returns-clause-small
returns-clause-small c = omega (arith, c.self.inside.elements.small, ap (λ (b : BodyOf). b.room) c.self.view_is)

pub returns-clause-row_small : goal.returns-clause-row_small
returns-clause-row_small c = omega (arith, c.len-rows.ensures.small, ap (λ (b : BodyOf). b.row_room) c.self.view_is)
