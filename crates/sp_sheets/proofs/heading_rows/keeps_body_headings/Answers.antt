use Rattle.std.proofs.Common.{◌≡◌, ℕ, List, length, take, slice_range, sym, ap, ap₂, ◌∙◌}
use Rattle.spec_pages.specs.declared.Shape.{Shape}
use Rattle.spec_labels.specs.declared.RowKey.{RowKey}
use Rattle.sp_layout.specs.Bodies.{KeyedElements, keyed_elements, row_count, shapes_in}
use Rattle.sp_layout.specs.Exchanges.{run_of}
use Rattle.sp_sheets.specs.HeadingIds.{body_headings, heading_ids}
use Rattle.sp_sheets.proofs.LaidHeadings.{headings-kept, rows-of-run}
use Rattle.sp_sheets.proofs.heading_rows.keeps_body_headings.Goals as goal

pub returns : goal.returns
returns c less more =
    let body : KeyedElements = keyed_elements c.args.body.now in
    let others : KeyedElements = keyed_elements c.args.others.now in
    let elements = body.elements in
    let from = c.args.from in
    let to = c.args.to in
    let start = c.rows_of_run-start.result.0 in
    let end = c.rows_of_run-start.result.1 in
    let at = c.rows_of_run-start.ensures in
    let of = rows-of-run elements from to c.requires.order c.requires.within in
    let shapes : slice_range c.shapes.result.now.items start end ≡ shapes_in (slice_range elements from to) =
    ap (λ (those : List Shape). slice_range those start end) c.shapes.ensures ∙ ap₂ (λ (a b : ℕ). slice_range (shapes_in elements) a b) at.start at.end ∙ of.shapes in
    let keys : slice_range c.keys.result.now.items start end ≡ slice_range body.keys (row_count (take from elements)) (row_count (take to elements)) =
    ap (λ (those : List RowKey). slice_range those start end) c.keys.ensures.keys ∙ ap₂ (λ (a b : ℕ). slice_range body.keys a b) at.start at.end in
    let gone : heading_ids (slice_range c.shapes.result.now.items start end) (slice_range c.keys.result.now.items start end) ≡ body_headings (run_of body from to) = ap₂ heading_ids shapes keys in
    let come : heading_ids c.shapes-2.result.now.items c.keys-2.result.now.items ≡ body_headings others = ap₂ heading_ids c.shapes-2.ensures c.keys-2.ensures.keys in
    let kept =
    headings-kept body others from to less more c.requires.order c.requires.within (ap length (sym c.keys.ensures.keys) ∙ c.keys.ensures.len) (ap length (sym c.keys-2.ensures.keys) ∙ c.keys-2.ensures.len) in
    (λ h. kept.0 (sym gone ∙ c.same_headings.ensures.0 h ∙ come), λ h. c.same_headings.ensures.1 (gone ∙ kept.1 h ∙ sym come))
