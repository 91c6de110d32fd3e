use Rattle.std.proofs.Common.{List, slice_get, ap, sym, ◌∙◌}
use Rattle.std.proofs.lemmas.Option.{get_or_from_slice_get}
use Rattle.spec_pages.specs.Rows.{ElementOf}
use Rattle.spec_labels.specs.declared.RowKey.{RowKey}
use Rattle.sp_compare.proofs.RowPlaces.{element-read, row-there}
use Rattle.sp_compare.proofs.old_rows.row_at.Goals as goal

pub returns-clause-row : goal.returns-clause-row
returns-clause-row c = λ d.
    let elements = c.args.body.now.elements in
    let place = c.element_of_row-place.result in
    let element : ElementOf = record { first = c.element.inside.first; rows = c.element.inside.rows.items } in
    row-there elements c.args.row place c.row_start-start.result element c.index.result.now d c.element_of_row-place.ensures c.row_start-start.ensures
    (element-read elements c.elements.result.now place c.index-elements-place.result element c.element.view_is c.index-elements-place.is c.elements.ensures)
    c.index.ensures

pub returns-clause-key : goal.returns-clause-key
returns-clause-key c = λ d.
    get_or_from_slice_get c.args.body.now.keys c.args.row c.at.result.now d (ap (λ (keys : List RowKey). slice_get keys c.args.row) (sym c.keys.ensures.keys) ∙ c.at.ensures)
