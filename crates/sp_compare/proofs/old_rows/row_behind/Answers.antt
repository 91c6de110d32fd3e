use Rattle.std.proofs.Common.{◌+◌, ◌-◌, ◌<◌, List, length, take, get_or, slice_get, ap₂, sym, subst, ◌∙◌, arith}
use Rattle.std.proofs.lemmas.Option.{get_or_from_slice_get}
use Rattle.spec_pages.specs.Rows.{Row, ElementOf}
use Rattle.spec_labels.specs.declared.RowKey.{RowKey}
use Rattle.sp_layout.specs.Bodies.{StandsIn, keyed_elements, row_count}
use Rattle.sp_compare.proofs.OldRowLaws.{moves-here, row-later, was-inside}
use Rattle.sp_compare.proofs.RowPlaces.{element-read}
use Rattle.sp_compare.proofs.old_rows.row_behind.Goals as goal

pub overflow_add-place : goal.overflow_add-place
overflow_add-place c = omega (arith, c.rows_before.ensures, c.requires.row, c.len-len.ensures.row_enough, c.len-len.ensures.row_small)

pub overflow_sub-first : goal.overflow_sub-first
overflow_sub-first c =
    let elements = c.args.body.now.elements in
    let it = c.element_of_row-it.result in
    let element : ElementOf = record { first = c.element.inside.first; rows = c.element.inside.rows.items } in
    (moves-here elements c.args.at.to c.args.at.less c.args.at.more c.args.row it element
    (subst (λ n. StandsIn elements (n + c.args.row) it) c.rows_before.ensures c.element_of_row-it.ensures)
    (element-read elements c.elements.result.now it c.index-elements-it.result element c.element.view_is c.index-elements-it.is c.elements.ensures) c.requires.later).from

pub overflow_add-first : goal.overflow_add-first
overflow_add-first c =
    let elements = c.args.body.now.elements in
    let it = c.element_of_row-it.result in
    let element : ElementOf = record { first = c.element.inside.first; rows = c.element.inside.rows.items } in
    let moves = moves-here elements c.args.at.to c.args.at.less c.args.at.more c.args.row it element
    (subst (λ n. StandsIn elements (n + c.args.row) it) c.rows_before.ensures c.element_of_row-it.ensures)
    (element-read elements c.elements.result.now it c.index-elements-it.result element c.element.view_is c.index-elements-it.is c.elements.ensures) c.requires.later in
    let fits = moves.fits in
    omega (arith, fits)

within : (c : goal.After-old_rows_at-rows) → c.rows_before.result + c.args.row - c.row_start-start.result < length c.old_rows_at-rows.result.now
within c =
    let body = keyed_elements c.args.body.now in
    let it = c.element_of_row-it.result in
    let row = c.rows_before.result + c.args.row in
    let element : ElementOf = record { first = c.element.inside.first; rows = c.element.inside.rows.items } in
    subst (λ (rows : List Row). row - c.row_start-start.result < length rows) (sym c.old_rows_at-rows.ensures)
    (was-inside body c.args.others.now c.args.at.to row it c.row_start-start.result element c.requires.others c.element_of_row-it.ensures c.row_start-start.ensures
    (element-read body.elements c.elements.result.now it c.index-elements-it.result element c.element.view_is c.index-elements-it.is c.elements.ensures))

pub bounds-rows-place : goal.bounds-rows-place
bounds-rows-place c = within c

pub offset_bounds-rows-place : goal.offset_bounds-rows-place
offset_bounds-rows-place c = let inside = within c in let small = c.old_rows_at-rows.type_inv in omega (arith, inside, small)

pub returns-clause-row : goal.returns-clause-row
returns-clause-row c = λ d.
    let body = keyed_elements c.args.body.now in
    let it = c.element_of_row-it.result in
    let element : ElementOf = record { first = c.element.inside.first; rows = c.element.inside.rows.items } in
    row-later body c.args.others.now c.args.at.to c.args.at.less c.args.at.more c.args.row it c.row_start-start.result element c.index-rows-place.result d c.requires.others
    (subst (λ n. StandsIn body.elements (n + c.args.row) it) c.rows_before.ensures c.element_of_row-it.ensures) c.row_start-start.ensures
    (element-read body.elements c.elements.result.now it c.index-elements-it.result element c.element.view_is c.index-elements-it.is c.elements.ensures)
    (c.index-rows-place.is ∙ ap₂ (λ (rows : List Row) n. get_or rows (n + c.args.row - c.row_start-start.result) c.index-rows-place.result) c.old_rows_at-rows.ensures c.rows_before.ensures)

pub returns-clause-key : goal.returns-clause-key
returns-clause-key c = λ d.
    let count = row_count (take c.args.at.to c.args.body.now.elements) in
    get_or_from_slice_get c.args.body.now.keys (count + c.args.row) c.at.result.now d
    (ap₂ (λ (keys : List RowKey) n. slice_get keys (n + c.args.row)) (sym c.keys.ensures.keys) (sym c.rows_before.ensures) ∙ c.at.ensures)
