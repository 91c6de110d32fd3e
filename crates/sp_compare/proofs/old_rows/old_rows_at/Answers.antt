use Rattle.std.proofs.Common.{◌≡◌, Option, Some, List, ap, sym, ◌∙◌}
use Rattle.spec_pages.specs.Rows.{Row, ElementOf}
use Rattle.sp_layout.specs.Bodies.{keyed_elements}
use Rattle.sp_layout.specs.Exchanges.{rows_at, with_rows_at}
use Rattle.sp_layout.proofs.RowSwaps.{rows-get, rows_at-new}
use Rattle.sp_compare.specs.OldElements.{OtherRowsOf, with_others}
use Rattle.sp_compare.proofs.OtherRowLaws.{rows-elsewhere}
use Rattle.sp_compare.proofs.RowPlaces.{element-read}
use Rattle.sp_compare.proofs.old_rows.old_rows_at.Goals as goal
use Rattle.sp_compare.proofs.old_rows.old_rows_at.Goals.{in-Some+else-others-place, in_default}

pub returns-then-others-place : goal.returns-then-others-place
returns-then-others-place c =
    let elements = c.args.body.now.elements in
    let place = c.args.place in
    let it : OtherRowsOf = record { element = c.others.inside.element; rows = c.others.inside.rows.now } in
    let is : c.args.others.now ≡ Some it = c.in-Some.is ∙ ap (λ (o : OtherRowsOf). Some o) (sym c.others.view_is) in
    sym (ap (λ (o : Option OtherRowsOf). rows_at (with_others (keyed_elements c.args.body.now) o).elements place) is
    ∙ ap (λ n. rows_at (with_rows_at elements n it.rows) place) c.if-others-place.true ∙ rows_at-new elements place it.rows c.requires)

pub returns : goal.returns
returns c =
    let body = keyed_elements c.args.body.now in
    let place = c.args.place in
    let element : ElementOf = record { first = c.element.inside.first; rows = c.element.inside.rows.items } in
    let own : element.rows ≡ rows_at body.elements place = rows-get body.elements place element c.requires
    (element-read body.elements c.elements.result.now place c.index-elements-place.result element c.element.view_is c.index-elements-place.is c.elements.ensures) in
    let of : Option OtherRowsOf → List Row = λ (o : Option OtherRowsOf). rows_at (with_others body o).elements place in
    c.deref.ensures.value ∙ own ∙ elim c.match-others.branch [
      | in-Some+else-others-place w ↦
          let it : OtherRowsOf = record { element = w.others.inside.element; rows = w.others.inside.rows.now } in
          sym (ap of (w.in-Some.is ∙ ap (λ (o : OtherRowsOf). Some o) (sym w.others.view_is)) ∙ rows-elsewhere body.elements place it.element it.rows w.if-others-place.false)
      | in_default w ↦ sym (ap of w.in_default.is)
    ]
