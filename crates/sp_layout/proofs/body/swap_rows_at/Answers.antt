use Rattle.std.proofs.Common.{List, set, ap, ap₂, ◌∙◌, arith}
use Rattle.spec_pages.specs.Rows.{Row, ElementOf}
use Rattle.sp_layout.proofs.RowSwaps.{rows-set, rows-get}
use Rattle.sp_layout.proofs.body.swap_rows_at.Goals as goal

pub returns-clause-elements : goal.returns-clause-elements
returns-clause-elements c =
    let elements = c.args.elements.now.items in
    let e = c.index_mut.result.now in
    ap₂ (λ first (rows : List Row). set elements c.args.place (record { first = first; rows = rows })) (ap (λ (it : ElementOf). it.first) c.behind-elements.view_is) (ap (λ v. v.items) c.swap.ensures.x_after)
    ∙ rows-set elements c.args.place e c.args.rows.now.items c.index_mut.ensures.value

pub returns-clause-rows : goal.returns-clause-rows
returns-clause-rows c =
    let elements = c.args.elements.now.items in
    ap (λ v. v.items) c.swap.ensures.y_after ∙ ap (λ (it : ElementOf). it.rows) c.behind-elements.view_is
    ∙ rows-get elements c.args.place c.index_mut.result.now (omega (arith, c.requires, c.args.elements.now.ok.0)) c.index_mut.ensures.value
