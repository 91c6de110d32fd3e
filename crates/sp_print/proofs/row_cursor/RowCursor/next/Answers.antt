use Rattle.std.proofs.Common.{◌≡◌, ◌+◌, ◌-◌, ◌≤◌, ◌<◌, Option, ◌∷◌, length, get_or, take, drop, ap, ap₂, sym, ◌∙◌, subst, arith}
use Rattle.std.specs.Prelude.{All}
use Rattle.std.specs.Option.{option_copied}
use Rattle.spec_text.specs.Lines.{line_texts}
use Rattle.spec_text.proofs.ListLaws.{All-front, All-back}
use Rattle.spec_pages.specs.Rows.{Row, ElementOf, placed_rows, shifted_row}
use Rattle.spec_labels.specs.Labels.{LabelOf}
use Rattle.spec_sheets.specs.Cells.{RowShows}
use Rattle.spec_sheets.specs.Layout.{placed_in}
use Rattle.spec_sheets.specs.Shown.{Shown, element_cue, heading_label, shown_of, shown_rows}
use Rattle.sp_print.proofs.ListPlaces.{All-image}
use Rattle.sp_print.proofs.RowPlaces.{drop-here, drop-there, shown_in, take-first}
use Rattle.sp_print.proofs.row_cursor.RowCursor.next.Goals as goal

pub invariant_of-next : goal.invariant_of-next
invariant_of-next c =
    let P : Row → Type 0 = RowShows (line_texts c.loop-element.self-inside.lines.now.lines) in
    let skip = c.loop-element.self-inside.skip in
    let element = c.in-Some.element.now in
    let row = c.index.result.now in
    let rows = ap (λ (e : ElementOf). e.rows) c.element.view_is in
    let inside : skip < length element.rows = let size = ap length rows in omega (arith, c.if-self-count.true, c.len-count.ensures, size) in
    let is = c.index.ensures ∙ ap (λ rs. get_or rs skip row) rows in
    let front = All-front P (placed_rows element) (placed_in c.in-Some.others.now) (subst (All P) (ap placed_in c.in-Some.ensures.cases.0) c.loop-element.invariant.show) in
    (All-image P (shifted_row element.first) element.rows skip row front inside is, front)

pub returns-then-self-count : goal.returns-then-self-count
returns-then-self-count c =
    let skip = c.loop-element.self-inside.skip in
    let left = c.loop-element.self-inside.left in
    let lines = c.loop-element.self-inside.lines.now.lines in
    let labels = option_copied c.loop-element.self-inside.numbers in
    let element : ElementOf = record { first = c.element.inside.first; rows = c.element.inside.rows.items } in
    let others = c.in-Some.others.now in
    let all : c.loop-element.self-inside.elements.now ≡ element ∷ others = c.in-Some.ensures.cases.0 ∙ ap (λ (e : ElementOf). e ∷ others) (sym c.element.view_is) in
    let row = c.index.result.now in
    let inside : skip < length element.rows = omega (arith, c.if-self-count.true, c.len-count.ensures) in
    let rest = drop (skip + 1) (shown_rows lines labels (element ∷ others)) in
    let shown = λ (e : ElementOf) (label : Option LabelOf). shown_of lines (element_cue (line_texts lines) (placed_rows e)) label (shifted_row e.first row) in
    let next = ap (shown c.in-Some.element.now) c.heading_label.ensures ∙ ap (λ (e : ElementOf). shown e (heading_label labels e)) (sym c.element.view_is) in
    sym c.loop-element.invariant.rows
    ∙ ap (λ es. take left (drop skip (shown_rows lines labels es))) all
    ∙ ap (take left) (drop-here lines labels skip element others row inside c.index.ensures)
    ∙ take-first left (shown_in lines labels element row) rest c.loop-element.invariant.some
    ∙ ap₂ (λ (it : Shown) es. it ∷ take (left - 1) (drop (skip + 1) (shown_rows lines labels es))) (sym next) (sym all)

pub loop-element-preserved : goal.loop-element-preserved
loop-element-preserved c =
    let P : Row → Type 0 = RowShows (line_texts c.loop-element.self-inside.lines.now.lines) in
    let skip = c.loop-element.self-inside.skip in
    let left = c.loop-element.self-inside.left in
    let lines = c.loop-element.self-inside.lines.now.lines in
    let labels = option_copied c.loop-element.self-inside.numbers in
    let element = c.in-Some.element.now in
    let others = c.in-Some.others.now in
    let all = c.in-Some.ensures.cases.0 in
    let count = c.len-count.ensures in
    let rows = ap (λ (e : ElementOf). length e.rows) c.element.view_is in
    let past : length element.rows ≤ skip = omega (arith, c.if-self-count.false, count, rows) in
    let same : skip - c.len-count.result ≡ skip - length element.rows = omega (arith, count, rows) in
    record {
      some = c.loop-element.invariant.some;
      rows = ap₂ (λ n ls. take left (drop n (shown_rows lines ls others))) same c.labels_behind-self-inside.ensures
          ∙ ap (take left) (sym (drop-there lines labels skip element others past)) ∙ sym (ap (λ es. take left (drop skip (shown_rows lines labels es))) all)
          ∙ c.loop-element.invariant.rows;
      show = All-back P (placed_rows element) (placed_in others) (subst (All P) (ap placed_in all) c.loop-element.invariant.show);
    }
