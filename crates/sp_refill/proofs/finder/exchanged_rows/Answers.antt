use Rattle.std.proofs.Common.{◌+◌, ◌-◌, take, sym, ap, ap₂, subst, ◌∙◌, arith}
use Rattle.std.specs.Prelude.{min}
use Rattle.spec_text.specs.Ranges.{range_of}
use Rattle.spec_state.specs.StateSheets.{layout_in}
use Rattle.spec_state.specs.Changes.{edited_state}
use Rattle.spec_edit.specs.Windows.{stanza_lines_in}
use Rattle.spec_refill.specs.Exchanges.{edit_exchange}
use Rattle.sp_layout.specs.Bodies.{row_count}
use Rattle.sp_refill.specs.Edits.{AreAhead, RowsAheadOf}
use Rattle.sp_refill.proofs.Found.{SomeFound, behind-found, window-found, at-rest, IsPast, same-exchange, InOrder, found-order}
use Rattle.sp_refill.proofs.finder.exchanged_rows.Goals as goal
use Rattle.sp_refill.proofs.finder.exchanged_rows.Goals.{After-rows, Start}

some : (c : Start) → SomeFound c.args.stanzas.now.stanzas c.args.swapped.now (layout_in c.requires.edit.state).body c.args.news.now.elements
some c = behind-found c.args.lines.now.lines c.args.stanzas.now.stanzas c.args.swapped.now c.args.ahead.now c.args.news.now.elements c.requires.edit

pub overflow_add-end : goal.overflow_add-end
overflow_add-end c =
    let within = (some (goal.at.overflow_add-end c).Start).found.within in
    omega (arith, within, c.at-at.ensures, c.stands.ensures, c.len-count.ensures.len, c.len-count.type_inv)

pub lines_before-requires : goal.lines_before-requires
lines_before-requires c = let within = (some (goal.at.lines_before-requires c).Start).found.within in omega (arith, within, c.at-at.ensures, c.stands.ensures)

pub parts_behind-requires : goal.parts_behind-requires
parts_behind-requires c = (some (goal.at.parts_behind-requires c).Start).found.within

pub rows_up_to-past-requires : goal.rows_up_to-past-requires
rows_up_to-past-requires c =
    let found = (some (goal.at.rows_up_to-past-requires c).Start).found in
    let line = c.lines_before.ensures ∙ ap₂ (λ n m. stanza_lines_in (take (n + m) c.args.stanzas.now.stanzas)) c.at-at.ensures c.stands.ensures in
    let up_to = at-rest c.args.news.now.elements _ c.lines_before.result found.past _ c.parts_behind.result (sym line) (sym c.parts_behind.ensures) found.up_to in
    record { place = up_to.place; is = up_to.is; some = up_to.some }

is-past : (c : After-rows) → IsPast c.args.stanzas.now.stanzas c.args.swapped.now c.args.news.now.elements c.rows_up_to-past.result
is-past c =
    let line = c.lines_before.ensures ∙ ap₂ (λ n m. stanza_lines_in (take (n + m) c.args.stanzas.now.stanzas)) c.at-at.ensures c.stands.ensures in
    at-rest c.args.news.now.elements c.lines_before.result _ c.rows_up_to-past.result c.parts_behind.result _ line c.parts_behind.ensures c.rows_up_to-past.ensures

in-order : (c : After-rows) → InOrder c.ahead.inside.first c.rows_up_to-past.result c.ahead.inside.all (row_count c.args.news.now.elements)
in-order c =
    let stanzas = c.args.stanzas.now.stanzas in
    let news = c.args.news.now.elements in
    let some = c.requires.edit in
    subst (λ (rows : RowsAheadOf). InOrder rows.first c.rows_up_to-past.result rows.all (row_count news)) (sym c.ahead.view_is)
    (found-order stanzas c.args.swapped.now (layout_in some.state).body news c.args.ahead.now c.rows_up_to-past.result some.ahead (is-past c)
    (behind-found c.args.lines.now.lines stanzas c.args.swapped.now c.args.ahead.now news some))

pub with_next-requires-clause-order : goal.with_next-requires-clause-order
with_next-requires-clause-order c = (in-order c).order

pub with_next-requires-clause-inside : goal.with_next-requires-clause-inside
with_next-requires-clause-inside c = let inside = (in-order c).inside in omega (arith, inside, c.rows.ensures)

pub with_next-requires-clause-old_inside : goal.with_next-requires-clause-old_inside
with_next-requires-clause-old_inside c = let inside = (in-order c).old_inside in omega (arith, inside, c.rows.ensures)

pub returns : goal.returns
returns c =
    let stanzas = c.args.stanzas.now.stanzas in
    let swapped = c.args.swapped.now in
    let news = c.args.news.now.elements in
    let first = c.ahead.inside.first in
    let all = c.ahead.inside.all in
    let past = c.rows_up_to-past.result in
    record {
      found = λ state it a b is are news_are window.
          same-exchange stanzas swapped (layout_in state).body news (record { first = first; all = all }) past c.with_next.result (edit_exchange (range_of it) state (edited_state state it) a b)
          (subst (AreAhead stanzas swapped (layout_in state).body) (sym c.ahead.view_is) are) (is-past (goal.at.returns c).After-rows)
          (window-found state it c.args.lines.now.lines stanzas swapped news a b is news_are window)
          c.with_next.ensures.first
          (c.with_next.ensures.old ∙ ap (λ m. all - first - (m - past) + min 1 (m - past)) c.rows.ensures)
          (c.with_next.ensures.new ∙ ap (λ m. past - first + min 1 (m - past)) c.rows.ensures);
    }
