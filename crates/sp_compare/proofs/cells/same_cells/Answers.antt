use Rattle.std.proofs.Common.{◌+◌, ◌<◌, Bool, length, drop, ap, ap₂, sym, ◌∙◌, arith}
use Rattle.std.specs.Prelude.{◌&&◌}
use Rattle.spec_text.specs.Lines.{line_texts}
use Rattle.spec_pages.specs.Rows.{shifted_cell}
use Rattle.spec_sheets.specs.Cells.{ShowsParts}
use Rattle.spec_state.specs.SameRows.{same_cells}
use Rattle.sp_compare.specs.BareRows.{bare_cells}
use Rattle.sp_compare.proofs.CellLists.{All-image, bare-end, bare-ends, bare-item, bare-past}
use Rattle.sp_compare.proofs.cells.same_cells.Goals as goal

pub returns-then-place-news : goal.returns-then-place-news
returns-then-place-news c =
    let was = line_texts c.args.old.now in
    let is = line_texts c.args.new.now.lines in
    let i = c.loop-one.one-index in
    let place = c.next_bare-place.result in
    let one = bare-item was c.args.old_first c.args.olds.now i c.one-item.result c.loop-one-test.true c.one-item.is (sym c.is_number.ensures ∙ c.if-is_number.false) in
    let past = bare-past is c.args.new_first (drop c.loop-one.place c.args.news.now) (drop place c.args.news.now) c.next_bare-place.ensures.same in
    let none = bare-end is c.args.new_first c.args.news.now place (omega (arith, c.if-place-news.true)) in
    sym (sym c.loop-one.invariant.same ∙ ap₂ same_cells one (past ∙ none))

pub same_cell-requires-clause-one : goal.same_cell-requires-clause-one
same_cell-requires-clause-one c =
    All-image (ShowsParts (line_texts c.args.old.now)) (shifted_cell c.args.old_first) c.args.olds.now c.loop-one.one-index c.one-item.result c.requires.olds c.loop-one-test.true c.one-item.is

pub same_cell-requires-clause-other : goal.same_cell-requires-clause-other
same_cell-requires-clause-other c =
    All-image (ShowsParts (line_texts c.args.new.now.lines)) (shifted_cell c.args.new_first) c.args.news.now c.next_bare-place.result c.index-news-place.result c.requires.news
    (omega (arith, c.next_bare-place.ensures.within, c.if-place-news.false)) c.index-news-place.is

pub returns-then-not-same_cell : goal.returns-then-not-same_cell
returns-then-not-same_cell c =
    let was = line_texts c.args.old.now in
    let is = line_texts c.args.new.now.lines in
    let i = c.loop-one.one-index in
    let place = c.next_bare-place.result in
    let one = bare-item was c.args.old_first c.args.olds.now i c.one-item.result c.loop-one-test.true c.one-item.is (sym c.is_number.ensures ∙ c.if-is_number.false) in
    let past = bare-past is c.args.new_first (drop c.loop-one.place c.args.news.now) (drop place c.args.news.now) c.next_bare-place.ensures.same in
    let inside : place < length c.args.news.now = omega (arith, c.next_bare-place.ensures.within, c.if-place-news.false) in
    let other = bare-item is c.args.new_first c.args.news.now place c.index-news-place.result inside c.index-news-place.is
    (ap (λ cell. cell.number) c.index-news-place.is ∙ c.next_bare-place.ensures.bare c.index-news-place.result inside) in
    let rest = same_cells (bare_cells was c.args.old_first (drop (i + 1) c.args.olds.now)) (bare_cells is c.args.new_first (drop (place + 1) c.args.news.now)) in
    sym (sym c.loop-one.invariant.same ∙ ap₂ same_cells one (past ∙ other) ∙ ap (λ (b : Bool). b && rest) (sym c.same_cell.ensures ∙ c.if-not-same_cell.true))

pub loop-one-preserved : goal.loop-one-preserved
loop-one-preserved c =
    let was = line_texts c.args.old.now in
    let is = line_texts c.args.new.now.lines in
    let i = c.loop-one.one-index in
    let place = c.next_bare-place.result in
    let one = bare-item was c.args.old_first c.args.olds.now i c.one-item.result c.loop-one-test.true c.one-item.is (sym c.is_number.ensures ∙ c.if-is_number.false) in
    let past = bare-past is c.args.new_first (drop c.loop-one.place c.args.news.now) (drop place c.args.news.now) c.next_bare-place.ensures.same in
    let inside : place < length c.args.news.now = omega (arith, c.next_bare-place.ensures.within, c.if-place-news.false) in
    let other = bare-item is c.args.new_first c.args.news.now place c.index-news-place.result inside c.index-news-place.is
    (ap (λ cell. cell.number) c.index-news-place.is ∙ c.next_bare-place.ensures.bare c.index-news-place.result inside) in
    let rest = same_cells (bare_cells was c.args.old_first (drop (i + 1) c.args.olds.now)) (bare_cells is c.args.new_first (drop (place + 1) c.args.news.now)) in
    record {
      within = omega (arith, inside);
      same = sym (ap₂ same_cells one (past ∙ other) ∙ ap (λ (b : Bool). b && rest) (sym c.same_cell.ensures ∙ c.if-not-same_cell.false)) ∙ c.loop-one.invariant.same;
    }

pub returns : goal.returns
returns c =
    let was = line_texts c.args.old.now in
    let is = line_texts c.args.new.now.lines in
    let place = c.next_bare.result in
    let none = bare-end was c.args.old_first c.args.olds.now c.loop-one.one-index c.loop-one-test.false in
    let past = bare-past is c.args.new_first (drop c.loop-one.place c.args.news.now) (drop place c.args.news.now) c.next_bare.ensures.same in
    bare-ends is c.args.new_first c.args.news.now place c.next_bare.ensures.within c.next_bare.ensures.bare
    ∙ sym (ap₂ same_cells none past) ∙ c.loop-one.invariant.same
