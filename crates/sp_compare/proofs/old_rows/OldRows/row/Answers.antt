use Rattle.std.proofs.Common.{◌-◌, List, take, get_or, ap, sym, ◌∙◌, arith}
use Rattle.spec_labels.specs.declared.RowKey.{RowKey}
use Rattle.spec_sheets.specs.Layout.{placed_in}
use Rattle.sp_layout.specs.Bodies.{KeyedElements, keyed_elements, row_count}
use Rattle.sp_compare.proofs.OldRowLaws.{count-old, count-parts, key-front, key-gone, key-moved, keys-old, row-front, row-gone, row-moved}
use Rattle.sp_compare.proofs.old_rows.OldRows.row.Goals as goal

pub row_at-requires : goal.row_at-requires
row_at-requires c =
    let sum = count-parts c.self.inside.news.now.elements c.self.inside.at.from in
    omega (arith, sum, c.rows_before-front.ensures, c.if-row-front.true)

pub returns-then-row-front-clause-row : goal.returns-then-row-front-clause-row
returns-then-row-front-clause-row c = λ d.
    let it = c.self.inside in
    ap (λ (k : KeyedElements). get_or (placed_in k.elements) c.args.row d) (sym c.self.view_is)
    ∙ row-front (keyed_elements it.news.now) (keyed_elements it.gone.now) it.others it.at c.self.invariant.0 c.self.invariant.3 c.args.row d (omega (arith, c.rows_before-front.ensures, c.if-row-front.true))
    ∙ c.row_at.ensures.row d

pub returns-then-row-front-clause-key : goal.returns-then-row-front-clause-key
returns-then-row-front-clause-key c = λ d.
    let it = c.self.inside in
    let keys = it.news.now.keys in
    let sum = count-parts it.news.now.elements it.at.from in
    ap (λ (k : KeyedElements). get_or k.keys c.args.row d) (sym c.self.view_is)
    ∙ ap (λ (those : List RowKey). get_or those c.args.row d) (keys-old (keyed_elements it.news.now) (keyed_elements it.gone.now) it.others it.at c.self.invariant.3)
    ∙ key-front keys it.gone.now.keys (row_count (take it.at.from it.news.now.elements)) (row_count (take it.at.to it.news.now.elements)) c.args.row d
    (omega (arith, sum, c.len-news.ensures.keys)) (omega (arith, c.rows_before-front.ensures, c.if-row-front.true))
    ∙ c.row_at.ensures.key d

pub returns-then-inside-count-clause-row : goal.returns-then-inside-count-clause-row
returns-then-inside-count-clause-row c = λ d.
    let it = c.self.inside in
    let inside = c.args.row - c.rows_before-front.result in
    ap (λ (k : KeyedElements). get_or (placed_in k.elements) c.args.row d) (sym c.self.view_is)
    ∙ row-gone (keyed_elements it.news.now) (keyed_elements it.gone.now) it.others it.at c.self.invariant.0 c.self.invariant.3 c.args.row inside d
    (omega (arith, c.rows-count.ensures, c.if-inside-count.true)) (omega (arith, c.rows_before-front.ensures, c.if-row-front.false))
    ∙ c.row_at-then-inside-count.ensures.row d

pub returns-then-inside-count-clause-key : goal.returns-then-inside-count-clause-key
returns-then-inside-count-clause-key c = λ d.
    let it = c.self.inside in
    let sum = count-parts it.news.now.elements it.at.from in
    ap (λ (k : KeyedElements). get_or k.keys c.args.row d) (sym c.self.view_is)
    ∙ ap (λ (those : List RowKey). get_or those c.args.row d) (keys-old (keyed_elements it.news.now) (keyed_elements it.gone.now) it.others it.at c.self.invariant.3)
    ∙ key-gone it.news.now.keys it.gone.now.keys (row_count (take it.at.from it.news.now.elements)) (row_count (take it.at.to it.news.now.elements)) c.args.row (c.args.row - c.rows_before-front.result) d
    (omega (arith, sum, c.len-news.ensures.keys)) (omega (arith, c.rows-count.ensures, c.if-inside-count.true, c.len-gone.ensures.keys)) (omega (arith, c.rows_before-front.ensures, c.if-row-front.false))
    ∙ c.row_at-then-inside-count.ensures.key d

pub row_behind-requires-clause-row : goal.row_behind-requires-clause-row
row_behind-requires-clause-row c =
    let it = c.self.inside in
    let count = count-old (keyed_elements it.news.now) (keyed_elements it.gone.now) it.others it.at c.self.invariant.3 in
    let same = ap (λ (k : KeyedElements). row_count k.elements) c.self.view_is in
    let sum = count-parts it.news.now.elements it.at.to in
    omega (arith, count, same, sum, c.requires, c.rows_before-front.ensures, c.rows-count.ensures, c.if-row-front.false, c.if-inside-count.false)

pub returns-clause-row : goal.returns-clause-row
returns-clause-row c = λ d.
    let it = c.self.inside in
    let behind = c.args.row - c.rows_before-front.result - c.rows-count.result in
    ap (λ (k : KeyedElements). get_or (placed_in k.elements) c.args.row d) (sym c.self.view_is)
    ∙ row-moved (keyed_elements it.news.now) (keyed_elements it.gone.now) it.others it.at c.self.invariant.0 c.self.invariant.3 c.args.row behind d
    (omega (arith, c.rows_before-front.ensures, c.rows-count.ensures, c.if-row-front.false, c.if-inside-count.false))
    ∙ c.row_behind.ensures.row d

pub returns-clause-key : goal.returns-clause-key
returns-clause-key c = λ d.
    let it = c.self.inside in
    let sum = count-parts it.news.now.elements it.at.from in
    let behind = c.args.row - c.rows_before-front.result - c.rows-count.result in
    ap (λ (k : KeyedElements). get_or k.keys c.args.row d) (sym c.self.view_is)
    ∙ ap (λ (those : List RowKey). get_or those c.args.row d) (keys-old (keyed_elements it.news.now) (keyed_elements it.gone.now) it.others it.at c.self.invariant.3)
    ∙ key-moved it.news.now.keys it.gone.now.keys (row_count (take it.at.from it.news.now.elements)) (row_count (take it.at.to it.news.now.elements)) c.args.row behind d
    (omega (arith, sum, c.len-news.ensures.keys)) (omega (arith, c.rows_before-front.ensures, c.rows-count.ensures, c.if-row-front.false, c.if-inside-count.false, c.len-gone.ensures.keys))
    ∙ c.row_behind.ensures.key d
