use Rattle.std.proofs.Common.{◌≡◌, ◌+◌, drop, ap, arith}
use Rattle.sp_layout.specs.Bodies.{KeyedElements, keyed_elements, row_count}
use Rattle.sp_compare.proofs.OldRowLaws.{count-old, count-parts}
use Rattle.sp_compare.proofs.old_rows.OldRows.rows.Goals as goal

all : (c : goal.After-rows-2) → row_count c.args.self.now.elements ≡ c.rows_before-front.result + (c.rows.result + row_count (drop c.self.inside.at.to c.self.inside.news.now.elements))
all c =
    let it = c.self.inside in
    let count = count-old (keyed_elements it.news.now) (keyed_elements it.gone.now) it.others it.at c.self.invariant.3 in
    let same = ap (λ (k : KeyedElements). row_count k.elements) c.self.view_is in
    omega (arith, count, same, c.rows_before-front.ensures, c.rows.ensures)

pub overflow_sub-result : goal.overflow_sub-result
overflow_sub-result c =
    let sum = count-parts c.self.inside.news.now.elements c.self.inside.at.to in
    omega (arith, sum, c.rows_before-till.ensures, c.rows-2.ensures)

pub overflow_add-result : goal.overflow_add-result
overflow_add-result c =
    let it = c.self.inside in
    let few = c.self.invariant.4 in
    let count = count-old (keyed_elements it.news.now) (keyed_elements it.gone.now) it.others it.at c.self.invariant.3 in
    omega (arith, count, few, c.rows_before-front.ensures, c.rows.ensures)

pub overflow_add-result-2 : goal.overflow_add-result-2
overflow_add-result-2 c =
    let sum = count-parts c.self.inside.news.now.elements c.self.inside.at.to in
    let few = c.self.invariant.4 in
    let same = ap (λ (k : KeyedElements). row_count k.elements) c.self.view_is in
    omega (arith, sum, c.rows_before-till.ensures, c.rows-2.ensures, all c, few, same)

pub returns : goal.returns
returns c =
    let sum = count-parts c.self.inside.news.now.elements c.self.inside.at.to in
    omega (arith, sum, c.rows_before-till.ensures, c.rows-2.ensures, all c)
