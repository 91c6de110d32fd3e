use Rattle.std.proofs.Common.{◌≡◌, ◌+◌, ◌-◌, ℕ, ap₂, sym, ◌∙◌, arith}
use Rattle.spec_state.specs.SameRows.{same_list}
use Rattle.sp_compare.specs.BareRows.{bare_rows}
use Rattle.sp_compare.proofs.RowLists.{length-bare, list-differ, rows-between, slice-bare}
use Rattle.sp_compare.proofs.both.BothTexts.same_rows.Goals as goal

pub returns-then-to-from : goal.returns-then-to-from
returns-then-to-from c = λ olds news.
    let it = c.args.self.now in
    let one = length-bare it.old it.olds c.args.from c.args.to c.requires.old c.requires.old_within in
    let other = length-bare it.new it.news c.args.start c.args.end c.requires.new c.requires.new_within in
    sym (list-differ (bare_rows it.old it.olds c.args.from c.args.to) (bare_rows it.new it.news c.args.start c.args.end) (λ e. c.if-to-from.true (sym one ∙ e ∙ other)))
    ∙ sym (ap₂ same_list (slice-bare it.old olds it.olds c.args.from c.args.to) (slice-bare it.new news it.news c.args.start c.args.end))

pub returns : goal.returns
returns c = λ olds news.
    let it = c.args.self.now in
    let first = c.compared-first.result.0 in
    let last = c.compared-first.result.1 in
    let count = c.args.to - c.args.from in
    let to : c.args.from + count ≡ c.args.to = omega (arith, c.requires.old) in
    let end : c.args.start + count ≡ c.args.end = omega (arith, c.if-to-from.false, c.requires.new) in
    let one : c.args.from + first + (last - first) ≡ c.args.from + last = omega (arith, c.compared-first.ensures.order) in
    let other : c.args.start + first + (last - first) ≡ c.args.start + last = omega (arith, c.compared-first.ensures.order) in
    c.same_run.ensures
    ∙ ap₂ (λ (n m : ℕ). same_list (bare_rows it.old it.olds (c.args.from + first) n) (bare_rows it.new it.news (c.args.start + first) m)) one other
    ∙ sym (rows-between it.old it.new it.olds it.news c.args.from c.args.start count first last c.compared-first.ensures.order c.compared-first.ensures.within
    (omega (arith, to, c.requires.old_within)) (omega (arith, end, c.requires.new_within)) c.compared-first.ensures.front c.compared-first.ensures.behind)
    ∙ ap₂ (λ (n m : ℕ). same_list (bare_rows it.old it.olds c.args.from n) (bare_rows it.new it.news c.args.start m)) to end
    ∙ sym (ap₂ same_list (slice-bare it.old olds it.olds c.args.from c.args.to) (slice-bare it.new news it.news c.args.start c.args.end))
