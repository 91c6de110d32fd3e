use Rattle.std.proofs.Common.{◌≡◌, ◌+◌, ◌≤◌, ap, sym, subst, ◌∙◌, arith}
use Rattle.std.specs.Prelude.{min}
use Rattle.sp_layout.specs.Bodies.{row_count}
use Rattle.sp_compare.specs.BareRows.{Both, bare_rows}
use Rattle.sp_compare.proofs.AroundLaws.{aside-behind, aside-front, aside-until}
use Rattle.sp_compare.proofs.both.BothTexts.compared.Goals as goal

pub returns-then-from-count-clause-behind : goal.returns-then-from-count-clause-behind
returns-then-from-count-clause-behind c =
    let it = c.self.inside in
    let a = c.args in
    subst (λ (b : Both). bare_rows b.old b.olds (a.from + 0) (a.from + a.count) ≡ bare_rows b.new b.news (a.start + 0) (a.start + a.count)) c.self.view_is
    (aside-front it.old it.olds.elements it.new.now.lines it.news.now.elements it.same_to it.old_from it.new_from it.others_from it.others_to c.self.invariant.2
    a.from a.start a.count c.if-from-start.true c.if-from-count.true)

pub returns-clause-front : goal.returns-clause-front
returns-clause-front c =
    let it = c.self.inside in
    let a = c.args in
    let n = c.min.result in
    subst (λ (b : Both). bare_rows b.old b.olds a.from (a.from + n) ≡ bare_rows b.new b.news a.start (a.start + n)) c.self.view_is
    (aside-until it.old it.olds.elements it.new.now.lines it.news.now.elements it.same_to it.old_from it.new_from it.others_from it.others_to c.self.invariant.2
    a.from a.start n c.if-from-self.false c.if-start-self.false c.if-from-self-2.false (omega (arith, c.min.ensures, c.saturating_sub-first.ensures)))

pub returns-clause-behind : goal.returns-clause-behind
returns-clause-behind c =
    let it = c.self.inside in
    let a = c.args in
    let n = c.min-2.result in
    subst (λ (b : Both). bare_rows b.old b.olds (a.from + n) (a.from + a.count) ≡ bare_rows b.new b.news (a.start + n) (a.start + a.count)) c.self.view_is
    (aside-behind it.old it.olds.elements it.new.now.lines it.news.now.elements it.same_to it.old_from it.new_from it.others_from it.others_to c.self.invariant.2
    a.from a.start n a.count c.if-from-self.false c.if-start-self.false c.if-from-self-2.false (c.min-2.ensures ∙ ap (λ m. min m a.count) c.saturating_sub-end.ensures)
    (subst (λ (b : Both). a.start + a.count ≤ row_count b.news) (sym c.self.view_is) c.requires.new))
