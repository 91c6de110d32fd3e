use Rattle.std.proofs.Common.{◌+◌, List, ℕ, sym, ap₂, subst, ◌∙◌, arith}
use Rattle.sp_layout.specs.Runs.{CanExchangeBreaks, with_breaks}
use Rattle.sp_layout.proofs.RunsBack.{breaks-back}
use Rattle.sp_layout.proofs.runs.exchange_breaks.Goals as goal

pub returns-clause-back : goal.returns-clause-back
returns-clause-back c =
    let a = c.args in
    let end = a.from + c.len-count.result in
    let back = breaks-back a.breaks.now.items a.others.now.items a.from a.to end a.base a.less a.more c.requires.can (omega (arith, c.len-count.ensures, a.others.now.ok.0)) in
    ap₂ (λ (new taken : List ℕ). with_breaks new a.from end taken a.base a.more a.less) c.exchange_places.ensures.list c.exchange_places.ensures.items ∙ back.back

pub returns-clause-can : goal.returns-clause-can
returns-clause-can c =
    let a = c.args in
    let end = a.from + c.len-count.result in
    let back = breaks-back a.breaks.now.items a.others.now.items a.from a.to end a.base a.less a.more c.requires.can (omega (arith, c.len-count.ensures, a.others.now.ok.0)) in
    subst (λ (new : List ℕ). CanExchangeBreaks new a.from end c.exchange_places.new.items.items a.base a.more a.less) (sym c.exchange_places.ensures.list)
    (subst (λ (taken : List ℕ). CanExchangeBreaks (with_breaks a.breaks.now.items a.from a.to a.others.now.items a.base a.less a.more) a.from end taken a.base a.more a.less) (sym c.exchange_places.ensures.items) back.can)
