use Rattle.std.proofs.Common.{◌++◌, List, ℕ, take, drop, sym, ap, subst, ◌∙◌, arith, All}
use Rattle.sp_gap.specs.Moves.{CanShift}
use Rattle.sp_gap.proofs.MoveLaws.{exchanging, first-moved}
use Rattle.sp_gap.proofs.places.exchange_places.Goals as goal

pub shift_run-requires-2-clause-can : goal.shift_run-requires-2-clause-can
shift_run-requires-2-clause-can c =
    let a = c.args in
    let first = first-moved a.list.now.items c.shift_run.new.places.items a.from a.to c.len-end.result a.less a.more c.requires.order (omega (arith, c.requires.within, a.list.now.ok.0)) (c.len-end.ensures ∙ a.list.now.ok.0) c.shift_run.ensures.places in
    subst (All (CanShift a.base 0)) (sym first.run_is) c.requires.go

pub returns-clause-list : goal.returns-clause-list
returns-clause-list c =
    let a = c.args in
    let done = exchanging a.list.now.items a.items.now.items c.shift_run.new.places.items c.shift_run-2.new.places.items a.from a.to c.len-end.result a.base a.less a.more c.requires.order (omega (arith, c.requires.within, a.list.now.ok.0)) (c.len-end.ensures ∙ a.list.now.ok.0) c.shift_run.ensures.places c.shift_run-2.ensures.places in
    c.exchange.ensures.list ∙ ap (λ (xs : List ℕ). take a.from c.shift_run-2.new.places.items ++ (xs ++ drop a.to c.shift_run-2.new.places.items)) c.shift_all.ensures.places ∙ done.list_is

pub returns-clause-items : goal.returns-clause-items
returns-clause-items c =
    let a = c.args in
    let done = exchanging a.list.now.items a.items.now.items c.shift_run.new.places.items c.shift_run-2.new.places.items a.from a.to c.len-end.result a.base a.less a.more c.requires.order (omega (arith, c.requires.within, a.list.now.ok.0)) (c.len-end.ensures ∙ a.list.now.ok.0) c.shift_run.ensures.places c.shift_run-2.ensures.places in
    c.exchange.ensures.items ∙ done.items_is
