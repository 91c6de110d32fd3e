use Rattle.std.proofs.Common.{◌≡◌, ◌∷◌, slice_get, ap, sym, ◌∙◌, subst, arith, List, []}
use Rattle.std.specs.Prelude.{MatchOption}
use Rattle.spec_sheets.specs.RowBytes.{ShownRow}
use Rattle.sp_print.proofs.Places.{drop-none, first-left}
use Rattle.sp_print.proofs.SlotLaws.{next-step}
use Rattle.sp_print.proofs.slots.slot_at.Goals as goal

pub loop-preserved : goal.loop-preserved
loop-preserved c =
    let P : List ShownRow → Type 0 = λ rows. MatchOption c.next.result (rows ≡ []) (λ row. rows ≡ row ∷ c.next.new.self) in
    next-step c.args.slots c.loop.counter c.next.result c.next.new.self (omega (arith, c.loop-test.true, c.requires)) (subst P c.loop.invariant c.next.ensures)

pub unreachable-requires : goal.unreachable-requires
unreachable-requires c =
    let past = drop-none c.args.slots c.loop.counter (sym c.loop.invariant ∙ c.in-None.ensures) in
    omega (arith, past, c.requires, c.loop-test.false, c.loop.auto.counter-end)

pub returns : goal.returns
returns c =
    let there : c.loop.counter ≡ c.args.k = omega (arith, c.loop-test.false, c.loop.auto.counter-end) in
    ap (slice_get c.args.slots) (sym there) ∙ first-left c.args.slots c.loop.counter c.in-Some.row c.next-2.new.self (sym c.loop.invariant ∙ c.in-Some.ensures)
