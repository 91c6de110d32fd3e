use Rattle.std.proofs.Common.{◌≡◌, ◌-◌, length, ap, sym, slice_get, ◌∙◌, arith}
use Rattle.std.specs.Prelude.{Option, Some, None, IfNone}
use Rattle.spec_sheets.specs.Sheets.{Sheet}
use Rattle.spec_state.specs.Keeping.{state_of}
use Rattle.spec_state.specs.State.{State}
use Rattle.spec_state.specs.StateSheets.{sheets_of_state}
use Rattle.sp_text.specs.Gap.{text_of}
use Rattle.sp_sheets.proofs.SheetPlaces.{made-places, made-count, made-title, made-found}
use Rattle.sp_state.proofs.script.Script.sheet.Goals as goal

if-none : (P Q : Type 0) (found : Option Sheet) → (P → Q) → IfNone found P → IfNone found Q
if-none P Q None f p = f p
if-none P Q (Some sheet) f p = tt

pub made_title-requires-clause-places : goal.made_title-requires-clause-places
made_title-requires-clause-places c =
    rw c.lines-lines.ensures.lines (made-places (state_of (text_of c.self.inside.text.lines) c.self.inside.records) c.self.inside.made c.self.invariant.0 c.self.invariant.1)

pub returns-then-i-count-clause-some : goal.returns-then-i-count-clause-some
returns-then-i-count-clause-some c =
    let state : State = state_of (text_of c.self.inside.text.lines) c.self.inside.records in
    let count = c.title_count-count.ensures in
    let low = c.if-i-count.true in
    ap (λ (it : State). slice_get (sheets_of_state it) c.args.i) (sym c.self.view_is)
    ∙ made-title state c.self.inside.made c.args.i c.self.invariant.1 (omega (arith, low, count))
    ∙ ap Some (sym (rw c.lines-lines.ensures.lines at c.made_title.ensures))

pub made_sheet-requires : goal.made_sheet-requires
made_sheet-requires c =
    rw c.lines-lines.ensures.lines (made-places (state_of (text_of c.self.inside.text.lines) c.self.inside.records) c.self.inside.made c.self.invariant.0 c.self.invariant.1)

pub returns-clause-some : goal.returns-clause-some
returns-clause-some c =
    let state : State = state_of (text_of c.self.inside.text.lines) c.self.inside.records in
    let made = c.self.inside.made in
    let count = c.title_count-count.ensures in
    let high = c.if-i-count.false in
    let place : c.args.i - length made.numbered.title_starts ≡ c.args.i - c.title_count-count.result = ap (λ n. c.args.i - n) (sym count) in
    made-found state c.args.self.now made c.args.i (c.args.i - c.title_count-count.result) c.made_sheet.result c.self.view_is c.self.invariant.1 (omega (arith, high, count)) place (rw c.lines-lines.ensures.lines at c.made_sheet.ensures.some)

pub returns-clause-none : goal.returns-clause-none
returns-clause-none c =
    let state : State = state_of (text_of c.self.inside.text.lines) c.self.inside.records in
    let made = c.self.inside.made in
    let count = c.title_count-count.ensures in
    let high = c.if-i-count.false in
    let all = ap (λ (it : State). length (sheets_of_state it)) (sym c.self.view_is) ∙ made-count state made c.self.invariant.1 in
    if-none _ _ c.made_sheet.result (λ past. omega (arith, all, count, high, past)) c.made_sheet.ensures.none
