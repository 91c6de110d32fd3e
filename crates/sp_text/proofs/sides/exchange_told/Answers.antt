use Rattle.std.proofs.Common.{◌-◌, ◌≢◌, ◌++◌, ℕ, List, AllPairs, length, take, drop, reverse, refl, sym, ap, ap₂, ◌∙◌, subst, arith, append_assoc, take_all}
use Rattle.std.proofs.lemmas.List.{length-map, length-set}
use Rattle.spec_text.specs.Lines.{LineState}
use Rattle.spec_text.specs.Edits.{line_ids}
use Rattle.sp_text.specs.declared.index.Side.TheVariants.{Front}
use Rattle.sp_text.specs.declared.index.Entry.{Entry}
use Rattle.sp_text.specs.Index.{Indexes, gone_entry}
use Rattle.sp_text.proofs.Exchanges.{differ-sides}
use Rattle.sp_text.proofs.Learned.{forget-known, forget-step, learn-start}
use Rattle.sp_text.proofs.sides.exchange_told.Goals as goal

pub forget-place-requires-clause-known : goal.forget-place-requires-clause-known
forget-place-requires-clause-known c =
    let back = c.args.back.now in
    forget-known (line_ids c.args.front.now.items) back.items c.loop-done.index c.loop-done.done c.len.result (c.len.result - 1 - c.loop-done.done) c.behind-back.inside.id c.index.result.now (c.len.ensures ∙ back.ok.0) (omega (arith, c.len.ensures, c.requires.there, c.loop-done-test.true)) refl c.index.ensures (ap (λ (l : LineState). l.id) c.behind-back.view_is) c.loop-done.invariant.0

pub loop-done-preserved : goal.loop-done-preserved
loop-done-preserved c =
    let back = c.args.back.now in (
      forget-step (line_ids c.args.front.now.items) back.items c.loop-done.index c.loop-done.done c.len.result (c.len.result - 1 - c.loop-done.done) c.behind-back.inside.id c.index.result.now (c.len.ensures ∙ back.ok.0) (omega (arith, c.len.ensures, c.requires.there, c.loop-done-test.true)) refl c.index.ensures (ap (λ (l : LineState). l.id) c.behind-back.view_is) c.loop-done.invariant.0 c.forget-place.result c.forget-place.new.self c.forget-place.ensures.found c.forget-place.ensures.gone,
      ap (λ (xs : List Entry). length xs) c.forget-place.ensures.gone ∙ length-set c.loop-done.index c.forget-place.result (gone_entry c.behind-back.inside.id) ∙ c.loop-done.invariant.1,
    )

pub loop-done-init : goal.loop-done-init
loop-done-init c =
    let back = c.args.back.now.items in
    let all = take_all (length back - 0) (line_ids back) (omega (arith, length-map back (λ (l : LineState). l.id))) in
    (subst (λ ids. Indexes Front (line_ids c.args.front.now.items) ids c.args.index.now) (sym all) c.requires.index, refl)

pub add-requires-clause-indexes : goal.add-requires-clause-indexes
add-requires-clause-indexes c =
    let back = c.args.back.now in
    let front = c.args.front.now in
    let places = c.change_places.ensures in
    let P : List LineState → Type 0 = λ lines. Indexes Front (take c.len-stood.result (line_ids lines)) (line_ids c.as_slice-2.result.now) c.loop-done.index in
    let Q : List LineState → Type 0 = λ lines. Indexes Front (take c.len-stood.result (line_ids c.change_places.new.front.items)) (line_ids lines) c.loop-done.index in
    subst P (sym c.as_slice.ensures.value) (subst Q (sym c.as_slice-2.ensures.value) (learn-start front.items c.change_places.new.front.items back.items c.change_places.new.back.items _ c.len-stood.result c.loop-done.done _ c.args.count c.loop-done.index c.loop-done.invariant.0 places.front (c.len-stood.ensures ∙ front.ok.0) places.left back.ok.0 (omega (arith, c.loop-done-test.false, c.loop-done.auto.done-end))))

pub add-requires-clause-distinct : goal.add-requires-clause-distinct
add-requires-clause-distinct c =
    let places = c.change_places.ensures in
    let P : List LineState → Type 0 = λ lines. AllPairs (λ (one other : ℕ). one ≢ other) (line_ids lines ++ line_ids c.as_slice-2.result.now) in
    let Q : List LineState → Type 0 = λ lines. AllPairs (λ (one other : ℕ). one ≢ other) (line_ids c.change_places.new.front.items ++ line_ids lines) in
    let whole = ap₂ (λ xs ys. xs ++ ys) places.front places.back ∙ append_assoc c.args.front.now.items (drop c.args.kept c.args.lines.now.items) (drop c.args.count (reverse c.args.back.now.items)) in
    subst P (sym c.as_slice.ensures.value) (subst Q (sym c.as_slice-2.ensures.value) (differ-sides c.change_places.new.front.items c.change_places.new.back.items _ whole c.requires.distinct))

pub returns-clause-index : goal.returns-clause-index
returns-clause-index c =
    let P : List LineState → Type 0 = λ lines. Indexes Front (line_ids lines) (line_ids c.change_places.new.back.items) c.add.new.self in
    let Q : List LineState → Type 0 = λ lines. Indexes Front (line_ids c.as_slice.result.now) (line_ids lines) c.add.new.self in
    subst P c.as_slice.ensures.value (subst Q c.as_slice-2.ensures.value c.add.ensures.indexes)

pub returns-clause-lines : goal.returns-clause-lines
returns-clause-lines c =
    ap₂ (λ xs ys. xs ++ ys) c.change_places.ensures.front c.change_places.ensures.back ∙ append_assoc c.args.front.now.items (drop c.args.kept c.args.lines.now.items) (drop c.args.count (reverse c.args.back.now.items))
