use Rattle.std.proofs.Common.{◌≡◌, ℕ, ◌+◌, ◌<◌, ◌↔◌, false, length, take, sym, ap, ◌∙◌, subst, arith}
use Rattle.std.specs.Prelude.{IsTrue, slice_range}
use Rattle.std.proofs.lemmas.Bool.{eq-eqb, eqb-true, true≢false}
use Rattle.spec_pages.specs.Pages.{begins_heading}
use Rattle.sp_sheets.specs.HeadingIds.{IsHeadingFrom, heading_ids}
use Rattle.sp_sheets.proofs.SameHeadings.{AreLeft, below, ids_left, ids-next, ids-run, left-end, left-heading, left-other, left-over, left-plain, same-lines, same-till, till-inside, till-over, till-read}
use Rattle.sp_sheets.proofs.compared_headings.same_headings.Goals as goal
use Rattle.sp_sheets.proofs.compared_headings.same_headings.Goals.{then-next-len-via-then-next-len, then-next-len-via-else-next-len+then-at, then-begins_heading+else-next-len+else-at, else-begins_heading}

pub loop-place-init : goal.loop-place-init
loop-place-init c =
    let passed = ids-next c.args.others.now.items c.args.other_keys.now.items 0 c.next_heading-next.result c.requires.other_keys c.next_heading-next.ensures in
    let run = ids-run c.args.shapes.now.items c.args.keys.now.items c.args.from c.args.to in
    ((0, c.next_heading-next.ensures), (λ e. sym run ∙ e ∙ passed, λ e. run ∙ e ∙ sym passed))

pub returns : goal.returns
returns c =
    let next = c.loop-place.next in
    let shapes = c.args.shapes.now.items in
    let keys = c.args.keys.now.items in
    let from = c.args.from in
    let to = c.args.to in
    let others = c.args.others.now.items in
    let other_keys = c.args.other_keys.now.items in
    let left =
    left-end (heading_ids (slice_range shapes from to) (slice_range keys from to) ≡ heading_ids others other_keys) (take to shapes) (take to keys) c.loop-place.place others other_keys c.loop-place.invariant.0.0 next
    (till-over shapes to c.loop-place.place (omega arith)) c.requires.other_keys c.loop-place.invariant.0.1 c.loop-place.invariant.1 in
    (λ is. left.0 (eqb-true next c.len-2.result is ∙ c.len-2.ensures.len), λ h. eq-eqb next c.len-2.result (left.1 h ∙ sym c.len-2.ensures.len))

pub returns-then-next-len : goal.returns-then-next-len
returns-then-next-len c =
    let place = c.loop-place.place in
    let shapes = c.args.shapes.now.items in
    let keys = c.args.keys.now.items in
    let from = c.args.from in
    let to = c.args.to in
    let others = c.args.others.now.items in
    let other_keys = c.args.other_keys.now.items in
    let all = heading_ids (slice_range shapes from to) (slice_range keys from to) ≡ heading_ids others other_keys in
    let start = c.loop-place.invariant.0 in
    let left = c.loop-place.invariant.1 in
    let low : place < to = c.loop-place-test.true in
    let inside = till-inside shapes to place low c.requires.within in
    let same = same-till shapes keys to c.requires.keys in
    let opens = ap begins_heading (till-read shapes to place c.at.result.now c.at.result.now low c.at.ensures) ∙ sym c.begins_heading.ensures ∙ c.if-begins_heading.true in
    let differ : (all → ⊥) → (IsTrue false ↔ all) = λ other. (λ is. absurd (true≢false (sym is)), λ h. absurd (other h)) in
    elim c.then-next-len.branch [
      | then-next-len-via-then-next-len w ↦
          differ (left-over all (take to shapes) (take to keys) place others other_keys c.loop-place.next _ inside same (omega arith) opens left)
      | then-next-len-via-else-next-len+then-at w ↦
          let some : c.loop-place.next < length others = below c.loop-place.next (length others) (start.1).within (λ e. w.if-next-len.false (e ∙ sym c.len.ensures.len)) in
          let lines = same-lines keys other_keys to place c.loop-place.next w.at-else-next-len-2.result.now w.at-else-next-len.result.now low w.at-else-next-len-2.ensures w.at-else-next-len.ensures in
          differ (left-other all (take to shapes) (take to keys) place others other_keys start.0 c.loop-place.next _ _ _ inside same c.requires.other_keys some start.1 opens (λ e. w.if-at.true (lines.0 e)) left)
    ]

pub loop-place-preserved : goal.loop-place-preserved
loop-place-preserved c =
    let place = c.loop-place.place in
    let shapes = c.args.shapes.now.items in
    let keys = c.args.keys.now.items in
    let from = c.args.from in
    let to = c.args.to in
    let others = c.args.others.now.items in
    let other_keys = c.args.other_keys.now.items in
    let all = heading_ids (slice_range shapes from to) (slice_range keys from to) ≡ heading_ids others other_keys in
    let start = c.loop-place.invariant.0 in
    let left = c.loop-place.invariant.1 in
    let low : place < to = c.loop-place-test.true in
    let inside = till-inside shapes to place low c.requires.within in
    let same = same-till shapes keys to c.requires.keys in
    let read = ap begins_heading (till-read shapes to place c.at.result.now c.at.result.now low c.at.ensures) ∙ sym c.begins_heading.ensures in
    let P : ℕ → Type 0 = λ next. ((x : ℕ) × IsHeadingFrom others x next) × AreLeft all (ids_left (take to shapes) (take to keys) (place + 1)) (ids_left others other_keys next) in
    elim c.if-begins_heading.branch [
      | then-begins_heading+else-next-len+else-at w ↦
          let some : c.loop-place.next < length others = below c.loop-place.next (length others) (start.1).within (λ e. w.if-next-len.false (e ∙ sym w.len.ensures.len)) in
          let lines = same-lines keys other_keys to place c.loop-place.next w.at-else-next-len-2.result.now w.at-else-next-len.result.now low w.at-else-next-len-2.ensures w.at-else-next-len.ensures in
          let after = w.next_heading-next-then-begins_heading.ensures in
          let behind = w.next_heading-next-then-begins_heading.result in
          subst P (sym w.next-is) (
            (c.loop-place.next + 1, after),
            left-heading all (take to shapes) (take to keys) place others other_keys start.0 c.loop-place.next behind _ _ _ inside same c.requires.other_keys some start.1 (read ∙ w.if-begins_heading.true) (lines.1 w.if-at.false) after left,
          )
      | else-begins_heading w ↦
          subst P (sym w.next-is) (start, left-plain all (take to shapes) (take to keys) place _ (ids_left others other_keys c.loop-place.next) inside same (read ∙ w.if-begins_heading.false) left)
    ]
