use Rattle.std.proofs.Common.{◌≡◌, ℕ, ◌+◌, ◌-◌, ◌<◌, ◌&&◌, Bool, true, false, Option, List, [], ◌∷◌, ◌++◌, length, get_or, drop, reverse, refl, sym, ap, ap₂, ◌∙◌, arith}
use Rattle.std.specs.Prelude.{option_to_list}
use Rattle.std.proofs.lemmas.List.{drop_more, reverse-append}
use Rattle.spec_script.specs.declared.Sort.{Sort}
use Rattle.spec_script.specs.declared.Sort.TheVariants as sorts
use Rattle.spec_script.specs.Left.{Cleaned, Left, left_before, left_from}
use Rattle.sp_blocks.specs.Scanned.{Scanned, all_go_through, clean, clean_each, goes_through, left_of, noted_parts}
use Rattle.sp_blocks.proofs.scan.left_lines.Goals.{in-Some+in_ok-push, in_default}
use Rattle.sp_blocks.proofs.scan.left_lines.Goals as goal

before-append : (place : ℕ) (sort : Sort) (line : Cleaned) (rest : List Left) → left_before place sort line rest ≡ left_before place sort line [] ++ rest
before-append place sorts.Empty line rest = refl
before-append place sorts.Absent line rest = refl
before-append place sorts.Held line rest = refl
before-append place sorts.Plain line rest = refl

and-true : (b : Bool) → (b && true) ≡ b
and-true true = refl
and-true false = refl

and-false : (b : Bool) → (b && false) ≡ false
and-false true = refl
and-false false = refl

-- The line at a place, before those behind it.
module _ (scanned : List Scanned) (place next : ℕ) (line : Scanned) (literal : Bool) (inside : place < length scanned) (next_is : next ≡ place + 1) (is : line ≡ get_or scanned place line) (behind : literal ≡ all_go_through (drop next scanned)) where
  abbrev rest : List Scanned
  rest = drop (place + 1) scanned

  here : drop place scanned ≡ line ∷ rest
  here = drop_more scanned place line inside ∙ ap (λ l. l ∷ rest) (sym is)

  open_here : literal ≡ all_go_through rest
  open_here = behind ∙ ap (λ n. all_go_through (drop n scanned)) next_is

  left-more : (left : Option Left) (old new : List Left) → option_to_list left ≡ left_of place (clean line.kept (noted_parts literal line.notes)) → reverse new ≡ option_to_list left ++ reverse old → reverse old ≡ left_from next (clean_each (drop next scanned)) → reverse new ≡ left_from place (clean_each (drop place scanned))
  left-more left old new told put so_far =
      let cleaned = clean line.kept (noted_parts (all_go_through rest) line.notes) in
      put
      ∙ ap₂ (λ xs ys. xs ++ ys) (told ∙ ap (λ b. left_of place (clean line.kept (noted_parts b line.notes))) open_here) (so_far ∙ ap (λ n. left_from n (clean_each (drop n scanned))) next_is)
      ∙ sym (before-append place cleaned.sort cleaned (left_from (place + 1) (clean_each rest)))
      ∙ sym (ap (λ those. left_from place (clean_each those)) here)

  open-more : (now : Bool) → now ≡ (goes_through line.notes && literal) → now ≡ all_go_through (drop place scanned)
  open-more now is_now = is_now ∙ ap (λ b. goes_through line.notes && b) open_here ∙ sym (ap all_go_through here)

pub loop-place-preserved-then-literal : goal.loop-place-preserved-then-literal
loop-place-preserved-then-literal c =
    let scanned = c.args.scanned.now in
    let next = c.loop-place.place in
    let place = next - 1 in
    let line = c.index-scanned-place.result in
    let literal = c.loop-place.literal in
    let old = c.loop-place.left.items in
    let so_far = c.loop-place.invariant in
    let inside : place < length scanned = omega (arith, so_far.low, c.loop-place-test.true) in
    let next_is : next ≡ place + 1 = omega (arith, c.loop-place-test.true) in
    let goes = goes_through line.notes in
    let put : reverse c.match-branch-2.left.items ≡ option_to_list c.in_ok-line.field-0 ++ reverse old = elim c.match-branch-2.branch [
      | in-Some+in_ok-push w ↦ ap (λ v. reverse v.items) w.left-is ∙ ap reverse w.in_ok-push.ensures.items ∙ reverse-append old (w.in-Some.line ∷ []) ∙ sym (ap (λ o. option_to_list o ++ reverse old) w.in-Some.is)
      | in_default w ↦ ap (λ v. reverse v.items) w.left-is ∙ sym (ap (λ o. option_to_list o ++ reverse old) w.in_default.is)
    ] in
    record {
      low = omega (arith, so_far.low);
      same = left-more scanned place next line literal inside next_is c.index-scanned-place.is so_far.open_behind c.in_ok-line.field-0 old c.match-branch-2.left.items c.in_ok-line.ensures put so_far.same;
      open_behind = open-more scanned place next line literal inside next_is c.index-scanned-place.is so_far.open_behind c.goes_through-literal.result (c.goes_through-literal.ensures ∙ ap (λ (s : Scanned). goes_through s.notes) c.line.view_is ∙ sym (ap (λ b. goes && b) c.if-literal.true ∙ and-true goes));
    }

pub loop-place-preserved : goal.loop-place-preserved
loop-place-preserved c =
    let scanned = c.args.scanned.now in
    let next = c.loop-place.place in
    let place = next - 1 in
    let line = c.index-scanned-place.result in
    let literal = c.loop-place.literal in
    let old = c.loop-place.left.items in
    let so_far = c.loop-place.invariant in
    let inside : place < length scanned = omega (arith, so_far.low, c.loop-place-test.true) in
    let next_is : next ≡ place + 1 = omega (arith, c.loop-place-test.true) in
    let goes = goes_through line.notes in
    let put : reverse c.match-branch-2.left.items ≡ option_to_list c.in_ok-line.field-0 ++ reverse old = elim c.match-branch-2.branch [
      | in-Some+in_ok-push w ↦ ap (λ v. reverse v.items) w.left-is ∙ ap reverse w.in_ok-push.ensures.items ∙ reverse-append old (w.in-Some.line ∷ []) ∙ sym (ap (λ o. option_to_list o ++ reverse old) w.in-Some.is)
      | in_default w ↦ ap (λ v. reverse v.items) w.left-is ∙ sym (ap (λ o. option_to_list o ++ reverse old) w.in_default.is)
    ] in
    record {
      low = omega (arith, so_far.low);
      same = left-more scanned place next line literal inside next_is c.index-scanned-place.is so_far.open_behind c.in_ok-line.field-0 old c.match-branch-2.left.items c.in_ok-line.ensures put so_far.same;
      open_behind = open-more scanned place next line literal inside next_is c.index-scanned-place.is so_far.open_behind literal (c.if-literal.false ∙ sym (ap (λ b. goes && b) c.if-literal.false ∙ and-false goes));
    }
