use Rattle.std.proofs.Common.{◌≡◌, ℕ, ◌+◌, ◌-◌, ◌<◌, ◌≤◌, ◌==◌, ◌||◌, Bool, true, false, List, length, get_or, take, drop, refl, sym, ap, ◌∙◌, arith, length-drop}
use Rattle.std.proofs.lemmas.List.{get_or-drop, get_or_default, take_rest}
use Rattle.sp_emph.specs.Markers.{has_mark}
use Rattle.sp_emph.proofs.markers.next_mark.Goals as goal

is-false : (b : Bool) → (b ≡ true → ⊥) → b ≡ false
is-false true h = absurd (h refl)
is-false false h = refl

-- What stands at a place of the line, in the rest of it.
in_rest : (line : List ℕ) (from k : ℕ) → from ≤ k → k < length line → get_or (take (length line - from) (drop from line)) (k - from) 0 ≡ get_or line k 32
in_rest line from k low high =
    let place : from + (k - from) ≡ k = omega arith in
    ap (λ l. get_or l (k - from) 0) (take_rest line from) ∙ get_or-drop from line (k - from) 0 ∙ ap (λ n. get_or line n 0) place ∙ get_or_default line k 0 32 high

bare : (line : List ℕ) (from k : ℕ) → from ≤ k → k < length line
    → let at = get_or (take (length line - from) (drop from line)) (k - from) 0 in (((at == 42) || (at == 95)) ≡ true → ⊥) → has_mark line k ≡ false
bare line from k low high none = sym (ap (λ b. (b == 42) || (b == 95)) (in_rest line from k low high)) ∙ is-false _ none

pub returns-in-Some-clause-bare : goal.returns-in-Some-clause-bare
returns-in-Some-clause-bare c = λ k low high.
    let line = c.args.line.now in
    let from = c.args.from in
    let first = c.in-Some.ensures.0 in
    let end : c.in-Some.next < length (take (length line - from) (drop from line)) = first.high in
    let inside : k < length line = omega (arith, end, ap length (take_rest line from), length-drop from line) in
    bare line from k low inside (first.before (k - from) (omega arith) (omega arith))

pub returns-in-None-clause-bare : goal.returns-in-None-clause-bare
returns-in-None-clause-bare c = λ k low high.
    let line = c.args.line.now in
    let from = c.args.from in
    let inside : k - from < length (take (length line - from) (drop from line)) = omega (arith, ap length (take_rest line from), length-drop from line) in
    bare line from k low high (c.in-None.ensures (k - from) (omega arith) inside)
