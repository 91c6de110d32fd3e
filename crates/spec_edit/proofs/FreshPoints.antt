-- Fresh points before the place of an edit, and behind it.
use Rattle.std.proofs.Common.{◌≡◌, ◌==◌, ℕ, ◌-◌, ◌<◌, ◌≤◌, zero, suc, Bool, false, List, [], ◌∷◌, map, take, drop, slice_get, refl, sym, ap, ◌∙◌, inl, inr, arith}
use Rattle.std.proofs.lemmas.Bool.{ne_eqb}
use Rattle.std.proofs.lemmas.List.{take-map}
use Rattle.spec_script.specs.Marked.{covered, inside_after}
use Rattle.spec_script.specs.Boneyards.{yard_turns}
use Rattle.spec_script.specs.LongestRuns.{longest_runs}
use Rattle.spec_script.specs.Stanzas.{Kept, kept_line, kept_each, kept_lines, one_stanza, sort_at, IsFresh, lines_from, stanzas_in, stanzas_from}
use Rattle.spec_script.proofs.YardLaws.{yards-line_by_line}
use Rattle.spec_script.proofs.StanzaLines.{kept_by_line, fresh-lines}
use Rattle.spec_edit.proofs.Lists.{slice_get-take}

kept-take : (inside : Bool) (texts : List (List ℕ)) (n : ℕ) → take n (kept_by_line inside texts) ≡ kept_by_line inside (take n texts)
kept-take inside texts zero = refl
kept-take inside [] (suc n) = refl
kept-take inside (text ∷ texts) (suc n) =
    ap (λ (ls : List Kept). kept_line text (record { began = inside; gone = covered yard_turns inside text }) ∷ ls) (kept-take (inside_after yard_turns inside text) texts n)

-- What boneyards leave of the first lines, the lines behind them don't change.
pub kept_lines-take : (texts : List (List ℕ)) (n : ℕ) → take n (kept_lines texts) ≡ kept_lines (take n texts)
kept_lines-take texts n =
    ap (λ ys. take n (kept_each texts ys)) (yards-line_by_line texts)
    ∙ kept-take false texts n
    ∙ sym (ap (kept_each (take n texts)) (yards-line_by_line (take n texts)))

-- So nor their sorts.
pub sort-take : (texts : List (List ℕ)) (n k : ℕ) → k < n → slice_get (map sort_at (kept_lines texts)) k ≡ slice_get (map sort_at (kept_lines (take n texts))) k
sort-take texts n k low =
    sym (slice_get-take (map sort_at (kept_lines texts)) n k low)
    ∙ ap (λ ls. slice_get ls k) (take-map sort_at n (kept_lines texts) ∙ ap (map sort_at) (kept_lines-take texts n))

-- Up to the place of an edit the fresh points are the same in both texts.
pub fresh-same : (before after : List (List ℕ)) (first place : ℕ) → take first before ≡ take first after → place ≤ first → IsFresh before place → IsFresh after place
fresh-same before after first zero same low fresh = inl refl
fresh-same before after first (suc n) same low (inl never) = absurd (omega (arith, never))
fresh-same before after first (suc n) same low (inr empty) =
    let at : suc n - 1 < first = omega (arith, low) in
    inr (sort-take after first (suc n - 1) at ∙ sym (ap (λ t. slice_get (map sort_at (kept_lines t)) (suc n - 1)) same) ∙ sym (sort-take before first (suc n - 1) at) ∙ empty)

-- From a fresh point on, the stanzas of a text are those of the lines there, whatever stands before them.
pub from-same : (before after : List (List ℕ)) (p q : ℕ) → 0 < p → 0 < q → IsFresh before p → IsFresh after q → drop p before ≡ drop q after → stanzas_from before p ≡ stanzas_from after q
from-same before after p q some some' fresh fresh' same =
    let lines : lines_from before p ≡ lines_from after q = fresh-lines before p fresh ∙ ap (kept_by_line false) same ∙ sym (fresh-lines after q fresh') in
    let first : (p == 0) ≡ false = ne_eqb p 0 (λ e. omega (arith, e, some)) in
    let first' : (q == 0) ≡ false = ne_eqb q 0 (λ e. omega (arith, e, some')) in
    ap (λ b. stanzas_in b (longest_runs one_stanza (lines_from before p))) first
    ∙ ap (λ ls. stanzas_in false (longest_runs one_stanza ls)) lines
    ∙ sym (ap (λ b. stanzas_in b (longest_runs one_stanza (lines_from after q))) first')
