-- Inside a stanza no line is a fresh point.
use Rattle.std.proofs.Common.{◌≡◌, ℕ, ◌+◌, ◌-◌, ◌<◌, zero, suc, false, List, [], ◌∷◌, map, length, slice_get, Some, sym, ap, subst, ◌∙◌, inl, inr, arith}
use Rattle.std.proofs.lemmas.Bool.{cases_Bool, cond-true, cond-false, true≢false}
use Rattle.std.proofs.lemmas.List.{drop-map}
use Rattle.spec_script.specs.declared.Sort.TheVariants as sorts
use Rattle.spec_script.specs.Stanzas.{Kept, kept_lines, is_empty, sort_at, IsFresh, lines_from, stanza_lines}
use Rattle.spec_script.proofs.StanzaLines.{up_to_empty, stanza-up_to_empty}
use Rattle.spec_edit.proofs.Lists.{slice_get-drop}

none-empty : (lines : List Kept) (k : ℕ) → suc k < length (up_to_empty lines) → slice_get (map sort_at lines) k ≡ Some sorts.Empty → ⊥
none-empty [] k low empty = omega (arith, low)
none-empty (line ∷ lines) k low empty =
    elim (cases_Bool (is_empty line.sort)) [
      | inl t ↦
          let one : suc k < length (line ∷ []) = subst (λ l. suc k < length l) (cond-true (is_empty line.sort) (line ∷ []) (line ∷ up_to_empty lines) t) low in
          omega (arith, one)
      | inr t ↦
          let more : suc k < length (line ∷ up_to_empty lines) = subst (λ l. suc k < length l) (cond-false (is_empty line.sort) (line ∷ []) (line ∷ up_to_empty lines) t) low in
          behind (none-empty lines) k more empty t
    ]
  where
    behind : ((k : ℕ) → suc k < length (up_to_empty lines) → slice_get (map sort_at lines) k ≡ Some sorts.Empty → ⊥) → (k : ℕ) → suc k < length (line ∷ up_to_empty lines) → slice_get (map sort_at (line ∷ lines)) k ≡ Some sorts.Empty → is_empty line.sort ≡ false → ⊥
    behind inner zero more empty t = let is : line.sort ≡ sorts.Empty = cc (empty) in true≢false (sym (ap is_empty is) ∙ t)
    behind inner (suc k) more empty t = inner k (omega (arith, more)) empty

-- Behind the first line of a stanza no line of it is a fresh point.
pub none-inside : (texts : List (List ℕ)) (a p : ℕ) → a < p → p < a + length (stanza_lines texts a) → IsFresh texts p → ⊥
none-inside texts a p less low (inl never) = omega (arith, less, never)
none-inside texts a p less low (inr empty) =
    let k = p - a - 1 in
    let n : length (stanza_lines texts a) ≡ length (up_to_empty (lines_from texts a)) = ap length (stanza-up_to_empty (lines_from texts a)) in
    let at : a + k ≡ p - 1 = omega (arith, less) in
    none-empty (lines_from texts a) k (omega (arith, n, less, low))
    (ap (λ ls. slice_get ls k) (sym (drop-map sort_at a (kept_lines texts))) ∙ slice_get-drop (map sort_at (kept_lines texts)) a k ∙ ap (slice_get (map sort_at (kept_lines texts))) at ∙ empty)
