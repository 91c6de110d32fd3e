-- What an edit leaves of the stanzas of a text: those before the window, and those behind it.
use Rattle.std.proofs.Common.{◌≡◌, ℕ, ◌+◌, ◌-◌, ◌≤◌, true, List, ◌++◌, length, take, drop, sym, ap, ap₂, subst, ◌∙◌, inl, inr, arith, length-drop}
use Rattle.std.proofs.lemmas.List.{take-take, drop-drop}
use Rattle.spec_script.specs.BlockValues.{StanzaOf}
use Rattle.spec_script.specs.LongestRuns.{longest_runs}
use Rattle.spec_script.specs.Stanzas.{kept_lines, one_stanza, IsFresh, stanzas_in, stanzas_from, stanzas_of}
use Rattle.spec_script.proofs.StanzaList.{stanzas-end}
use Rattle.spec_edit.specs.Windows.{IsCut, IsFreshPoint, IsEdited, IsGreatest, MayStart, MayEnd, IsWindowEnd, IsWindow, stanzas_between}
use Rattle.spec_edit.proofs.FreshPoints.{kept_lines-take, fresh-same, from-same}
use Rattle.spec_edit.proofs.Splits.{split}
use Rattle.spec_edit.proofs.Places.{point-fresh}

-- Both texts have as many lines more than the edit's as the other.
pub edit-lengths : (before after : List (List ℕ)) (first old new : ℕ) → IsEdited before after first old new → length before + new ≡ length after + old
edit-lengths before after first old new e =
    omega (arith, e.taken, e.put, length-drop (first + old) before, length-drop (first + new) after, ap length e.rest)

-- Behind the edit both texts have the same lines.
pub same-rest : (before after : List (List ℕ)) (first old new p q : ℕ) → IsEdited before after first old new → first + new ≤ q → q + old ≡ p + new → drop p before ≡ drop q after
same-rest before after first old new p q e low shift =
    let m = q - (first + new) in
    let there : first + new + m ≡ q = omega (arith, low) in
    let here : first + old + m ≡ p = omega (arith, low, shift) in
    sym (drop-drop m (first + old) before ∙ ap (λ n. drop n before) here)
    ∙ ap (drop m) e.rest
    ∙ drop-drop m (first + new) after
    ∙ ap (λ n. drop n after) there

-- The stanzas before a place are the same in both texts, where the texts are the same up to it.
pub between-same : (before after : List (List ℕ)) (first a : ℕ) → take first before ≡ take first after → a ≤ first → stanzas_between before 0 a ≡ stanzas_between after 0 a
between-same before after first a same low =
    let none : a - 0 ≡ a = omega arith in
    let texts : take a before ≡ take a after = sym (take-take a first before low) ∙ ap (take a) same ∙ take-take a first after low in
    let lines : take a (kept_lines before) ≡ take a (kept_lines after) = kept_lines-take before a ∙ ap kept_lines texts ∙ sym (kept_lines-take after a) in
    ap (λ n. stanzas_in true (longest_runs one_stanza (take n (kept_lines before)))) none
    ∙ ap (λ ls. stanzas_in true (longest_runs one_stanza ls)) lines
    ∙ sym (ap (λ n. stanzas_in true (longest_runs one_stanza (take n (kept_lines after)))) none)

-- Where a window may end, the stanzas of the new text are those of the text before from the place that it was.
pub end-same : (before after : List (List ℕ)) (first old new b : ℕ) → IsEdited before after first old new → (m : MayEnd before after first old new b) → stanzas_from after b ≡ stanzas_from before m.was
end-same before after first old new b e m =
    sym (from-same before after m.was b m.was_some m.some (point-fresh before m.was m.was_fresh) (point-fresh after b m.fresh) (same-rest before after first old new m.was b e m.past m.shift))

-- The greatest is one.
pub greatest-one : (P : ℕ → Type 0) (a b : ℕ) → IsGreatest P a → IsGreatest P b → a ≡ b
greatest-one P a b x y = omega (arith, x.above b y.meets, y.above a x.meets)

pub window-end-one : (before after : List (List ℕ)) (first old new a b : ℕ) → IsWindowEnd before after first old new a → IsWindowEnd before after first old new b → a ≡ b
window-end-one before after first old new a b (inl x) (inl y) = omega (arith, x.below b y.meets, y.below a x.meets)
window-end-one before after first old new a b (inl x) (inr y) = absurd (y.0 a x.meets)
window-end-one before after first old new a b (inr x) (inl y) = absurd (x.0 b y.meets)
window-end-one before after first old new a b (inr x) (inr y) = x.1 ∙ sym y.1

-- The window of an edit is one.
pub window-one : (before after : List (List ℕ)) (first old new a b c d : ℕ) → IsWindow before after first old new a b → IsWindow before after first old new c d → (a ≡ c) × (b ≡ d)
window-one before after first old new a b c d x y =
    (greatest-one (MayStart before first) a c x.start y.start, window-end-one before after first old new b d x.end y.end)

-- A window begins not behind its end, and begins and ends at a fresh point of the new text or at its end.
pub window-cuts : (before after : List (List ℕ)) (first old new a b : ℕ) → IsEdited before after first old new → IsWindow before after first old new a b → (a ≤ b) × IsFresh after a × IsCut after b × (b ≤ length after)
window-cuts before after first old new a b e w =
    let fresh : IsFresh after a = fresh-same before after first a e.start w.start.meets.low (point-fresh before a w.start.meets.fresh) in
    ends w.end
  where
    ends : IsWindowEnd before after first old new b → (a ≤ b) × IsFresh after a × IsCut after b × (b ≤ length after)
    ends (inl x) = (omega (arith, w.start.meets.low, x.meets.past), fresh-same before after first a e.start w.start.meets.low (point-fresh before a w.start.meets.fresh), inl (point-fresh after b x.meets.fresh), low x.meets.fresh)
      where
        low : IsFreshPoint after b → b ≤ length after
        low (inl z) = omega (arith, z)
        low (inr h) = omega (arith, h.0)
    ends (inr x) = (omega (arith, w.start.meets.low, e.put, x.1), fresh-same before after first a e.start w.start.meets.low (point-fresh before a w.start.meets.fresh), inr x.1, omega (arith, x.1))

-- Behind the window the stanzas of the new text are those of the text before.
pub window-rest : (before after : List (List ℕ)) (first old new b : ℕ) → IsEdited before after first old new → IsWindowEnd before after first old new b → stanzas_from after b ≡ stanzas_from before (b + old - new)
window-rest before after first old new b e (inl x) =
    let was : x.meets.was ≡ b + old - new = omega (arith, x.meets.shift) in
    end-same before after first old new b e x.meets ∙ ap (stanzas_from before) was
window-rest before after first old new b e (inr x) =
    stanzas-end after b (omega (arith, x.1)) ∙ sym (stanzas-end before (b + old - new) (omega (arith, x.1, edit-lengths before after first old new e)))

-- The central law: the stanzas of the new text are those of the text before up to the window, those of the new text in
-- the window, and those of the text before from behind the window on.
pub resync : (before after : List (List ℕ)) (first old new a b : ℕ) → IsEdited before after first old new → IsWindow before after first old new a b → stanzas_of after ≡ stanzas_between before 0 a ++ (stanzas_between after a b ++ stanzas_from before (b + old - new))
resync before after first old new a b e w =
    let cuts = window-cuts before after first old new a b e w in
    split after 0 a (omega arith) (inl cuts.1)
    ∙ ap₂ (λ (x y : List StanzaOf). x ++ y) (sym (between-same before after first a e.start w.start.meets.low))
    (split after a b cuts.0 cuts.2 ∙ ap (λ ss. stanzas_between after a b ++ ss) (window-rest before after first old new b e w.end))

-- The same in the text before.
pub old-cuts : (before after : List (List ℕ)) (first old new a b : ℕ) → IsEdited before after first old new → IsWindow before after first old new a b → (a ≤ b + old - new) × IsFresh before a × IsCut before (b + old - new) × (b + old - new ≤ length before)
old-cuts before after first old new a b e w = ends w.end
  where
    point-low : (p : ℕ) → IsFreshPoint before p → p ≤ length before
    point-low p (inl z) = omega (arith, z)
    point-low p (inr h) = omega (arith, h.0)

    ends : IsWindowEnd before after first old new b → (a ≤ b + old - new) × IsFresh before a × IsCut before (b + old - new) × (b + old - new ≤ length before)
    ends (inl x) =
        let was : x.meets.was ≡ b + old - new = omega (arith, x.meets.shift) in
        (omega (arith, w.start.meets.low, x.meets.was_past, was), point-fresh before a w.start.meets.fresh, inl (subst (IsFresh before) was (point-fresh before x.meets.was x.meets.was_fresh)), subst (λ n. n ≤ length before) was (point-low x.meets.was x.meets.was_fresh))
    ends (inr x) =
        let was : b + old - new ≡ length before = omega (arith, x.1, edit-lengths before after first old new e) in
        (omega (arith, w.start.meets.low, e.taken, was), point-fresh before a w.start.meets.fresh, inr was, omega (arith, was))
