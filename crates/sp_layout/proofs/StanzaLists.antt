-- Parts of lists of stanzas.
use Rattle.std.proofs.Common.{◌≡◌, ℕ, zero, suc, ◌+◌, ◌-◌, ◌<◌, ◌≤◌, true, false, not, List, [], ◌∷◌, ◌++◌, length, take, drop, slice_get, slice_range, Some, sym, ap, ap₂, subst, ◌∙◌, arith, append_assoc, take-add}
use Rattle.std.proofs.lemmas.Option.{get_or_from_slice_get}
use Rattle.spec_script.specs.BlockValues.{BlockOf, StanzaOf}
use Rattle.spec_edit.specs.Moved.{is_left}
use Rattle.spec_edit.specs.RelaidStanzas.{first_apart, last_apart, ClosesApart, OpensApart}
use Rattle.sp_reread.proofs.SettlingLaws.{drop-at}
use Rattle.sp_layout.specs.Edges.{opens_first}

pub take-split : {X : Type 0} (xs : List X) (i j : ℕ) → i ≤ j → take j xs ≡ take i xs ++ slice_range xs i j
take-split xs i j order =
    let same : j ≡ i + (j - i) = omega (arith, order) in
    ap (λ n. take n xs) same ∙ take-add i (j - i) xs

pub part-four : {X : Type 0} (ws xs ys zs : List X) → ws ++ (xs ++ (ys ++ zs)) ≡ (ws ++ (xs ++ ys)) ++ zs
part-four ws xs ys zs = ap (λ those. ws ++ those) (sym (append_assoc xs ys zs)) ∙ sym (append_assoc ws (xs ++ ys) zs)

-- Where stanzas begin with a block without a caret.
opens-take : (k : ℕ) (stanzas : List StanzaOf) → OpensApart stanzas → OpensApart (take (suc k) stanzas)
opens-take k [] is = absurd is
opens-take k (s ∷ ss) is = is

pub opens-slice : (stanzas : List StanzaOf) (i j : ℕ) → i < j → OpensApart (drop i stanzas) → OpensApart (slice_range stanzas i j)
opens-slice stanzas i j order is =
    let count : suc (j - i - 1) ≡ j - i = omega (arith, order) in
    subst (λ n. OpensApart (take n (drop i stanzas))) count (opens-take (j - i - 1) (drop i stanzas) is)

pub opens-at : (stanzas : List StanzaOf) (i : ℕ) (s : StanzaOf) → slice_get stanzas i ≡ Some s → first_apart s.blocks ≡ true → OpensApart (drop i stanzas)
opens-at stanzas i s at is = subst OpensApart (sym (drop-at stanzas i s at)) is

pub opens-first : (stanzas : List StanzaOf) (i : ℕ) (s : StanzaOf) → slice_get stanzas i ≡ Some s → OpensApart (drop i stanzas) → first_apart s.blocks ≡ true
opens-first stanzas i s at is = subst OpensApart (drop-at stanzas i s at) is

-- Where the last of them ends with a block that is joined with none behind it.
pub last-get : (blocks : List BlockOf) (b : BlockOf) → slice_get blocks (length blocks - 1) ≡ Some b → last_apart blocks ≡ not (is_left b)
last-get [] b at = cc
last-get (x ∷ []) b at = let same : x ≡ b = cc (at) in ap (λ (it : BlockOf). not (is_left it)) same
last-get (x ∷ y ∷ bs) b at =
    let place : length (x ∷ y ∷ bs) - 1 ≡ suc (length (y ∷ bs) - 1) = omega arith in
    last-get (y ∷ bs) b (sym (ap (slice_get (x ∷ y ∷ bs)) place) ∙ at)

pub closes-at : (stanzas : List StanzaOf) (i : ℕ) (s : StanzaOf) → slice_get stanzas i ≡ Some s → last_apart s.blocks ≡ true → ClosesApart (take (suc i) stanzas)
closes-at [] i s at is = let bad : ⊥ = cc (at) in absurd bad
closes-at (x ∷ xs) zero s at is = let same : x ≡ s = cc (at) in subst (λ (t : StanzaOf). last_apart t.blocks ≡ true) (sym same) is
closes-at (x ∷ []) (suc i) s at is = let bad : ⊥ = cc (at) in absurd bad
closes-at (x ∷ y ∷ xs) (suc i) s at is = closes-at (y ∷ xs) i s at is

pub closes-of : (stanzas : List StanzaOf) (i : ℕ) (s : StanzaOf) → slice_get stanzas i ≡ Some s → ClosesApart (take (suc i) stanzas) → last_apart s.blocks ≡ true
closes-of [] i s at is = let bad : ⊥ = cc (at) in absurd bad
closes-of (x ∷ xs) zero s at is = let same : x ≡ s = cc (at) in subst (λ (t : StanzaOf). last_apart t.blocks ≡ true) same is
closes-of (x ∷ []) (suc i) s at is = let bad : ⊥ = cc (at) in absurd bad
closes-of (x ∷ y ∷ xs) (suc i) s at is = closes-of (y ∷ xs) i s at is

-- The same up to a place, and from one to before another.
pub closes-before : (stanzas : List StanzaOf) (i j : ℕ) (s : StanzaOf) → j ≡ i + 1 → slice_get stanzas i ≡ Some s → last_apart s.blocks ≡ true → ClosesApart (take j stanzas)
closes-before stanzas i j s next at is = let count : suc i ≡ j = omega (arith, next) in subst (λ n. ClosesApart (take n stanzas)) count (closes-at stanzas i s at is)

pub closes-before-of : (stanzas : List StanzaOf) (i j : ℕ) (s : StanzaOf) → j ≡ i + 1 → slice_get stanzas i ≡ Some s → ClosesApart (take j stanzas) → last_apart s.blocks ≡ true
closes-before-of stanzas i j s next at is = let count : j ≡ suc i = omega (arith, next) in closes-of stanzas i s at (subst (λ n. ClosesApart (take n stanzas)) count is)

dropped-at : (stanzas : List StanzaOf) (to i : ℕ) (s : StanzaOf) → to ≤ i → slice_get stanzas i ≡ Some s → slice_get (drop to stanzas) (i - to) ≡ Some s
dropped-at stanzas zero i s low at = let same : i - 0 ≡ i = omega arith in ap (slice_get stanzas) same ∙ at
dropped-at [] (suc to) i s low at = let bad : ⊥ = cc (at) in absurd bad
dropped-at (x ∷ xs) (suc to) zero s low at = absurd (omega (arith, low))
dropped-at (x ∷ xs) (suc to) (suc i) s low at = let same : suc i - suc to ≡ i - to = omega arith in ap (slice_get (drop to xs)) same ∙ dropped-at xs to i s (omega (arith, low)) at

pub closes-slice : (stanzas : List StanzaOf) (to i j : ℕ) (s : StanzaOf) → j ≡ i + 1 → to ≤ i → slice_get stanzas i ≡ Some s → last_apart s.blocks ≡ true → ClosesApart (slice_range stanzas to j)
closes-slice stanzas to i j s next low at is = closes-before (drop to stanzas) (i - to) (j - to) s (omega (arith, next, low)) (dropped-at stanzas to i s low at) is

pub closes-slice-of : (stanzas : List StanzaOf) (to i j : ℕ) (s : StanzaOf) → j ≡ i + 1 → to ≤ i → slice_get stanzas i ≡ Some s → ClosesApart (slice_range stanzas to j) → last_apart s.blocks ≡ true
closes-slice-of stanzas to i j s next low at is = closes-before-of (drop to stanzas) (i - to) (j - to) s (omega (arith, next, low)) (dropped-at stanzas to i s low at) is

-- Whether those from one place to before another begin so.
pub opens-window : (stanzas : List StanzaOf) (at stands : ℕ) (s : StanzaOf) → slice_get stanzas at ≡ Some s → 0 < stands → opens_first (slice_range stanzas at (at + stands)) ≡ first_apart s.blocks
opens-window stanzas at stands s is some =
    let count : at + stands - at ≡ suc (stands - 1) = omega (arith, some) in
    ap₂ (λ n (ss : List StanzaOf). opens_first (take n ss)) count (drop-at stanzas at s is)

pub opens-none : (stanzas : List StanzaOf) (at stands : ℕ) → stands ≤ 0 → opens_first (slice_range stanzas at (at + stands)) ≡ false
opens-none stanzas at stands none = let count : at + stands - at ≡ 0 = omega (arith, none) in ap (λ n. opens_first (take n (drop at stanzas))) count

-- At a place stands one item.
pub one-there : {X : Type 0} (xs : List X) (i : ℕ) (x y : X) → slice_get xs i ≡ Some x → slice_get xs i ≡ Some y → x ≡ y
one-there xs i x y one other = sym (get_or_from_slice_get xs i x x one) ∙ get_or_from_slice_get xs i y x other
