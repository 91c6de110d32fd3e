-- How many rows stand before a spot, before an edit and after it.
use Rattle.std.proofs.Common.{◌≡◌, suc, ◌<◌, ◌≤◌, Bool, true, false, cond, List, [], ◌∷◌, ◌++◌, map, inl, inr, refl, sym, ap, ◌∙◌, arith}
use Rattle.std.specs.Prelude.{All, AllPairs, filter}
use Rattle.std.proofs.lemmas.Bool.{cases_Bool}
use Rattle.std.proofs.lemmas.List.Elements.{All-head, All-tail, filter-append}
use Rattle.spec_text.specs.Ranges.{RangeOf, IsOutside}
use Rattle.spec_labels.specs.Spots.{Spot, is_ahead, spot_after, Follows}
use Rattle.spec_labels.proofs.SpotLaws.{ahead-then}
use Rattle.spec_edit.proofs.SplitLaws.{none-behind}
use Rattle.spec_refill.proofs.Marks.{Mark, page_break, row as shown_row, spot_in, is_before, rows, start, mark_after, rows-append}

-- The edit leaves the line that it stands at.
abbrev pub IsLeft : RangeOf → Mark → Type 0
IsLeft range mark = IsOutside range (spot_in mark).place

-- Spots rise over a text.
abbrev pub AreRising : List Mark → Type 0
AreRising marks = AllPairs (λ (one other : Mark). is_ahead (spot_in one) (spot_in other) ≡ true) marks

-- As many rows that an edit leaves stand before a spot that follows it.
pub start-moved : (range : RangeOf) (old new : Spot) (marks : List Mark) → Follows range old new → All (IsLeft range) marks → start (map (mark_after range) marks) new ≡ start marks old
start-moved range old new [] follow left = refl
start-moved range old new (mark ∷ marks) follow left =
    by mark (All-head (IsLeft range) mark marks left) (start-moved range old new marks follow (All-tail (IsLeft range) mark marks left))
  where
    moved : List Mark
    moved = filter (is_before new) (map (mark_after range) marks)

    kept : List Mark
    kept = filter (is_before old) marks

    by : (it : Mark) → IsLeft range it → rows moved ≡ rows kept
        → rows (cond (is_before new (mark_after range it)) (mark_after range it ∷ moved) moved) ≡ rows (cond (is_before old it) (it ∷ kept) kept)
    by (page_break spot) here rest =
        ap (λ b. rows (cond b (page_break (spot_after range spot) ∷ moved) moved)) (follow.same spot here) ∙ each (is_ahead spot old)
      where
        each : (b : Bool) → rows (cond b (page_break (spot_after range spot) ∷ moved) moved) ≡ rows (cond b (page_break spot ∷ kept) kept)
        each true = rest
        each false = rest
    by (shown_row spot shape) here rest =
        ap (λ b. rows (cond b (shown_row (spot_after range spot) shape ∷ moved) moved)) (follow.same spot here) ∙ each (is_ahead spot old)
      where
        each : (b : Bool) → rows (cond b (shown_row (spot_after range spot) shape ∷ moved) moved) ≡ rows (cond b (shown_row spot shape ∷ kept) kept)
        each true = ap suc rest
        each false = rest

-- No more than there are.
pub start-low : (marks : List Mark) (spot : Spot) → start marks spot ≤ rows marks
start-low [] spot = omega arith
start-low (mark ∷ marks) spot = by mark (start-low marks spot)
  where
    by : (it : Mark) → start marks spot ≤ rows marks → rows (cond (is_before spot it) (it ∷ filter (is_before spot) marks) (filter (is_before spot) marks)) ≤ rows (it ∷ marks)
    by (page_break at) rest = each (is_ahead at spot)
      where
        each : (b : Bool) → rows (cond b (page_break at ∷ filter (is_before spot) marks) (filter (is_before spot) marks)) ≤ rows marks
        each true = rest
        each false = rest
    by (shown_row at shape) rest = each (is_ahead at spot)
      where
        each : (b : Bool) → rows (cond b (shown_row at shape ∷ filter (is_before spot) marks) (filter (is_before spot) marks)) ≤ suc (rows marks)
        each true = omega (arith, rest)
        each false = omega (arith, rest)

-- Where a mark isn't before a spot, none behind it is.
pub rising-front : (spot : Spot) (marks : List Mark) → AreRising marks → AllPairs (λ (x y : Mark). is_before spot y ≡ true → is_before spot x ≡ true) marks
rising-front spot marks rising i j d less inside h = ahead-then _ _ spot (rising i j d less inside) h

-- Where a row isn't before a spot, none behind it is.
pub start-full : (xs ys : List Mark) (spot : Spot) → AllPairs (λ (x y : Mark). is_before spot y ≡ true → is_before spot x ≡ true) (xs ++ ys) → start xs spot < rows xs → start ys spot ≡ 0
start-full [] ys spot front less = absurd (omega (arith, less))
start-full (x ∷ xs) ys spot front less = elim (cases_Bool (is_before spot x)) [
  | inl is ↦ start-full xs ys spot (λ i j d below inside. front (suc i) (suc j) d (omega (arith, below)) (omega (arith, inside))) (behind x is less)
  | inr not ↦
      let none : filter (is_before spot) (xs ++ ys) ≡ [] = none-behind (is_before spot) x (xs ++ ys) front not in
      let both = sym (ap rows (filter-append (is_before spot) xs ys) ∙ rows-append (filter (is_before spot) xs) (filter (is_before spot) ys)) ∙ ap rows none in
      omega (arith, both)
]
  where
    behind : (it : Mark) → is_before spot it ≡ true → rows (cond (is_before spot it) (it ∷ filter (is_before spot) xs) (filter (is_before spot) xs)) < rows (it ∷ xs) → start xs spot < rows xs
    behind (page_break at) is less = let e = ap (λ b. rows (cond b (page_break at ∷ filter (is_before spot) xs) (filter (is_before spot) xs))) is in omega (arith, e, less)
    behind (shown_row at shape) is less = let e = ap (λ b. rows (cond b (shown_row at shape ∷ filter (is_before spot) xs) (filter (is_before spot) xs))) is in omega (arith, e, less)
