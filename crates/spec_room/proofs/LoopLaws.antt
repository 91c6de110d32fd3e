-- One change of a list of changes that fit: what a walk over them needs at each.
use Rattle.std.proofs.Common.{◌≡◌, ℕ, suc, ◌+◌, ◌-◌, ◌<◌, ◌≤◌, ◌^◌, List, ◌∷◌, length, drop, get_or, cond, ap, sym, ◌∙◌, arith, subst, Err, add-one}
use Rattle.std.specs.Prelude.{nat_le}
use Rattle.std.proofs.Math.Seq.{drop-cons}
use Rattle.std.proofs.lemmas.Bool.{le-leb, lt-leb}
use Rattle.spec_text.specs.Ranges.{RangeOf}
use Rattle.spec_room.specs.Changes.{place_of, lines_then}
use Rattle.spec_room.specs.Holding.{Fits}
use Rattle.spec_room.proofs.HoldingLaws.{fits_drop}

pub record FitsAt (lines : ℕ) (changes : List RangeOf) (i : ℕ) (change : RangeOf) : Type 0 where
  pub within : change.first + change.new ≤ lines_then lines (drop (i + 1) changes)
  pub small : lines_then lines (drop i changes) < 2 ^ 64
  pub before : lines_then lines (drop i changes) ≡ lines_then lines (drop (i + 1) changes) - change.new + change.old
  pub cut : drop i changes ≡ change ∷ drop (i + 1) changes

pub fits_at : (lines : ℕ) (changes : List RangeOf) (i : ℕ) (change : RangeOf) → i < length changes → change ≡ get_or changes i change → Fits lines changes → FitsAt lines changes i change
fits_at lines changes i change low is fits =
    let cut : drop i changes ≡ change ∷ drop (i + 1) changes =
    drop-cons changes i change low ∙ ap (λ (c : RangeOf). c ∷ drop (suc i) changes) (sym is) ∙ ap (λ n. change ∷ drop n changes) (sym (add-one i)) in
    let here : Fits lines (change ∷ drop (i + 1) changes) = subst (Fits lines) cut (fits_drop i lines changes fits) in
    record { within = here.0; small = subst (λ (cs : List RangeOf). lines_then lines cs < 2 ^ 64) (sym cut) here.1; before = ap (lines_then lines) cut; cut = cut }

-- The place of a range past a change behind which it stands, before which it stands, and in whose way it is.
pub place_of-behind : (seen first count : ℕ) (change : RangeOf) (changes : List RangeOf) → change.first + change.old ≤ first → place_of seen first count (change ∷ changes) ≡ place_of (seen + 1) (first - change.old + change.new) count changes
place_of-behind seen first count change changes behind =
    let same : first + change.new - change.old ≡ first - change.old + change.new = omega arith in
    ap (λ b. cond b (place_of (seen + 1) (first + change.new - change.old) count changes) (cond (nat_le (first + count) change.first) (place_of (seen + 1) first count changes) (Err (seen + 1)))) (le-leb (change.first + change.old) first behind)
    ∙ ap (λ n. place_of (seen + 1) n count changes) same

pub place_of-before : (seen first count : ℕ) (change : RangeOf) (changes : List RangeOf) → first < change.first + change.old → first + count ≤ change.first → place_of seen first count (change ∷ changes) ≡ place_of (seen + 1) first count changes
place_of-before seen first count change changes far before =
    ap (λ b. cond b (place_of (seen + 1) (first + change.new - change.old) count changes) (cond (nat_le (first + count) change.first) (place_of (seen + 1) first count changes) (Err (seen + 1)))) (lt-leb (change.first + change.old) first far)
    ∙ ap (λ b. cond b (place_of (seen + 1) first count changes) (Err (seen + 1))) (le-leb (first + count) change.first before)

pub place_of-across : (seen first count : ℕ) (change : RangeOf) (changes : List RangeOf) → first < change.first + change.old → change.first < first + count → place_of seen first count (change ∷ changes) ≡ Err (seen + 1)
place_of-across seen first count change changes far across =
    ap (λ b. cond b (place_of (seen + 1) (first + change.new - change.old) count changes) (cond (nat_le (first + count) change.first) (place_of (seen + 1) first count changes) (Err (seen + 1)))) (lt-leb (change.first + change.old) first far)
    ∙ ap (λ b. cond b (place_of (seen + 1) first count changes) (Err (seen + 1))) (lt-leb (first + count) change.first across)
