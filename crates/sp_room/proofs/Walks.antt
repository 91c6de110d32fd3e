-- Walks over changes: what is known at each.
use Rattle.std.proofs.Common.{◌≡◌, ℕ, ◌+◌, ◌-◌, ◌<◌, ◌≤◌, ◌^◌, List, [], ◌∷◌, length, drop, get_or, Err, ap, sym, ◌∙◌, arith}
use Rattle.std.proofs.lemmas.List.{length-map, get_or-map}
use Rattle.spec_text.specs.Ranges.{RangeOf}
use Rattle.spec_room.specs.Changes.{place_of, lines_then}
use Rattle.spec_room.specs.Holding.{Fits}
use Rattle.spec_room.proofs.LoopLaws.{FitsAt, fits_at, place_of-behind, place_of-before, place_of-across}
use Rattle.spec_room.proofs.HoldingLaws.{fits_drop}
use Rattle.sp_room.specs.Changes.{range_of, ranges}
use Rattle.sp_room.specs.declared.change.Change.{Change}

-- Counting back: the changes from `i` on are counted.
pub record CountedBack (lines since : ℕ) (changes : List RangeOf) (i count : ℕ) : Type 0 where
  pub low : since ≤ i
  pub high : i ≤ length changes
  pub counted : count ≡ lines_then lines (drop i changes)

-- The place of a range: the changes before `i` are gone through.
pub record Placed (lines since seen first : ℕ) (changes : List RangeOf) (count i version place : ℕ) : Type 0 where
  pub high : i ≤ length changes
  pub numbered : version + (length changes - i) < 2 ^ 64
  pub inside : place + count ≤ lines_then lines (drop i changes)
  pub same : place_of version place count (drop i changes) ≡ place_of seen first count (drop since changes)

-- The range of a change among its fellows.
range_at : (changes : List Change) (i : ℕ) (change : Change) → i < length changes → change ≡ get_or changes i change → range_of change ≡ get_or (ranges changes) i (range_of change)
range_at changes i change low is = ap range_of is ∙ sym (get_or-map range_of changes i change (range_of change) low)

-- Counting back over a change.
pub record BackOver (lines since : ℕ) (changes : List RangeOf) (i count : ℕ) (change : RangeOf) : Type 0 where
  pub fewer : change.new ≤ count
  pub small : count - change.new + change.old < 2 ^ 64
  pub next : CountedBack lines since changes (i - 1) (count - change.new + change.old)

pub back_over : (lines since : ℕ) (changes : List Change) (i count : ℕ) (change : Change) → CountedBack lines since (ranges changes) i count → since < i → change ≡ get_or changes (i - 1) change → Fits lines (ranges changes)
    → BackOver lines since (ranges changes) i count (range_of change)
back_over lines since changes i count change walk more is fits =
    let all = ranges changes in
    let it = range_of change in
    let high = walk.high in
    let long = length-map changes range_of in
    let low : i - 1 < length changes = omega (arith, high, more, long) in
    let at = fits_at lines all (i - 1) it (omega (arith, low, long)) (range_at changes (i - 1) change low is) fits in
    let next : i - 1 + 1 ≡ i = omega (arith, more) in
    let later : lines_then lines (drop (i - 1 + 1) all) ≡ count = ap (λ n. lines_then lines (drop n all)) next ∙ sym walk.counted in
    let within = at.within in
    let small = at.small in
    let before = at.before in
    record {
      fewer = omega (arith, later, within);
      small = omega (arith, later, within, small, before);
      next = record { low = omega (arith, more); high = omega (arith, high); counted = sym (before ∙ ap (λ n. n - it.new + it.old) later) };
    }

-- Each text's number of lines fits, the last one's too.
lines_fit : (lines : ℕ) (changes : List RangeOf) → lines < 2 ^ 64 → Fits lines changes → lines_then lines changes < 2 ^ 64
lines_fit lines [] small fits = small
lines_fit lines (change ∷ changes) small fits = fits.1

-- What the walk knows at a change.
pub record PlacedAt (lines : ℕ) (changes : List RangeOf) (i count place : ℕ) (change : RangeOf) : Type 0 where
  pub at : FitsAt lines changes i change
  pub low : i < length changes
  pub later : lines_then lines (drop (i + 1) changes) < 2 ^ 64
  pub end : change.first + change.old < 2 ^ 64
  pub range : place + count < 2 ^ 64
  pub moved : change.first + change.old ≤ place → place - change.old + change.new + count ≤ lines_then lines (drop (i + 1) changes)
  pub stays : place + count ≤ change.first → place + count ≤ lines_then lines (drop (i + 1) changes)

pub placed_at : (lines since seen first : ℕ) (changes : List Change) (count i version place : ℕ) (change : Change) → Placed lines since seen first (ranges changes) count i version place → i < length changes → change ≡ get_or changes i change → lines < 2 ^ 64
    → Fits lines (ranges changes) → PlacedAt lines (ranges changes) i count place (range_of change)
placed_at lines since seen first changes count i version place change walk low is few fits =
    let all = ranges changes in
    let long = length-map changes range_of in
    let at = fits_at lines all i (range_of change) (omega (arith, low, long)) (range_at changes i change low is) fits in
    let within = at.within in
    let small = at.small in
    let before = at.before in
    let inside = walk.inside in
    record {
      at = at;
      low = omega (arith, low, long);
      later = lines_fit lines (drop (i + 1) all) few (fits_drop (i + 1) lines all fits);
      end = omega (arith, within, small, before);
      range = omega (arith, inside, small);
      moved = λ behind. omega (arith, within, before, inside, behind);
      stays = λ stands. omega (arith, within, stands);
    }

-- One change further.
pub placed_behind : (lines since seen first : ℕ) (changes : List RangeOf) (count i version place : ℕ) (change : RangeOf) → Placed lines since seen first changes count i version place → PlacedAt lines changes i count place change → change.first + change.old ≤ place → Placed lines since seen first changes count (i + 1) (version + 1) (place - change.old + change.new)
placed_behind lines since seen first changes count i version place change walk at behind =
    let low = at.low in
    let numbered = walk.numbered in
    record {
      high = omega (arith, low);
      numbered = omega (arith, low, numbered);
      inside = at.moved behind;
      same = sym (place_of-behind version place count change (drop (i + 1) changes) behind) ∙ sym (ap (place_of version place count) at.at.cut) ∙ walk.same;
    }

pub placed_before : (lines since seen first : ℕ) (changes : List RangeOf) (count i version place : ℕ) (change : RangeOf) → Placed lines since seen first changes count i version place → PlacedAt lines changes i count place change → place < change.first + change.old → place + count ≤ change.first → Placed lines since seen first changes count (i + 1) (version + 1) place
placed_before lines since seen first changes count i version place change walk at far stands =
    let low = at.low in
    let numbered = walk.numbered in
    record {
      high = omega (arith, low);
      numbered = omega (arith, low, numbered);
      inside = at.stays stands;
      same = sym (place_of-before version place count change (drop (i + 1) changes) far stands) ∙ sym (ap (place_of version place count) at.at.cut) ∙ walk.same;
    }

pub placed_across : (lines since seen first : ℕ) (changes : List RangeOf) (count i version place : ℕ) (change : RangeOf) → Placed lines since seen first changes count i version place → PlacedAt lines changes i count place change → place < change.first + change.old → change.first < place + count → Err (version + 1) ≡ place_of seen first count (drop since changes)
placed_across lines since seen first changes count i version place change walk at far across =
    sym (place_of-across version place count change (drop (i + 1) changes) far across) ∙ sym (ap (place_of version place count) at.at.cut) ∙ walk.same
