-- What each room keeps, piece by piece: entries linked by their ranges, and changes that fit.
use Rattle.std.proofs.Common.{◌≡◌, ℕ, zero, suc, ◌+◌, ◌-◌, ◌<◌, ◌≤◌, ◌^◌, List, [], ◌∷◌, ◌++◌, drop, ap, sym, subst}
use Rattle.std.proofs.lemmas.List.{map-append}
use Rattle.spec_text.specs.Ranges.{RangeOf}
use Rattle.spec_machine.specs.Machine.{EntryOf}
use Rattle.spec_room.specs.Changes.{Text, Changes, lines_then}
use Rattle.spec_room.specs.Rooms.{ranges_of}
use Rattle.spec_room.specs.Holding.{Linked, LinkedBack, Fits}

-- An entry behind the others.
pub linked_put : (entries : List EntryOf) (entry : EntryOf) (now : Text) → Linked entries entry.state.lines → Changes entry.range entry.state.lines now → Linked (entries ++ entry ∷ []) now
linked_put [] entry now linked made = (made, tt)
linked_put (first ∷ []) entry now linked made = (linked.0, (made, tt))
linked_put (first ∷ second ∷ entries) entry now linked made = (linked.0, linked_put (second ∷ entries) entry now linked.1 made)

pub record LinkedTo (entries : List EntryOf) (entry : EntryOf) (now : Text) : Type 0 where
  pub linked : Linked entries entry.state.lines
  pub made : Changes entry.range entry.state.lines now

-- The last entry taken off.
pub linked_take : (entries : List EntryOf) (entry : EntryOf) (now : Text) → Linked (entries ++ entry ∷ []) now → LinkedTo entries entry now
linked_take [] entry now linked = record { linked = tt; made = linked.0 }
linked_take (first ∷ []) entry now linked = record { linked = (linked.0, tt); made = linked.1.0 }
linked_take (first ∷ second ∷ entries) entry now linked =
    let rest = linked_take (second ∷ entries) entry now linked.1 in
    record { linked = (linked.0, rest.linked); made = rest.made }

pub linked_back_put : (entries : List EntryOf) (entry : EntryOf) (now : Text) → LinkedBack entries entry.state.lines → Changes entry.range now entry.state.lines → LinkedBack (entries ++ entry ∷ []) now
linked_back_put [] entry now linked made = (made, tt)
linked_back_put (first ∷ []) entry now linked made = (linked.0, (made, tt))
linked_back_put (first ∷ second ∷ entries) entry now linked made = (linked.0, linked_back_put (second ∷ entries) entry now linked.1 made)

pub record LinkedBackTo (entries : List EntryOf) (entry : EntryOf) (now : Text) : Type 0 where
  pub linked : LinkedBack entries entry.state.lines
  pub made : Changes entry.range now entry.state.lines

pub linked_back_take : (entries : List EntryOf) (entry : EntryOf) (now : Text) → LinkedBack (entries ++ entry ∷ []) now → LinkedBackTo entries entry now
linked_back_take [] entry now linked = record { linked = tt; made = linked.0 }
linked_back_take (first ∷ []) entry now linked = record { linked = (linked.0, tt); made = linked.1.0 }
linked_back_take (first ∷ second ∷ entries) entry now linked =
    let rest = linked_back_take (second ∷ entries) entry now linked.1 in
    record { linked = (linked.0, rest.linked); made = rest.made }

-- The ranges of entries with one behind.
pub ranges_of-put : (entries : List EntryOf) (entry : EntryOf) → ranges_of (entries ++ entry ∷ []) ≡ ranges_of entries ++ entry.range ∷ []
ranges_of-put entries entry = map-append (λ (it : EntryOf). it.range) entries (entry ∷ [])

-- Counting back over a further change.
pub lines_then-put : (lines after : ℕ) (changes : List RangeOf) (change : RangeOf) → lines ≡ after - change.new + change.old → lines_then after (changes ++ change ∷ []) ≡ lines_then lines changes
lines_then-put lines after [] change e = sym e
lines_then-put lines after (first ∷ changes) change e = ap (λ n. n - first.new + first.old) (lines_then-put lines after changes change e)

pub fits_put : (lines after : ℕ) (changes : List RangeOf) (change : RangeOf) → lines ≡ after - change.new + change.old → change.first + change.new ≤ after → lines < 2 ^ 64 → Fits lines changes → Fits after (changes ++ change ∷ [])
fits_put lines after [] change e within small fits = (within, subst (λ (n : ℕ). n < 2 ^ 64) e small, tt)
fits_put lines after (first ∷ changes) change e within small fits =
    let same = lines_then-put lines after changes change e in (
      subst (λ (n : ℕ). first.first + first.new ≤ n) (sym same) fits.0,
      subst (λ (n : ℕ). n - first.new + first.old < 2 ^ 64) (sym same) fits.1,
      fits_put lines after changes change e within small fits.2,
    )

pub fits_drop : (n lines : ℕ) (changes : List RangeOf) → Fits lines changes → Fits lines (drop n changes)
fits_drop zero lines changes fits = fits
fits_drop (suc n) lines [] fits = fits
fits_drop (suc n) lines (change ∷ changes) fits = fits_drop n lines changes fits.2
