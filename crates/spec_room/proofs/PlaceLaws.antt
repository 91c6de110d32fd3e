-- The lines of a range after changes, and how many lines there were before them.
use Rattle.std.proofs.Common.{◌≡◌, ℕ, ◌+◌, ◌-◌, ◌≤◌, List, [], ◌∷◌, length, cond, ap, sym, ◌∙◌, arith, Ok, Err, inl, inr}
use Rattle.std.specs.Prelude.{nat_le}
use Rattle.std.proofs.lemmas.Bool.{cases_Bool, leb-true}
use Rattle.spec_text.specs.Edits.{stretch}
use Rattle.spec_text.specs.Ranges.{RangeOf}
use Rattle.spec_room.specs.Changes.{Text, place_of, lines_then}
use Rattle.spec_room.specs.Standing.{Stands}
use Rattle.spec_room.proofs.ChangeLaws.{length-old, length-new, lines_before, lines_behind}

-- How many lines there were before the changes.
pub lines_then-length : (changes : List RangeOf) (text : Text) (texts : List Text) (now : Text) → Stands changes (text ∷ texts) now → lines_then (length now) changes ≡ length text
lines_then-length [] text [] now stands = sym (ap length stands)
lines_then-length [] text (next ∷ texts) now stands = absurd stands
lines_then-length (change ∷ changes) text [] now stands = absurd stands
lines_then-length (change ∷ changes) text (next ∷ texts) now stands =
    let later = lines_then-length changes next texts now stands.1 in
    let was = length-old stands.0 in
    let is = length-new stands.0 in
    omega (arith, later, was, is)

-- What is said of a range and its place after changes.
pub record Kept (text now : Text) (first count place : ℕ) : Type 0 where
  pub lines : stretch now place count ≡ stretch text first count
  pub inside : place + count ≤ length now

-- The lines of a range that has a place after changes stand there.
pub place_keeps : (changes : List RangeOf) (text : Text) (texts : List Text) (now : Text) (seen first count place : ℕ) → Stands changes (text ∷ texts) now → first + count ≤ length text → place_of seen first count changes ≡ Ok place → Kept text now first count place
place_keeps [] text [] now seen first count place stands inside found =
    let same : first ≡ place = cc in
    record { lines = ap (λ t. stretch t place count) (sym stands) ∙ ap (λ p. stretch text p count) (sym same); inside = let e = ap length stands in omega (arith, e, same) }
place_keeps [] text (next ∷ texts) now seen first count place stands inside found = absurd stands
place_keeps (change ∷ changes) text [] now seen first count place stands inside found = absurd stands
place_keeps (change ∷ changes) text (next ∷ texts) now seen first count place stands inside found =
    let was = length-old stands.0 in
    let is = length-new stands.0 in
    let behind_place = place_of (seen + 1) (first + change.new - change.old) count changes in
    let before_place = place_of (seen + 1) first count changes in
    elim (cases_Bool (nat_le (change.first + change.old) first)) [
      | inl behind ↦
          let low = leb-true (change.first + change.old) first behind in
          let moved : first + change.new - change.old + count ≤ length next = omega (arith, was, is, low) in
          let kept = place_keeps changes next texts now (seen + 1) (first + change.new - change.old) count place stands.1 moved
          (sym (ap (λ b. cond b behind_place (cond (nat_le (first + count) change.first) before_place (Err (seen + 1)))) behind) ∙ found) in
          record { lines = kept.lines ∙ lines_behind first count stands.0 low; inside = kept.inside }
      | inr far ↦
          let rest = sym (ap (λ b. cond b behind_place (cond (nat_le (first + count) change.first) before_place (Err (seen + 1)))) far) ∙ found in
          elim (cases_Bool (nat_le (first + count) change.first)) [
            | inl before ↦
                let high = leb-true (first + count) change.first before in
                let stays : first + count ≤ length next = omega (arith, is, high) in
                let kept = place_keeps changes next texts now (seen + 1) first count place stands.1 stays
                (sym (ap (λ b. cond b before_place (Err (seen + 1))) before) ∙ rest) in
                record { lines = kept.lines ∙ lines_before first count stands.0 high; inside = kept.inside }
            | inr across ↦ absurd (let none : Err (seen + 1) ≡ Ok place = sym (ap (λ b. cond b before_place (Err (seen + 1))) across) ∙ rest in cc)
          ]
    ]
