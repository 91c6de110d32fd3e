-- One change of a text: its length, taking it back, and the lines before and behind it.
use Rattle.std.proofs.Common.{◌≡◌, ℕ, ◌+◌, ◌-◌, ◌≤◌, ◌++◌, length, take, drop, ap, sym, ◌∙◌, arith, length-append, length-drop, refl}
use Rattle.std.proofs.Math.Seq.{drop-append-add}
use Rattle.std.proofs.lemmas.List.{drop-append-le, take-append-le, take-append-drop, drop-drop, length-take-le}
use Rattle.spec_text.specs.Edits.{stretch, exchanged}
use Rattle.spec_text.specs.Ranges.{RangeOf}
use Rattle.spec_room.specs.Changes.{Text, turned, Changes}

-- Taking a change back is the change turned.
pub turned_back : {change : RangeOf} {old new : Text} → Changes change old new → Changes (turned change) new old
turned_back h = record { front = h.front; gone = h.come; come = h.gone; back = h.back; was = h.is; is = h.was; first = h.first; taken = h.put; put = h.taken }

-- How long the old and the new text are.
pub length-old : {change : RangeOf} {old new : Text} (h : Changes change old new) → length old ≡ change.first + change.old + length h.back
length-old h =
    let whole = ap length h.was in
    let outer = length-append h.front (h.gone ++ h.back) in
    let inner = length-append h.gone h.back in
    let first = h.first in
    let taken = h.taken in
    omega (arith, whole, outer, inner, first, taken)

pub length-new : {change : RangeOf} {old new : Text} (h : Changes change old new) → length new ≡ change.first + change.new + length h.back
unfolding turned_back
length-new h = length-old (turned_back h)

-- Past the end of a front the lines are those of the back.
drop_past : (front back : Text) (at rest : ℕ) → at ≡ length front + rest → drop at (front ++ back) ≡ drop rest back
drop_past front back at rest e = ap (λ n. drop n (front ++ back)) e ∙ drop-append-add front back rest

-- A range in the front.
in_front : (front back : Text) (first count : ℕ) → first + count ≤ length front → stretch (front ++ back) first count ≡ stretch front first count
in_front front back first count within =
    let rest = length-drop first front in
    let low : first ≤ length front = omega arith in
    let few : count ≤ length (drop first front) = omega (arith, rest) in
    ap (take count) (drop-append-le first front back low) ∙ take-append-le count (drop first front) back few

-- A range in the back.
in_back : (front middle back : Text) (first count rest : ℕ) → first ≡ length front + length middle + rest → stretch (front ++ (middle ++ back)) first count ≡ stretch back rest count
in_back front middle back first count rest e =
    let outer : first ≡ length front + (length middle + rest) = omega arith in
    ap (take count) (drop_past front (middle ++ back) first (length middle + rest) outer ∙ drop-append-add middle back rest)

-- Lines before a change stand where they stood.
pub lines_before : {change : RangeOf} {old new : Text} (first count : ℕ) → Changes change old new → first + count ≤ change.first → stretch new first count ≡ stretch old first count
lines_before first count h before =
    let at = h.first in
    let within : first + count ≤ length h.front = omega (arith, at) in
    ap (λ text. stretch text first count) h.is ∙ in_front h.front (h.come ++ h.back) first count within
    ∙ sym (ap (λ text. stretch text first count) h.was ∙ in_front h.front (h.gone ++ h.back) first count within)

-- Lines behind a change moved with the end of its range.
pub lines_behind : {change : RangeOf} {old new : Text} (first count : ℕ) → Changes change old new → change.first + change.old ≤ first → stretch new (first + change.new - change.old) count ≡ stretch old first count
lines_behind {change} first count h behind =
    let at = h.first in
    let taken = h.taken in
    let put = h.put in
    let rest : ℕ = first - (change.first + change.old) in
    let was : first ≡ length h.front + length h.gone + rest = omega (arith, at, taken) in
    let is : first + change.new - change.old ≡ length h.front + length h.come + rest = omega (arith, at, put) in
    ap (λ text. stretch text (first + change.new - change.old) count) h.is ∙ in_back h.front h.come h.back (first + change.new - change.old) count rest is
    ∙ sym (ap (λ text. stretch text first count) h.was ∙ in_back h.front h.gone h.back first count rest was)

-- A text in which the lines of a range gave way to others is changed at that range alone.
pub exchanged-Changes : (first taken put : ℕ) (lines come : Text) → first + taken ≤ length lines → length come ≡ put → Changes (record { first = first; old = taken; new = put }) lines (exchanged lines first taken come)
exchanged-Changes first taken put lines come inside count =
    let low : first ≤ length lines = omega arith in
    let rest = length-drop first lines in
    let few : taken ≤ length (drop first lines) = omega (arith, rest) in
    let split : drop first lines ≡ take taken (drop first lines) ++ drop (first + taken) lines =
    sym (take-append-drop taken (drop first lines)) ∙ ap (λ (more : Text). take taken (drop first lines) ++ more) (drop-drop taken first lines) in
    record {
      front = take first lines;
      gone = take taken (drop first lines);
      come = come;
      back = drop (first + taken) lines;
      was = sym (take-append-drop first lines) ∙ ap (λ (more : Text). take first lines ++ more) split;
      is = refl;
      first = length-take-le first lines low;
      taken = length-take-le taken (drop first lines) few;
      put = count;
    }
