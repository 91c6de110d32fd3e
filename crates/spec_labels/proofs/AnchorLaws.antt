-- The anchors of all records after an edit.
use Rattle.std.proofs.Common.{◌≡◌, ℕ, suc, ◌+◌, ◌-◌, ◌<◌, Bool, true, false, not, ◌&&◌, cond, ltb, Option, Some, None, List, [], ◌∷◌, map, length, slice_get, unwrap_or, inl, inr, refl, sym, ap, ap₂, subst, ◌∙◌, arith}
use Rattle.std.specs.Prelude.{All, AllPairs, option_map}
use Rattle.std.proofs.lemmas.Bool.{cases_lt, cases_eq, ne_eqb, ltb-true}
use Rattle.std.proofs.lemmas.Option.{slice_get-get_or, slice_get_past}
use Rattle.std.proofs.lemmas.List.Elements.{All-nil, All-cons, All-head, All-tail}
use Rattle.std.proofs.lemmas.List.Kept.{AllPairs-cons}
use Rattle.spec_text.specs.Lines.{LineState}
use Rattle.spec_labels.specs.PageRecords.{PageRecordOf, line_at, end_line, is_removed, line_from, carried, carried_records}
use Rattle.spec_labels.specs.Spots.{Spot, anchor_after, AtMost}
use Rattle.spec_text.specs.Ranges.{RangeOf}
use Rattle.spec_text.specs.EditedLines.{no_line, line_of}
use Rattle.spec_labels.specs.Anchors.{IsAnchored, spot_of, end_spot, Anchored}
use Rattle.spec_labels.proofs.SpotLaws.{anchors-order, anchor-behind}
use Rattle.spec_labels.proofs.CarryLaws.{Edited, place-is, place-nowhere, carried-spot}

abbrev pub first_spot : Spot
first_spot = record { place = 0; row = 0 }

-- The anchors after an edit, but for the first record's.
pub carried-spots : (range : RangeOf) (next later : ℕ) (old new : List LineState) (records : List PageRecordOf) → Edited range next later old new → All (IsAnchored old) records
    → map (spot_of new) (carried_records new (range.first + range.new) records) ≡ map (anchor_after range) (map (spot_of old) records)
carried-spots range next later old new [] e all = refl
carried-spots range next later old new (it ∷ records) e all =
    ap₂ (λ s (ss : List Spot). s ∷ ss) (carried-spot range next later old new it e (All-head (IsAnchored old) it records all))
    (carried-spots range next later old new records e (All-tail (IsAnchored old) it records all))

pairs-after : (range : RangeOf) (spots : List Spot) → AllPairs AtMost spots → AllPairs AtMost (map (anchor_after range) spots)
pairs-after range [] pairs = λ i j d less inside. absurd (omega (arith, less, inside))
pairs-after range (s ∷ spots) pairs =
    AllPairs-cons AtMost (anchor_after range s) (map (anchor_after range) spots)
    (all spots (λ j d inside. pairs 0 (suc j) d (omega arith) (omega (arith, inside))))
    (pairs-after range spots (λ i j d less inside. pairs (suc i) (suc j) d (omega (arith, less)) (omega (arith, inside))))
  where
    all : (ss : List Spot) → All (AtMost s) ss → All (AtMost (anchor_after range s)) (map (anchor_after range) ss)
    all [] h = All-nil (AtMost (anchor_after range s))
    all (t ∷ ss) h = All-cons (AtMost (anchor_after range s)) (anchor_after range t) (map (anchor_after range) ss) (anchors-order range s t (All-head (AtMost s) t ss h)) (all ss (All-tail (AtMost s) t ss h))

all-within : (range : RangeOf) (last : Spot) (ss : List Spot) → All (λ s. AtMost s last) ss → All (λ s. AtMost s (anchor_after range last)) (map (anchor_after range) ss)
all-within range last [] h = All-nil (λ s. AtMost s (anchor_after range last))
all-within range last (t ∷ ss) h =
    All-cons (λ s. AtMost s (anchor_after range last)) (anchor_after range t) (map (anchor_after range) ss) (anchors-order range t last (All-head (λ s. AtMost s last) t ss h))
    (all-within range last ss (All-tail (λ s. AtMost s last) t ss h))

-- An edit keeps them in order, up to the end.
pub anchors-after : (range : RangeOf) (next later : ℕ) (old new : List LineState) (records : List PageRecordOf) → Edited range next later old new → Anchored old records
    → AllPairs AtMost (map (spot_of new) (carried_records new (range.first + range.new) records))
    × All (λ s. AtMost s (end_spot new)) (map (spot_of new) (carried_records new (range.first + range.new) records))
anchors-after range next later old new records e are =
    let same = sym (carried-spots range next later old new records e are.each) in
    let it = e.edit in
    let inside = it.inside in
    let count = it.count in
    let moved : anchor_after range (end_spot old) ≡ end_spot new =
    anchor-behind range (end_spot old) (omega (arith, inside)) ∙ ap (λ p. record { place = p; row = 0 }) (let c : length old + range.new - range.old ≡ length new = omega (arith, inside, count) in c) in (
      subst (AllPairs AtMost) same (pairs-after range (map (spot_of old) records) are.order),
      subst (λ ss. All (λ s. AtMost s (end_spot new)) ss) same
          (subst (λ l. All (λ s. AtMost s l) (map (anchor_after range) (map (spot_of old) records))) moved (all-within range (end_spot old) (map (spot_of old) records) are.within)),
    )

-- A record's anchor after an edit is a line of the text, or the end and its row 0.
pub carried-anchored : (range : RangeOf) (next later : ℕ) (old new : List LineState) (place : ℕ) (it : PageRecordOf) → Edited range next later old new → IsAnchored old it
    → IsAnchored new (carried new place it)
carried-anchored range next later old new place it e anchored = by (is_removed new it) refl
  where
    gone : (o : Option LineState) → slice_get new place ≡ o → IsAnchored new (record { label = it.label; line = unwrap_or (option_map (λ (line : LineState). line.id) o) end_line; row = 0; changed = it.changed })
    gone None is = inl (refl, refl)
    gone (Some line) is =
        elim (cases_lt place (length new)) [
          | inl inside ↦
              let at : Some (line_of new place) ≡ Some line = sym (slice_get-get_or new place no_line inside) ∙ is in
              let same : line_of new place ≡ line = cc in
              let here = place-is new place (e.new_ids).distinct inside in
              inr (subst (λ (l : LineState). line_at new l.id < length new) same (omega (arith, here, inside)))
          | inr past ↦ absurd (let bad : None ≡ Some line = sym (slice_get_past new place past) ∙ is in let no_more : ⊥ = cc in no_more)
        ]

    kept : is_removed new it ≡ false → IsAnchored new it
    kept is = elim (cases_eq it.line end_line) [
      | inl end ↦ elim anchored [
        | inl at ↦ inl at
        | inr there ↦
            absurd (let nowhere = place-nowhere old end_line (λ k h same. let b = (e.old_ids).below k no_line h in let l = (e.old_ids).limit in omega (arith, b, l, same)) in
            let at = ap (line_at old) end in omega (arith, there, nowhere, at))
      ]
      | inr some ↦
          let test : not (ltb (line_at new it.line) (length new)) ≡ false = sym (ap (λ b. not b && not (ltb (line_at new it.line) (length new))) (ne_eqb it.line end_line some)) ∙ is in
          inr (ltb-true (line_at new it.line) (length new) (back (ltb (line_at new it.line) (length new)) test))
    ]
      where
        back : (b : Bool) → not b ≡ false → b ≡ true
        back true h = refl
        back false h = cc

    by : (b : Bool) → is_removed new it ≡ b → IsAnchored new (cond b (record { label = it.label; line = line_from new place; row = 0; changed = it.changed }) it)
    by true is = gone (slice_get new place) refl
    by false is = kept is

-- Anchors in order, all in the text or the end, stay so.
pub anchored-after : (range : RangeOf) (next later : ℕ) (old new : List LineState) (records : List PageRecordOf) → Edited range next later old new → Anchored old records
    → Anchored new (carried_records new (range.first + range.new) records)
anchored-after range next later old new records e are =
    let both = anchors-after range next later old new records e are in
    record { each = all records are.each; order = both.0; within = both.1 }
  where
    all : (rs : List PageRecordOf) → All (IsAnchored old) rs → All (IsAnchored new) (carried_records new (range.first + range.new) rs)
    all [] them = All-nil (IsAnchored new)
    all (r ∷ rs) them =
        All-cons (IsAnchored new) (carried new (range.first + range.new) r) (carried_records new (range.first + range.new) rs)
        (carried-anchored range next later old new (range.first + range.new) r e (All-head (IsAnchored old) r rs them)) (all rs (All-tail (IsAnchored old) r rs them))
