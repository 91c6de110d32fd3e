-- The anchors of records follow an edit.
use Rattle.std.proofs.Common.{◌≡◌, ◌≢◌, ℕ, ◌+◌, ◌-◌, ◌<◌, ◌≤◌, Bool, true, false, not, ◌&&◌, ◌==◌, cond, List, length, inl, inr, refl, sym, ap, ap₂, subst, ◌∙◌, arith, unwrap_or}
use Rattle.std.specs.Prelude.{AllPairs, min, option_map}
use Rattle.std.proofs.lemmas.Bool.{cases_lt, eqb-true, eq-eqb, ne_eqb, lt-ltb, le-ltb}
use Rattle.std.proofs.lemmas.List.Sums.{position_or_len_is, passes_at_first}
use Rattle.std.proofs.lemmas.Option.{slice_get-get_or, slice_get_past}
use Rattle.spec_text.specs.Lines.{LineState}
use Rattle.spec_labels.specs.PageRecords.{PageRecordOf, line_at, end_line, is_present, line_from, carried}
use Rattle.spec_labels.specs.Spots.{anchor_after}
use Rattle.spec_text.specs.Ranges.{RangeOf}
use Rattle.spec_text.specs.EditedLines.{no_line, line_of, HasIds, IsEdited}
use Rattle.spec_labels.specs.Anchors.{IsAnchored, spot_of}
use Rattle.spec_labels.proofs.SpotLaws.{anchor-paired, anchor-gone, anchor-behind}

-- Each line is found by its id.
pub place-is : (lines : List LineState) (k : ℕ) → AllPairs (λ (one other : LineState). one.id ≢ other.id) lines → k < length lines → line_at lines (line_of lines k).id ≡ k
place-is lines k distinct inside =
    position_or_len_is (λ (line : LineState). line.id == (line_of lines k).id) lines k no_line (omega (arith, inside))
    (λ j less. ne_eqb (line_of lines j).id (line_of lines k).id (distinct j k no_line less inside))
    (λ h. eq-eqb (line_of lines k).id (line_of lines k).id refl)

-- What no line has isn't found.
pub place-nowhere : (lines : List LineState) (id : ℕ) → ((k : ℕ) → k < length lines → (line_of lines k).id ≢ id) → line_at lines id ≡ length lines
place-nowhere lines id none =
    position_or_len_is (λ (line : LineState). line.id == id) lines (length lines) no_line (omega arith)
    (λ k less. ne_eqb (line_of lines k).id id (none k less))
    (λ h. absurd (omega (arith, h)))

-- What is found has the id.
pub place-has : (lines : List LineState) (id : ℕ) → line_at lines id < length lines → (line_of lines (line_at lines id)).id ≡ id
place-has lines id inside = eqb-true (line_of lines (line_at lines id)).id id (passes_at_first (λ (line : LineState). line.id == id) lines no_line inside)

-- Where the lines of an edit with ids stand.
pub record Edited (range : RangeOf) (next later : ℕ) (old new : List LineState) : Type 0 where
  pub edit : IsEdited range next old new
  pub old_ids : HasIds next old
  pub new_ids : HasIds later new

-- A line that is kept, or paired.
kept-place : (range : RangeOf) (next later : ℕ) (old new : List LineState) (k j : ℕ) → Edited range next later old new → j < length new → (line_of new j).id ≡ (line_of old k).id
    → line_at new (line_of old k).id ≡ j
kept-place range next later old new k j e inside same = ap (line_at new) (sym same) ∙ place-is new j ((e.new_ids).distinct) inside

-- A line that is gone has left no other with its id.
gone-nowhere : (range : RangeOf) (next later : ℕ) (old new : List LineState) (k : ℕ) → Edited range next later old new
    → range.first + min range.old range.new ≤ k → k < range.first + range.old → line_at new (line_of old k).id ≡ length new
gone-nowhere range next later old new k e low high =
    let it = e.edit in
    let ids = e.old_ids in
    let inside = it.inside in
    let count = it.count in
    let differ : (i : ℕ) → i < length old → (i ≡ k → ⊥) → (line_of old i).id ≢ (line_of old k).id = λ i there other same.
    elim (cases_lt i k) [
      | inl less ↦ ids.distinct i k no_line less (omega (arith, high, inside)) same
      | inr more ↦ ids.distinct k i no_line (omega (arith, more, other)) there (sym same)
    ] in
    place-nowhere new (line_of old k).id (λ j there same.
    elim (cases_lt j (range.first + min range.old range.new)) [
      | inl early ↦
          let id : (line_of new j).id ≡ (line_of old j).id = elim (cases_lt j range.first) [
            | inl before ↦ ap (λ (l : LineState). l.id) (it.before j before)
            | inr paired ↦ it.paired j paired early
          ] in
          differ j (omega (arith, early, inside)) (λ e. omega (arith, e, early, low)) (sym id ∙ same)
      | inr after ↦ elim (cases_lt j (range.first + range.new)) [
        | inl fresh ↦
            let above = it.fresh j after fresh in
            let under = ids.below k no_line (omega (arith, high, inside)) in
            omega (arith, above, under, same)
        | inr behind ↦
            let i = j + range.old - range.new in
            let there_i : i < length old = omega (arith, there, count, behind) in
            let from = it.behind i (omega (arith, behind)) there_i in
            let back : i + range.new - range.old ≡ j = omega (arith, behind) in
            let id : (line_of new j).id ≡ (line_of old i).id = ap (λ n. (line_of new n).id) (sym back) ∙ ap (λ (l : LineState). l.id) from in
            differ i there_i (λ e. omega (arith, e, behind, high)) (sym id ∙ same)
      ]
    ])

present-is : (lines : List LineState) (id : ℕ) → line_at lines id < length lines → is_present lines id ≡ true
present-is lines id h = lt-ltb (line_at lines id) (length lines) h

-- A record of a line that is there stays.
carried-there : (lines : List LineState) (place : ℕ) (it : PageRecordOf) → line_at lines it.line < length lines → carried lines place it ≡ it
carried-there lines place it there =
    ap (λ b. cond (not (it.line == end_line) && not b) (record { label = it.label; line = line_from lines place; row = 0; changed = it.changed }) it) (present-is lines it.line there)
    ∙ by (not (it.line == end_line))
  where
    by : (b : Bool) → cond (b && false) (record { label = it.label; line = line_from lines place; row = 0; changed = it.changed }) it ≡ it
    by true = refl
    by false = refl

carried-end : (lines : List LineState) (place : ℕ) (it : PageRecordOf) → it.line ≡ end_line → carried lines place it ≡ it
carried-end lines place it end =
    ap (λ b. cond (not b && not (is_present lines it.line)) (record { label = it.label; line = line_from lines place; row = 0; changed = it.changed }) it) (eq-eqb it.line end_line end)

carried-gone : (lines : List LineState) (place : ℕ) (it : PageRecordOf) → (it.line ≡ end_line → ⊥) → line_at lines it.line ≡ length lines
    → carried lines place it ≡ record { label = it.label; line = line_from lines place; row = 0; changed = it.changed }
carried-gone lines place it some gone =
    ap₂ (λ a b. cond (not a && not b) (record { label = it.label; line = line_from lines place; row = 0; changed = it.changed }) it)
    (ne_eqb it.line end_line some) (le-ltb (line_at lines it.line) (length lines) (omega (arith, gone)))

pub end-nowhere : (next : ℕ) (lines : List LineState) → HasIds next lines → line_at lines end_line ≡ length lines
end-nowhere next lines ids = place-nowhere lines end_line (λ k there same. let b = ids.below k no_line there in let l = ids.limit in omega (arith, b, l, same))

-- The place of the line at a place, or of the end.
line_from-place : (next : ℕ) (lines : List LineState) (k : ℕ) → HasIds next lines → k ≤ length lines → line_at lines (line_from lines k) ≡ k
line_from-place next lines k ids low =
    elim (cases_lt k (length lines)) [
      | inl inside ↦
          ap (λ o. line_at lines (unwrap_or (option_map (λ (l : LineState). l.id) o) end_line)) (slice_get-get_or lines k no_line inside)
          ∙ place-is lines k ids.distinct inside
      | inr past ↦
          ap (λ o. line_at lines (unwrap_or (option_map (λ (l : LineState). l.id) o) end_line)) (slice_get_past lines k past)
          ∙ end-nowhere next lines ids ∙ omega (arith, past, low)
    ]

-- A record's anchor after the edit: carried where its line is gone.
pub carried-spot : (range : RangeOf) (next later : ℕ) (old new : List LineState) (it : PageRecordOf) → Edited range next later old new → IsAnchored old it
    → spot_of new (carried new (range.first + range.new) it) ≡ anchor_after range (spot_of old it)
carried-spot range next later old new it e anchored =
    let edit = e.edit in
    let count = edit.count in
    let inside = edit.inside in
    let ids = e.new_ids in
    elim anchored [
      | inl end ↦
          let at_old : line_at old it.line ≡ length old = ap (line_at old) end.0 ∙ end-nowhere next old e.old_ids in
          let at_new : line_at new it.line ≡ length new = ap (line_at new) end.0 ∙ end-nowhere later new e.new_ids in
          let place : line_at new it.line ≡ line_at old it.line + range.new - range.old = omega (arith, at_old, at_new, count, inside) in
          ap (spot_of new) (carried-end new (range.first + range.new) it end.0)
          ∙ ap (λ p. record { place = p; row = it.row }) place
          ∙ sym (anchor-behind range (spot_of old it) (omega (arith, at_old, inside)))
      | inr there ↦
          let k = line_at old it.line in
          let id = place-has old it.line there in
          let kept : (j : ℕ) → j < length new → (line_of new j).id ≡ (line_of old k).id → line_at new it.line ≡ j = λ j low same.
          ap (line_at new) (sym id) ∙ kept-place range next later old new k j e low same in
          let stays : (j : ℕ) → j < length new → (line_of new j).id ≡ (line_of old k).id → spot_of new (carried new (range.first + range.new) it) ≡ record { place = j; row = it.row } = λ j low same.
          let at = kept j low same in
          ap (spot_of new) (carried-there new (range.first + range.new) it (subst (λ n. n < length new) (sym at) low)) ∙ ap (λ p. record { place = p; row = it.row }) at in
          elim (cases_lt k (range.first + min range.old range.new)) [
            | inl early ↦
                let same : (line_of new k).id ≡ (line_of old k).id = elim (cases_lt k range.first) [
                  | inl before ↦ ap (λ (l : LineState). l.id) (edit.before k before)
                  | inr paired ↦ edit.paired k paired early
                ] in
                stays k (omega (arith, early, count, inside)) same ∙ sym (anchor-paired range (spot_of old it) early)
            | inr after ↦ elim (cases_lt k (range.first + range.old)) [
              | inl gone ↦
                  let nowhere : line_at new it.line ≡ length new = ap (line_at new) (sym id) ∙ gone-nowhere range next later old new k e after gone in
                  let some : it.line ≡ end_line → ⊥ = λ same. (let b = (e.old_ids).below k no_line there in let l = (e.old_ids).limit in omega (arith, id, same, b, l)) in
                  ap (spot_of new) (carried-gone new (range.first + range.new) it some nowhere)
                  ∙ ap (λ p. record { place = p; row = 0 }) (line_from-place later new (range.first + range.new) ids (omega (arith, count, inside)))
                  ∙ sym (anchor-gone range (spot_of old it) after gone)
              | inr behind ↦
                  stays (k + range.new - range.old) (omega (arith, count, there, behind)) (ap (λ (l : LineState). l.id) (edit.behind k behind there))
                  ∙ sym (anchor-behind range (spot_of old it) behind)
            ]
          ]
    ]
