-- The lines after an edit, place by place.
use Rattle.std.proofs.Common.{◌≡◌, ◌⊎◌, ℕ, zero, suc, ◌+◌, ◌-◌, ◌<◌, ◌≤◌, List, [], ◌∷◌, ◌++◌, length, take, drop, get_or, inl, inr, refl, sym, ap, ◌∙◌, arith, length-append, length-take, length-drop, get_or-take, get_or-drop}
use Rattle.std.specs.Prelude.{min}
use Rattle.std.proofs.lemmas.Bool.{cases_lt}
use Rattle.std.proofs.lemmas.List.{get_or_append_left, get_or-append_right, get_or_default, get_or-map, length-map}
use Rattle.spec_text.specs.Limits.{id_limit}
use Rattle.spec_text.specs.Lines.{LineState, TextState, IsText}
use Rattle.spec_text.specs.Edits.{Replacement, stretch, line_ids, lines_put, put_by, changed}
use Rattle.spec_text.specs.Ranges.{RangeOf, range_of}
use Rattle.spec_text.specs.EditedLines.{no_line, line_of, HasIds, IsEdited, next_after}
use Rattle.spec_text.proofs.ExchangeLaws.{length-stretch}
use Rattle.spec_text.proofs.EditLaws.{length-lines_put}

put-paired : (ids : List ℕ) (next mark : ℕ) (texts : List (List ℕ)) (k d : ℕ) → k < length ids → k < length texts → (line_of (lines_put ids next mark texts) k).id ≡ get_or ids k d
put-paired ids next mark [] k d h g = absurd (omega (arith, g))
put-paired [] next mark (text ∷ texts) k d h g = absurd (omega (arith, h))
put-paired (id ∷ ids) next mark (text ∷ texts) zero d h g = refl
put-paired (id ∷ ids) next mark (text ∷ texts) (suc k) d h g = put-paired ids next mark texts k d (omega (arith, h)) (omega (arith, g))

put-fresh : (ids : List ℕ) (next mark : ℕ) (texts : List (List ℕ)) (k : ℕ) → length ids ≤ k → k < length texts → (line_of (lines_put ids next mark texts) k).id ≡ next + (k - length ids)
put-fresh ids next mark [] k h g = absurd (omega (arith, g))
put-fresh [] next mark (text ∷ texts) zero h g = omega arith
put-fresh [] next mark (text ∷ texts) (suc k) h g = let rest = put-fresh [] (next + 1) mark texts k (omega arith) (omega (arith, g)) in omega (arith, rest)
put-fresh (id ∷ ids) next mark (text ∷ texts) zero h g = absurd (omega (arith, h))
put-fresh (id ∷ ids) next mark (text ∷ texts) (suc k) h g = let rest = put-fresh ids next mark texts k (omega (arith, h)) (omega (arith, g)) in omega (arith, rest)

-- The lines that an edit gives are edited.
pub changed-IsEdited : (text : TextState) (it : Replacement) (round : ℕ) → it.first + it.old ≤ length text.lines → IsEdited (range_of it) text.next text.lines (changed text it round).lines
changed-IsEdited text it round inside =
    let lines = text.lines in
    let first = it.first in
    let old = it.old in
    let texts = it.texts in
    let ids = stretch (line_ids lines) first old in
    let made = put_by text it round in
    let rest = drop (first + old) lines in
    let front = take first lines in
    let n_lines = length-map lines (λ (line : LineState). line.id) in
    let n_front : length front ≡ first = omega (arith, length-take first lines, inside) in
    let n_ids : length ids ≡ old = length-stretch (line_ids lines) first old (omega (arith, inside, n_lines)) in
    let n_made : length made ≡ length texts = length-lines_put ids text.next round texts in
    let n_rest = length-drop (first + old) lines in
    let n_all = length-append front (made ++ rest) in
    let n_tail = length-append made rest in
    let low : (k : ℕ) → k < first → line_of (front ++ (made ++ rest)) k ≡ line_of lines k = λ k h.
    get_or_append_left front (made ++ rest) no_line k (omega (arith, h, n_front)) ∙ get_or-take first lines k no_line h in
    let mid : (k : ℕ) → first ≤ k → k < first + length texts → line_of (front ++ (made ++ rest)) k ≡ line_of made (k - first) = λ k h g.
    get_or-append_right front (made ++ rest) first k no_line n_front h ∙ get_or_append_left made rest no_line (k - first) (omega (arith, g, h, n_made)) in
    record {
      inside = inside;
      count = omega (arith, n_all, n_tail, n_front, n_made, n_rest, inside);
      before = low;
      paired = λ k h g.
          ap (λ (l : LineState). l.id) (mid k h (omega (arith, g)))
          ∙ put-paired ids text.next round texts (k - first) 0 (omega (arith, n_ids, g, h)) (omega (arith, g, h))
          ∙ own-id k h (omega (arith, g));
      fresh = λ k h g.
          let id = ap (λ (l : LineState). l.id) (mid k (omega (arith, h)) g) in
          let new_id = put-fresh ids text.next round texts (k - first) (omega (arith, n_ids, h, g)) (omega (arith, g, h)) in
          omega (arith, id, new_id, n_ids, h, g);
      behind = λ k h g.
          let at : k + length texts - old - first - length texts ≡ k - (first + old) = omega (arith, h) in
          let back : first + old + (k - (first + old)) ≡ k = omega (arith, h) in
          get_or-append_right front (made ++ rest) first (k + length texts - old) no_line n_front (omega (arith, h))
          ∙ get_or-append_right made rest (length texts) (k + length texts - old - first) no_line n_made (omega (arith, h))
          ∙ ap (λ n. get_or rest n no_line) at ∙ get_or-drop (first + old) lines (k - (first + old)) no_line ∙ ap (λ n. get_or lines n no_line) back;
    }
  where
    own-id : (k : ℕ) → it.first ≤ k → k < it.first + it.old → get_or (stretch (line_ids text.lines) it.first it.old) (k - it.first) 0 ≡ (line_of text.lines k).id
    own-id k h g =
        let back : it.first + (k - it.first) ≡ k = omega (arith, h) in
        get_or-take it.old (drop it.first (line_ids text.lines)) (k - it.first) 0 (omega (arith, h, g))
        ∙ get_or-drop it.first (line_ids text.lines) (k - it.first) 0 ∙ ap (λ n. get_or (line_ids text.lines) n 0) back
        ∙ get_or-map (λ (line : LineState). line.id) text.lines k no_line 0 (omega (arith, g, inside))

-- Where a line of the new text comes from: a place of the old one, in the same order, or it is new.
record Origin (range : RangeOf) (next : ℕ) (old new : List LineState) (k : ℕ) : Type 0 where
  is : ((i : ℕ) × (i < length old) × ((line_of new k).id ≡ (line_of old i).id)
      × (((k < range.first + min range.old range.new) × (i ≡ k)) ⊎ ((range.first + range.new ≤ k) × (i + range.new ≡ k + range.old))))
      ⊎ ((range.first + min range.old range.new ≤ k) × (k < range.first + range.new) × ((line_of new k).id ≡ next + (k - (range.first + min range.old range.new))))

origin : (range : RangeOf) (next : ℕ) (old new : List LineState) (k : ℕ) → IsEdited range next old new → k < length new → Origin range next old new k
origin range next old new k e there =
    let inside = e.inside in
    let count = e.count in
    record {
      is = elim (cases_lt k (range.first + min range.old range.new)) [
        | inl early ↦
            let same : (line_of new k).id ≡ (line_of old k).id = elim (cases_lt k range.first) [
              | inl before ↦ ap (λ (l : LineState). l.id) (e.before k before)
              | inr paired ↦ e.paired k paired early
            ] in
            inl (k, omega (arith, early, inside), same, inl (early, refl))
        | inr after ↦ elim (cases_lt k (range.first + range.new)) [
          | inl fresh ↦ inr (after, fresh, e.fresh k after fresh)
          | inr behind ↦
              let i = k + range.old - range.new in
              let low : i < length old = omega (arith, there, count, behind) in
              let back : i + range.new - range.old ≡ k = omega (arith, behind) in
              inl (i, low, ap (λ n. (line_of new n).id) (sym back) ∙ ap (λ (l : LineState). l.id) (e.behind i (omega (arith, behind)) low), inr (behind, omega (arith, behind)))
        ]
      ];
    }

pub text-HasIds : (text : TextState) → IsText text → HasIds text.next text.lines
text-HasIds text it = record { distinct = it.distinct; below = it.below; limit = it.ids }

-- The ids of the new lines are distinct and below the next.
pub edited-HasIds : (range : RangeOf) (next : ℕ) (old new : List LineState) → IsEdited range next old new → HasIds next old → next_after range next ≤ id_limit
    → HasIds (next_after range next) new
edited-HasIds range next old new e ids limit = record {
  distinct = λ i j d less there same.
      let ei = get_or_default new i d no_line (omega (arith, less, there)) in
      let ej = get_or_default new j d no_line there in
      let equal : (line_of new i).id ≡ (line_of new j).id = sym (ap (λ (l : LineState). l.id) ei) ∙ same ∙ ap (λ (l : LineState). l.id) ej in
      elim (origin range next old new i e (omega (arith, less, there))).is [
        | inl a ↦ elim (origin range next old new j e there).is [
          | inl b ↦ ids.distinct a.0 b.0 no_line (order i j a.0 b.0 less a.3 b.3) b.1 (sym a.2 ∙ equal ∙ b.2)
          | inr b ↦ let low = ids.below a.0 no_line a.1 in omega (arith, low, a.2, b.2, equal)
        ]
        | inr a ↦ elim (origin range next old new j e there).is [
          | inl b ↦ let low = ids.below b.0 no_line b.1 in omega (arith, low, a.2, b.2, equal)
          | inr b ↦ omega (arith, a, b, equal, less)
        ]
      ];
  below = λ k d there.
      let ek = get_or_default new k d no_line there in
      let id = ap (λ (l : LineState). l.id) ek in
      elim (origin range next old new k e there).is [
        | inl a ↦ let low = ids.below a.0 no_line a.1 in omega (arith, low, a.2, id)
        | inr a ↦ omega (arith, a, id)
      ];
  limit = limit;
}
  where
    order : (i j a b : ℕ) → i < j → (((i < range.first + min range.old range.new) × (a ≡ i)) ⊎ ((range.first + range.new ≤ i) × (a + range.new ≡ i + range.old)))
        → (((j < range.first + min range.old range.new) × (b ≡ j)) ⊎ ((range.first + range.new ≤ j) × (b + range.new ≡ j + range.old))) → a < b
    order i j a b less one other = elim one [
      | inl x ↦ elim other [ inl y ↦ omega (arith, less, x, y) | inr y ↦ omega (arith, less, x, y) ]
      | inr x ↦ elim other [ inl y ↦ omega (arith, less, x, y) | inr y ↦ omega (arith, less, x, y) ]
    ]
