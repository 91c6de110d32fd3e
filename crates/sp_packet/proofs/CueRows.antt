-- How many of the rows from one on are a cue's.
use Rattle.std.proofs.Common.{◌≡◌, ℕ, zero, suc, ◌+◌, ◌-◌, ◌<◌, ◌≤◌, Bool, true, false, cond, Some, List, ◌∷◌, length, take, drop, slice_get, inl, inr, ap, ap₂, sym, ◌∙◌, arith, take_all, length-drop}
use Rattle.std.specs.Prelude.{min}
use Rattle.std.specs.List.{prefix_len}
use Rattle.std.proofs.lemmas.Bool.{cases_lt}
use Rattle.std.proofs.lemmas.List.{drop_more}
use Rattle.std.proofs.lemmas.Option.{slice_get_within, get_or_from_slice_get}
use Rattle.spec_pages.specs.declared.Shape.{Shape}
use Rattle.sp_packet.specs.Cues.{is_cue_shape, reach}

abbrev pub cues_from : List Shape → ℕ → ℕ → ℕ
cues_from shapes from most = prefix_len is_cue_shape (take most (drop from shapes))

-- No more rows are there than behind the first.
pub cues-there : (shapes : List Shape) (from most rows : ℕ) → rows ≡ min most (length shapes - from) → cues_from shapes from most ≡ cues_from shapes from rows
cues-there shapes from most rows is =
    let behind = drop from shapes in
    let count = length-drop from shapes in
    elim (cases_lt most (length shapes - from)) [
      | inl few ↦ (let same : most ≡ rows = omega (arith, is, few) in ap (cues_from shapes from) same)
      | inr all ↦ ap (prefix_len is_cue_shape) (take_all most behind (omega (arith, count, all)) ∙ sym (take_all rows behind (omega (arith, count, is, all))))
    ]

first-is : (shapes : List Shape) (at left : ℕ) (shape : Shape) → slice_get shapes at ≡ Some shape → 0 < left → take left (drop at shapes) ≡ shape ∷ take (left - 1) (drop (at + 1) shapes)
first-is shapes at zero shape is some = absurd (omega (arith, some))
first-is shapes at (suc left) shape is some =
    let rest = drop (at + 1) shapes in
    ap (take (suc left)) (drop_more shapes at shape (slice_get_within shapes at shape is) ∙ ap (λ (it : Shape). it ∷ rest) (get_or_from_slice_get shapes at shape shape is))
    ∙ ap (λ n. shape ∷ take n rest) (let same : left ≡ suc left - 1 = omega arith in same)

by-first : (shapes : List Shape) (at left : ℕ) (shape : Shape) (b : Bool) → slice_get shapes at ≡ Some shape → 0 < left → is_cue_shape shape ≡ b → cues_from shapes at left ≡ cond b (1 + cues_from shapes (at + 1) (left - 1)) 0
by-first shapes at left shape b is some cue =
    ap (prefix_len is_cue_shape) (first-is shapes at left shape is some) ∙ ap (λ c. cond c (1 + cues_from shapes (at + 1) (left - 1)) 0) cue

pub cues-more : (shapes : List Shape) (from rows count all : ℕ) (shape : Shape) → all ≡ count + cues_from shapes (from + count) (rows - count) → slice_get shapes (from + count) ≡ Some shape → count < rows → is_cue_shape shape ≡ true
    → all ≡ count + 1 + cues_from shapes (from + (count + 1)) (rows - (count + 1))
cues-more shapes from rows count all shape so_far is some cue =
    let step = by-first shapes (from + count) (rows - count) shape true is (omega (arith, some)) cue in
    let at : from + count + 1 ≡ from + (count + 1) = omega arith in
    let left : rows - count - 1 ≡ rows - (count + 1) = omega arith in
    let rest = ap₂ (cues_from shapes) at left in
    omega (arith, so_far, step, rest)

pub cues-end : (shapes : List Shape) (from rows count all : ℕ) (shape : Shape) → all ≡ count + cues_from shapes (from + count) (rows - count) → slice_get shapes (from + count) ≡ Some shape → count < rows → is_cue_shape shape ≡ false → count ≡ all
cues-end shapes from rows count all shape so_far is some cue =
    let step = by-first shapes (from + count) (rows - count) shape false is (omega (arith, some)) cue in
    omega (arith, so_far, step)

pub cues-all : (shapes : List Shape) (from rows count all : ℕ) → all ≡ count + cues_from shapes (from + count) (rows - count) → rows ≤ count → count ≡ all
cues-all shapes from rows count all so_far none =
    let left : rows - count ≡ 0 = omega (arith, none) in
    let step = ap (cues_from shapes (from + count)) left in
    omega (arith, so_far, step)

pub reach-first : (shapes : List Shape) (from : ℕ) (shape : Shape) → slice_get shapes from ≡ Some shape → reach (drop from shapes) ≡ min (cues_from shapes from (shape.rest + 1)) shape.rest
reach-first shapes from shape is =
    let rest = drop (from + 1) shapes in
    let behind : drop from shapes ≡ shape ∷ rest = drop_more shapes from shape (slice_get_within shapes from shape is) ∙ ap (λ (it : Shape). it ∷ rest) (get_or_from_slice_get shapes from shape shape is) in
    ap reach behind ∙ ap (λ (those : List Shape). min (prefix_len is_cue_shape (take (shape.rest + 1) those)) shape.rest) (sym behind)
