-- The lines of headings among rows, compared one by one.
use Rattle.std.proofs.Common.{◌≡◌, ℕ, zero, suc, ◌+◌, ◌-◌, ◌<◌, ◌≤◌, ◌↔◌, true, false, cond, List, [], ◌∷◌, length, take, drop, get_or, sym, ap, ap₂, ◌∙◌, inl, inr, arith, get_or-take, length-take}
use Rattle.std.specs.Prelude.{Some, slice_get, slice_range}
use Rattle.std.proofs.Math.Nat.{eq-or-lt_of_le}
use Rattle.std.proofs.lemmas.List.{drop_all, drop_more}
use Rattle.std.proofs.lemmas.Option.{get_or_from_slice_get}
use Rattle.std.proofs.lemmas.Slice.{between_is}
use Rattle.spec_pages.specs.declared.Shape.{Shape}
use Rattle.spec_pages.specs.Pages.{begins_heading}
use Rattle.spec_sheets.specs.Shown.{no_row}
use Rattle.spec_labels.specs.declared.RowKey.{RowKey}
use Rattle.sp_sheets.specs.HeadingIds.{IsHeadingFrom, heading_ids}

pub below : (place end : ℕ) → place ≤ end → (place ≡ end → ⊥) → place < end
below place end within other = elim (eq-or-lt_of_le within) [ inl is ↦ absurd (other is) | inr low ↦ low ]

-- The lines of the headings from a row on.
abbrev pub ids_left : List Shape → List RowKey → ℕ → List ℕ
ids_left shapes keys i = heading_ids (drop i shapes) (drop i keys)

ids-here : (shapes : List Shape) (keys : List RowKey) (i : ℕ) (shape : Shape) (key : RowKey) → i < length shapes → length keys ≡ length shapes
    → ids_left shapes keys i ≡ cond (begins_heading (get_or shapes i shape)) ((get_or keys i key).line ∷ ids_left shapes keys (i + 1)) (ids_left shapes keys (i + 1))
ids-here shapes keys i shape key inside same =
    let here = drop_more shapes i shape inside in
    let there = drop_more keys i key (omega (arith, inside, same)) in
    ap₂ heading_ids here there

-- The next row is the first of a heading, or not.
pub ids-heading : (shapes : List Shape) (keys : List RowKey) (i : ℕ) (shape : Shape) (key : RowKey) → i < length shapes → length keys ≡ length shapes → begins_heading (get_or shapes i shape) ≡ true
    → ids_left shapes keys i ≡ (get_or keys i key).line ∷ ids_left shapes keys (i + 1)
ids-heading shapes keys i shape key inside same is =
    ids-here shapes keys i shape key inside same ∙ ap (λ b. cond b ((get_or keys i key).line ∷ ids_left shapes keys (i + 1)) (ids_left shapes keys (i + 1))) is

pub ids-plain : (shapes : List Shape) (keys : List RowKey) (i : ℕ) (shape : Shape) (key : RowKey) → i < length shapes → length keys ≡ length shapes → begins_heading (get_or shapes i shape) ≡ false
    → ids_left shapes keys i ≡ ids_left shapes keys (i + 1)
ids-plain shapes keys i shape key inside same is =
    ids-here shapes keys i shape key inside same ∙ ap (λ b. cond b ((get_or keys i key).line ∷ ids_left shapes keys (i + 1)) (ids_left shapes keys (i + 1))) is

-- Rows of no heading are passed.
abbrev no_key : RowKey
no_key = record { line = 0; row = 0 }

pub ids-next : (shapes : List Shape) (keys : List RowKey) (from place : ℕ) → length keys ≡ length shapes → IsHeadingFrom shapes from place → ids_left shapes keys from ≡ ids_left shapes keys place
ids-next shapes keys from place same is = by (place - from) from (omega (arith, is.low)) is.none
  where
    by : (n at : ℕ) → at + n ≡ place → ((k : ℕ) (d : Shape) → at ≤ k → k < place → begins_heading (get_or shapes k d) ≡ false) → ids_left shapes keys at ≡ ids_left shapes keys place
    by zero at sum none = ap (ids_left shapes keys) (let e : at ≡ place = omega (arith, sum) in e)
    by (suc n) at sum none =
        let inside : at < length shapes = omega (arith, sum, is.within) in
        ids-plain shapes keys at no_row.shape no_key inside same (none at no_row.shape (omega arith) (omega (arith, sum)))
        ∙ by n (at + 1) (omega (arith, sum)) (λ k d low high. none k d (omega (arith, low)) high)

ids-over : (shapes : List Shape) (keys : List RowKey) (i : ℕ) → length shapes ≤ i → ids_left shapes keys i ≡ []
ids-over shapes keys i over = ap (λ (those : List Shape). heading_ids those (drop i keys)) (drop_all i shapes over)

-- ---- one heading after another

-- What is left is the same just where all is.
abbrev pub AreLeft : Type 0 → List ℕ → List ℕ → Type 0
AreLeft all left lefts = all ↔ left ≡ lefts

pub left-plain : (all : Type 0) (shapes : List Shape) (keys : List RowKey) (i : ℕ) (shape : Shape) (lefts : List ℕ) → i < length shapes → length keys ≡ length shapes → begins_heading (get_or shapes i shape) ≡ false
    → AreLeft all (ids_left shapes keys i) lefts → AreLeft all (ids_left shapes keys (i + 1)) lefts
left-plain all shapes keys i shape lefts inside same is are =
    let one = ids-plain shapes keys i shape no_key inside same is in
    (λ h. sym one ∙ are.0 h, λ e. are.1 (one ∙ e))

-- A heading on each side.
record BothHead (shapes : List Shape) (keys : List RowKey) (i : ℕ) (others : List Shape) (other_keys : List RowKey) (next line other : ℕ) : Type 0 where
  pub one : ids_left shapes keys i ≡ line ∷ ids_left shapes keys (i + 1)
  pub two : ids_left others other_keys next ≡ other ∷ ids_left others other_keys (next + 1)

both-head : (shapes : List Shape) (keys : List RowKey) (i : ℕ) (others : List Shape) (other_keys : List RowKey) (from next : ℕ) (shape : Shape) (key other : RowKey) → i < length shapes → length keys ≡ length shapes
    → length other_keys ≡ length others → next < length others → IsHeadingFrom others from next → begins_heading (get_or shapes i shape) ≡ true
    → BothHead shapes keys i others other_keys next (get_or keys i key).line (get_or other_keys next other).line
both-head shapes keys i others other_keys from next shape key other inside same sames some is opens = record {
  one = ids-heading shapes keys i shape key inside same opens;
  two = ids-heading others other_keys next no_row.shape other some sames (is.found no_row.shape some);
}

pub left-heading : (all : Type 0) (shapes : List Shape) (keys : List RowKey) (i : ℕ) (others : List Shape) (other_keys : List RowKey) (from next behind : ℕ) (shape : Shape) (key other : RowKey) → i < length shapes → length keys ≡ length shapes
    → length other_keys ≡ length others → next < length others → IsHeadingFrom others from next → begins_heading (get_or shapes i shape) ≡ true → (get_or other_keys next other).line ≡ (get_or keys i key).line
    → IsHeadingFrom others (next + 1) behind → AreLeft all (ids_left shapes keys i) (ids_left others other_keys next) → AreLeft all (ids_left shapes keys (i + 1)) (ids_left others other_keys behind)
left-heading all shapes keys i others other_keys from next behind shape key other inside same sames some is opens line after are =
    let both = both-head shapes keys i others other_keys from next shape key other inside same sames some is opens in
    let passed = ids-next others other_keys (next + 1) behind sames after in (
      λ h. (let e : (get_or keys i key).line ∷ ids_left shapes keys (i + 1) ≡ (get_or other_keys next other).line ∷ ids_left others other_keys (next + 1) = sym both.one ∙ are.0 h ∙ both.two in
          let f : ids_left shapes keys (i + 1) ≡ ids_left others other_keys (next + 1) = cc in f ∙ passed),
      λ e. are.1 (both.one ∙ ap₂ (λ (n : ℕ) (ids : List ℕ). n ∷ ids) (sym line) (e ∙ sym passed) ∙ sym both.two),
    )

-- They are of other lines.
pub left-other : (all : Type 0) (shapes : List Shape) (keys : List RowKey) (i : ℕ) (others : List Shape) (other_keys : List RowKey) (from next : ℕ) (shape : Shape) (key other : RowKey) → i < length shapes → length keys ≡ length shapes
    → length other_keys ≡ length others → next < length others → IsHeadingFrom others from next → begins_heading (get_or shapes i shape) ≡ true → ((get_or other_keys next other).line ≡ (get_or keys i key).line → ⊥)
    → AreLeft all (ids_left shapes keys i) (ids_left others other_keys next) → all → ⊥
left-other all shapes keys i others other_keys from next shape key other inside same sames some is opens line are h =
    let both = both-head shapes keys i others other_keys from next shape key other inside same sames some is opens in
    let e : (get_or keys i key).line ∷ ids_left shapes keys (i + 1) ≡ (get_or other_keys next other).line ∷ ids_left others other_keys (next + 1) = sym both.one ∙ are.0 h ∙ both.two in
    line (let f : (get_or other_keys next other).line ≡ (get_or keys i key).line = cc in f)

-- There is none on the other side.
pub left-over : (all : Type 0) (shapes : List Shape) (keys : List RowKey) (i : ℕ) (others : List Shape) (other_keys : List RowKey) (next : ℕ) (shape : Shape) → i < length shapes → length keys ≡ length shapes → length others ≤ next
    → begins_heading (get_or shapes i shape) ≡ true → AreLeft all (ids_left shapes keys i) (ids_left others other_keys next) → all → ⊥
left-over all shapes keys i others other_keys next shape inside same over opens are h =
    let one = ids-heading shapes keys i shape no_key inside same opens in
    let e : (get_or keys i no_key).line ∷ ids_left shapes keys (i + 1) ≡ [] = sym one ∙ are.0 h ∙ ids-over others other_keys next over in
    let bad : ⊥ = cc in bad

-- There is none left on this side.
pub left-end : (all : Type 0) (shapes : List Shape) (keys : List RowKey) (i : ℕ) (others : List Shape) (other_keys : List RowKey) (from next : ℕ) → length shapes ≤ i → length other_keys ≡ length others → IsHeadingFrom others from next
    → AreLeft all (ids_left shapes keys i) (ids_left others other_keys next) → (next ≡ length others) ↔ all
left-end all shapes keys i others other_keys from next over sames is are =
    let none = ids-over shapes keys i over in (
      λ e. are.1 (none ∙ sym (ids-over others other_keys next (omega (arith, e)))),
      λ h. elim (eq-or-lt_of_le is.within) [
        | inr some ↦
            let two = ids-heading others other_keys next no_row.shape no_key some sames (is.found no_row.shape some) in
            let e : [] ≡ (get_or other_keys next no_key).line ∷ ids_left others other_keys (next + 1) = sym none ∙ are.0 h ∙ two in
            absurd (let bad : ⊥ = cc in bad)
        | inl is_end ↦ is_end
      ],
    )

-- ---- a run of rows

-- Up to its end, keys and shapes are as many.
pub same-till : (shapes : List Shape) (keys : List RowKey) (to : ℕ) → length keys ≡ length shapes → length (take to keys) ≡ length (take to shapes)
same-till shapes keys to same = omega (arith, same, length-take to keys, length-take to shapes)

pub till-inside : (shapes : List Shape) (to place : ℕ) → place < to → to ≤ length shapes → place < length (take to shapes)
till-inside shapes to place low within = omega (arith, low, within, length-take to shapes)

pub till-over : (shapes : List Shape) (to place : ℕ) → to ≤ place → length (take to shapes) ≤ place
till-over shapes to place over = omega (arith, over, length-take to shapes)

-- What was read of a row is there.
pub till-read : {X : Type 0} (rows : List X) (to place : ℕ) (row d : X) → place < to → slice_get rows place ≡ Some row → get_or (take to rows) place d ≡ row
till-read rows to place row d low found = get_or-take to rows place d low ∙ get_or_from_slice_get rows place row d found

-- The lines of the headings of a run are what is left at its first row.
pub ids-run : (shapes : List Shape) (keys : List RowKey) (from to : ℕ) → heading_ids (slice_range shapes from to) (slice_range keys from to) ≡ ids_left (take to shapes) (take to keys) from
ids-run shapes keys from to = ap₂ heading_ids (between_is shapes from to) (between_is keys from to)

-- Lines of headings are the same where the keys that were read have the same.
pub same-lines : (keys others : List RowKey) (to place next : ℕ) (key other : RowKey) → place < to → slice_get keys place ≡ Some key → slice_get others next ≡ Some other
    → (get_or others next other).line ≡ (get_or (take to keys) place key).line ↔ other.line ≡ key.line
same-lines keys others to place next key other low found there =
    let one = ap (λ (it : RowKey). it.line) (get_or_from_slice_get others next other other there) in
    let two = ap (λ (it : RowKey). it.line) (till-read keys to place key key low found) in
    (λ e. sym one ∙ e ∙ two, λ e. one ∙ e ∙ sym two)
