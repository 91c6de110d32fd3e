-- The places of the rows that a test passes are those of the first rows of elements that another passes.
use Rattle.std.proofs.Common.{◌≡◌, ℕ, suc, ◌+◌, ◌<◌, ◌==◌, ◌&&◌, Bool, true, false, cond, List, [], ◌∷◌, ◌++◌, length, map, get_or, refl, ap, ap₂, ◌∙◌, arith, ne_eqb, length-append}
use Rattle.std.specs.Prelude.{All}
use Rattle.std.specs.List.{flat_map}
use Rattle.std.proofs.lemmas.List.{map-append, length-map}
use Rattle.std.proofs.lemmas.List.Concat.{flat_map-append}
use Rattle.std.proofs.lemmas.List.Elements.{All-head, All-tail}
use Rattle.spec_text.specs.Lines.{LineState}
use Rattle.spec_script.specs.declared.Kind.{Kind}
use Rattle.spec_script.specs.LongestRuns.{Group}
use Rattle.spec_pages.specs.declared.RowKind.{RowKind}
use Rattle.spec_pages.specs.declared.Shape.{Shape}
use Rattle.spec_pages.specs.Rows.{Row}
use Rattle.spec_sheets.specs.Speakers.{Spoken}
use Rattle.spec_sheets.specs.Layout.{kind_of}
use Rattle.spec_sheets.proofs.LaidRows.{body_rows, layout-body}
use Rattle.spec_cast.specs.Places.{row_count}
use Rattle.spec_cast.proofs.FirstRows.{Opens, ElementOpens}

-- The places of the rows that a test passes and that are the first of their element, where so many rows stand before these.
abbrev pub places : (RowKind → Bool) → ℕ → List Shape → List ℕ
places test row [] = []
places test row (shape ∷ shapes) = cond (test shape.kind && (shape.index == 0)) (row ∷ places test (row + 1) shapes) (places test (row + 1) shapes)

-- The rows at which the elements begin that a test passes.
abbrev pub first_rows : (Group Spoken → Bool) → List LineState → ℕ → List (Group Spoken) → List ℕ
first_rows passes lines row [] = []
first_rows passes lines row (element ∷ elements) =
    cond (passes element) (row ∷ []) [] ++ first_rows passes lines (row + length (body_rows lines element)) elements

abbrev pub row_shape : Row → Shape
row_shape row = row.shape

places-append : (test : RowKind → Bool) (row : ℕ) (one other : List Shape) → places test row (one ++ other) ≡ places test row one ++ places test (row + length one) other
places-append test row [] other = ap (λ n. places test n other) (omega arith)
places-append test row (shape ∷ one) other =
    by (test shape.kind && (shape.index == 0)) (places-append test (row + 1) one other ∙ ap (λ n. places test (row + 1) one ++ places test n other) (omega arith))
  where
    later : List ℕ
    later = places test (row + suc (length one)) other

    by : (b : Bool) → places test (row + 1) (one ++ other) ≡ places test (row + 1) one ++ later
        → cond b (row ∷ places test (row + 1) (one ++ other)) (places test (row + 1) (one ++ other)) ≡ cond b (row ∷ places test (row + 1) one) (places test (row + 1) one) ++ later
    by true rest = ap (λ ns. row ∷ ns) rest
    by false rest = rest

-- None of those is the first of its element.
later-places : (test : RowKind → Bool) (row : ℕ) (those : List Row) → ((k : ℕ) (d : Row) → k < length those → 0 < (get_or those k d).shape.index) → places test row (map row_shape those) ≡ []
later-places test row [] later = refl
later-places test row (one ∷ those) later =
    ap (λ b. cond b (row ∷ places test (row + 1) (map row_shape those)) (places test (row + 1) (map row_shape those)))
    (ap (λ b. test one.shape.kind && b) (ne_eqb one.shape.index 0 (λ e. (let above = later 0 one (omega arith) in omega (arith, above, e)))) ∙ and-false (test one.shape.kind))
    ∙ later-places test (row + 1) those (λ k d h. later (suc k) d (omega (arith, h)))
  where
    and-false : (b : Bool) → (b && false) ≡ false
    and-false true = refl
    and-false false = refl

-- Of the rows of an element at most the first is told.
own-places : (test : RowKind → Bool) (flag : Bool) (row : ℕ) (those : List Row) → Opens test flag those → places test row (map row_shape those) ≡ cond flag (row ∷ []) []
own-places test flag row [] opens = ap (λ b. cond b (row ∷ []) []) opens.first
own-places test flag row (one ∷ those) opens =
    let start : one.shape.index ≡ 0 = (opens.indexed 0 one (omega arith)).index in
    let none = later-places test (row + 1) those (λ k d h. (let at : (get_or those k d).shape.index ≡ suc k = (opens.indexed (suc k) d (omega (arith, h))).index in omega (arith, at))) in
    ap₂ (λ (a : Bool) (n : ℕ). cond (a && (n == 0)) (row ∷ places test (row + 1) (map row_shape those)) (places test (row + 1) (map row_shape those))) opens.first start
    ∙ ap (λ ns. cond (flag && true) (row ∷ ns) ns) none ∙ by flag
  where
    by : (b : Bool) → cond (b && true) (row ∷ []) [] ≡ cond b (row ∷ []) []
    by true = refl
    by false = refl

-- Those of the rows of elements that open as their kinds tell.
pub elements-places : (test : RowKind → Bool) (kind : Kind → Bool) (lines : List LineState) (row : ℕ) (elements : List (Group Spoken)) → All (ElementOpens test kind lines) elements
    → places test row (map row_shape (flat_map (body_rows lines) elements)) ≡ first_rows (λ element. kind (kind_of element)) lines row elements
elements-places test kind lines row [] all = refl
elements-places test kind lines row (element ∷ elements) all =
    let own = body_rows lines element in
    let others = flat_map (body_rows lines) elements in
    ap (places test row) (map-append row_shape own others)
    ∙ places-append test row (map row_shape own) (map row_shape others)
    ∙ ap₂ (λ (ns : List ℕ) (n : ℕ). ns ++ places test (row + n) (map row_shape others))
    (own-places test (kind (kind_of element)) row own (All-head (ElementOpens test kind lines) element elements all)) (length-map own row_shape)
    ∙ ap (λ ns. cond (kind (kind_of element)) (row ∷ []) [] ++ ns)
    (elements-places test kind lines (row + length own) elements (All-tail (ElementOpens test kind lines) element elements all))

-- An element that opens so has rows.
pub opens-some : (test : RowKind → Bool) (those : List Row) → Opens test true those → 0 < length those
opens-some test [] opens = let first = opens.first in cc
opens-some test (row ∷ later) opens = omega arith

-- How many rows elements have.
pub count-rows : (lines : List LineState) (elements : List (Group Spoken)) → row_count lines elements ≡ length (flat_map (body_rows lines) elements)
count-rows lines elements = ap length (layout-body lines elements)

pub count-next : (lines : List LineState) (before : List (Group Spoken)) (element : Group Spoken) → row_count lines (before ++ element ∷ []) ≡ row_count lines before + length (body_rows lines element)
count-next lines before element =
    let rows = body_rows lines element in
    let all = count-rows lines (before ++ element ∷ []) in
    let split = ap length (flat_map-append (body_rows lines) before (element ∷ [])) in
    let sum = length-append (flat_map (body_rows lines) before) (rows ++ []) in
    let end = length-append rows [] in
    let front = count-rows lines before in
    omega (arith, all, split, sum, end, front)

pub count-all : (lines : List LineState) (before : List (Group Spoken)) (element : Group Spoken) (later : List (Group Spoken))
    → row_count lines (before ++ element ∷ later) ≡ row_count lines before + (length (body_rows lines element) + length (flat_map (body_rows lines) later))
count-all lines before element later =
    let rows = body_rows lines element in
    let all = count-rows lines (before ++ element ∷ later) in
    let split = ap length (flat_map-append (body_rows lines) before (element ∷ later)) in
    let sum = length-append (flat_map (body_rows lines) before) (rows ++ flat_map (body_rows lines) later) in
    let end = length-append rows (flat_map (body_rows lines) later) in
    let front = count-rows lines before in
    omega (arith, all, split, sum, end, front)
