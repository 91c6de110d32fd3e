-- Elements of which one has other rows.
use Rattle.std.proofs.Common.{◌≡◌, ℕ, zero, suc, ◌+◌, ◌-◌, ◌<◌, ◌≤◌, Bool, true, false, cond, ◌&&◌, ◌==◌, List, [], ◌∷◌, ◌++◌, length, map, take, drop, slice_range, get_or, set, All, refl, sym, ap, ap₂, subst, ◌∙◌, arith, append_assoc, length-append, length-take, sum_by}
use Rattle.std.proofs.lemmas.Bool.{true≢false}
use Rattle.std.proofs.lemmas.List.{map-append, length-map}
use Rattle.std.proofs.lemmas.List.Sums.{sum_by-cons}
use Rattle.std.proofs.lemmas.List.Elements.{All-cons, All-head, All-tail}
use Rattle.spec_pages.specs.declared.Shape.{Shape}
use Rattle.spec_pages.specs.Pages.{is_heading}
use Rattle.spec_pages.specs.Rows.{Row, ElementOf, shifted_row, placed_rows}
use Rattle.spec_sheets.specs.Layout.{placed_in}
use Rattle.spec_sheets.specs.Shown.{is_heading_element, heading_count, no_row}
use Rattle.sp_gap.specs.Runs.{exchanged}
use Rattle.sp_layout.specs.Bodies.{BodyParts, KeyedElements, IsBody, row_count, shapes_in, marks_in, starts_by, rows_of, headings_of}
use Rattle.sp_layout.specs.Exchanges.{moved_element, with_rows_at, with_rows, rows_at, AreRowsAlike, run_of, with_run}
use Rattle.sp_layout.proofs.BodyLaws.{sum-headings}

-- ---- lists round the place

pub rows-beside : (xs : List ElementOf) (e : ElementOf) (ys : List ElementOf) (rows : List Row) → with_rows_at (xs ++ e ∷ ys) (length xs) rows ≡ xs ++ record { first = e.first; rows = rows } ∷ ys
rows-beside [] e ys rows = refl
rows-beside (x ∷ xs) e ys rows = ap (λ (those : List ElementOf). x ∷ those) (rows-beside xs e ys rows)

pub rows-there : (xs : List ElementOf) (e : ElementOf) (ys : List ElementOf) → rows_at (xs ++ e ∷ ys) (length xs) ≡ e.rows
rows-there [] e ys = refl
rows-there (x ∷ xs) e ys = rows-there xs e ys

-- Behind others.
pub rows-behind : (xs ys : List ElementOf) (place : ℕ) (rows : List Row) → with_rows_at (xs ++ ys) (length xs + place) rows ≡ xs ++ with_rows_at ys place rows
rows-behind [] ys place rows = let same : 0 + place ≡ place = omega arith in ap (λ n. with_rows_at ys n rows) same
rows-behind (x ∷ xs) ys place rows =
    let next : suc (length xs) + place ≡ suc (length xs + place) = omega arith in
    ap (λ n. with_rows_at (x ∷ (xs ++ ys)) n rows) next ∙ ap (λ (those : List ElementOf). x ∷ those) (rows-behind xs ys place rows)

pub rows_at-behind : (xs ys : List ElementOf) (place : ℕ) → rows_at (xs ++ ys) (length xs + place) ≡ rows_at ys place
rows_at-behind [] ys place = let same : 0 + place ≡ place = omega arith in ap (rows_at ys) same
rows_at-behind (x ∷ xs) ys place =
    let next : suc (length xs) + place ≡ suc (length xs + place) = omega arith in
    ap (rows_at (x ∷ (xs ++ ys))) next ∙ rows_at-behind xs ys place

-- ---- what stays

pub length-rows : (elements : List ElementOf) (place : ℕ) (rows : List Row) → length (with_rows_at elements place rows) ≡ length elements
length-rows [] place rows = refl
length-rows (element ∷ elements) zero rows = refl
length-rows (element ∷ elements) (suc place) rows = ap suc (length-rows elements place rows)

pub take-rows : (elements : List ElementOf) (n place : ℕ) (rows : List Row) → n ≤ place → take n (with_rows_at elements place rows) ≡ take n elements
take-rows elements zero place rows low = refl
take-rows [] (suc n) place rows low = refl
take-rows (element ∷ elements) (suc n) zero rows low = absurd (omega (arith, low))
take-rows (element ∷ elements) (suc n) (suc place) rows low = ap (λ (those : List ElementOf). element ∷ those) (take-rows elements n place rows (omega (arith, low)))

pub drop-rows : (elements : List ElementOf) (n place : ℕ) (rows : List Row) → n ≤ place → drop n (with_rows_at elements place rows) ≡ with_rows_at (drop n elements) (place - n) rows
drop-rows elements zero place rows low = let same : place - 0 ≡ place = omega arith in ap (λ m. with_rows_at elements m rows) (sym same)
drop-rows [] (suc n) place rows low = refl
drop-rows (element ∷ elements) (suc n) zero rows low = absurd (omega (arith, low))
drop-rows (element ∷ elements) (suc n) (suc place) rows low =
    let same : suc place - suc n ≡ place - n = omega arith in
    drop-rows elements n place rows (omega (arith, low)) ∙ ap (λ m. with_rows_at (drop n elements) m rows) (sym same)

pub rows_at-drop : (elements : List ElementOf) (n place : ℕ) → n ≤ place → rows_at (drop n elements) (place - n) ≡ rows_at elements place
rows_at-drop elements zero place low = let same : place - 0 ≡ place = omega arith in ap (rows_at elements) same
rows_at-drop [] (suc n) place low = refl
rows_at-drop (element ∷ elements) (suc n) zero low = absurd (omega (arith, low))
rows_at-drop (element ∷ elements) (suc n) (suc place) low =
    let same : suc place - suc n ≡ place - n = omega arith in
    ap (rows_at (drop n elements)) same ∙ rows_at-drop elements n place (omega (arith, low))

pub slice-rows : (elements : List ElementOf) (from to place : ℕ) (rows : List Row) → from ≤ to → to ≤ place → slice_range (with_rows_at elements place rows) from to ≡ slice_range elements from to
slice-rows elements from to place rows order low =
    ap (take (to - from)) (drop-rows elements from place rows (omega (arith, order, low))) ∙ take-rows (drop from elements) (to - from) (place - from) rows (omega (arith, order, low))

pub moved-rows : (less more : ℕ) (elements : List ElementOf) (place : ℕ) (rows : List Row)
    → map (moved_element less more) (with_rows_at elements place rows) ≡ with_rows_at (map (moved_element less more) elements) place rows
moved-rows less more [] place rows = refl
moved-rows less more (element ∷ elements) zero rows = refl
moved-rows less more (element ∷ elements) (suc place) rows = ap (λ (those : List ElementOf). moved_element less more element ∷ those) (moved-rows less more elements place rows)

pub rows_at-moved : (less more : ℕ) (elements : List ElementOf) (place : ℕ) → rows_at (map (moved_element less more) elements) place ≡ rows_at elements place
rows_at-moved less more [] place = refl
rows_at-moved less more (element ∷ elements) zero = refl
rows_at-moved less more (element ∷ elements) (suc place) = rows_at-moved less more elements place

-- What holds of where elements begin.
pub firsts-rows : (P : ℕ → Type 0) (elements : List ElementOf) (place : ℕ) (rows : List Row) → All (λ (e : ElementOf). P e.first) elements → All (λ (e : ElementOf). P e.first) (with_rows_at elements place rows)
firsts-rows P [] place rows all = all
firsts-rows P (element ∷ elements) zero rows all =
    let Q : ElementOf → Type 0 = λ e. P e.first in
    All-cons Q (record { first = element.first; rows = rows }) elements (All-head Q element elements all) (All-tail Q element elements all)
firsts-rows P (element ∷ elements) (suc place) rows all =
    let Q : ElementOf → Type 0 = λ e. P e.first in
    All-cons Q element (with_rows_at elements place rows) (All-head Q element elements all) (firsts-rows P elements place rows (All-tail Q element elements all))

-- ---- there and back

pub rows-back : (elements : List ElementOf) (place : ℕ) (rows : List Row) → with_rows_at (with_rows_at elements place rows) place (rows_at elements place) ≡ elements
rows-back [] place rows = refl
rows-back (element ∷ elements) zero rows = refl
rows-back (element ∷ elements) (suc place) rows = ap (λ (those : List ElementOf). element ∷ those) (rows-back elements place rows)

pub rows_at-new : (elements : List ElementOf) (place : ℕ) (rows : List Row) → place < length elements → rows_at (with_rows_at elements place rows) place ≡ rows
rows_at-new [] place rows inside = absurd (omega (arith, inside))
rows_at-new (element ∷ elements) zero rows inside = refl
rows_at-new (element ∷ elements) (suc place) rows inside = rows_at-new elements place rows (omega (arith, inside))

pub with_rows-back : (body : KeyedElements) (place : ℕ) (rows : List Row) → with_rows (with_rows body place rows) place (rows_at body.elements place) ≡ body
with_rows-back body place rows = ap (λ (those : List ElementOf). record { elements = those; keys = body.keys }) (rows-back body.elements place rows)

pub alike-back : (rows others : List Row) → AreRowsAlike rows others → AreRowsAlike others rows
alike-back rows others alike = record { shapes = sym alike.shapes; marks = sym alike.marks }

-- ---- a run exchanged in front of the place

-- Where the element stands behind a run that others take the place of.
abbrev pub place_behind : ℕ → ℕ → ℕ → ℕ → ℕ
place_behind from to count place = from + count + (place - to)

pub rows-run : (body : KeyedElements) (place : ℕ) (rows : List Row) (from to : ℕ) (others : KeyedElements) (less more : ℕ) → from ≤ to → to ≤ place → to ≤ length body.elements
    → with_run (with_rows body place rows) from to others less more ≡ with_rows (with_run body from to others less more) (place_behind from to (length others.elements) place) rows
rows-run body place rows from to others less more order low within =
    let es = body.elements in
    let front = take from es in
    let run = front ++ others.elements in
    let rest = map (moved_element less more) (drop to es) in
    let size : length run ≡ from + length others.elements = omega (arith, length-append front others.elements, length-take from es, order, within) in
    let at : from + length others.elements + (place - to) ≡ length run + (place - to) = omega (arith, size) in
    let parts : front ++ (others.elements ++ rest) ≡ run ++ rest = sym (append_assoc front others.elements rest) in
    let news : List ElementOf = with_rows_at (front ++ (others.elements ++ rest)) (place_behind from to (length others.elements) place) rows in
    let elements : take from (with_rows_at es place rows) ++ (others.elements ++ map (moved_element less more) (drop to (with_rows_at es place rows))) ≡ news =
    ap₂ (λ (xs ys : List ElementOf). xs ++ (others.elements ++ map (moved_element less more) ys)) (take-rows es from place rows (omega (arith, order, low))) (drop-rows es to place rows low)
    ∙ ap (λ (ys : List ElementOf). front ++ (others.elements ++ ys)) (moved-rows less more (drop to es) (place - to) rows)
    ∙ sym (append_assoc front others.elements (with_rows_at rest (place - to) rows))
    ∙ sym (ap₂ (λ (ls : List ElementOf) n. with_rows_at ls n rows) parts at ∙ rows-behind run rest (place - to) rows) in
    let from_rows = ap row_count (take-rows es from place rows (omega (arith, order, low))) in
    let to_rows = ap row_count (take-rows es to place rows low) in
    ap (λ (those : List ElementOf). record { elements = those; keys = (with_run (with_rows body place rows) from to others less more).keys }) elements
    ∙ ap₂ (λ n m. record { elements = news; keys = exchanged body.keys n m others.keys }) from_rows to_rows

pub run-rows : (body : KeyedElements) (place : ℕ) (rows : List Row) (from to : ℕ) → from ≤ to → to ≤ place → run_of (with_rows body place rows) from to ≡ run_of body from to
run-rows body place rows from to order low =
    let es = body.elements in
    let from_rows = ap row_count (take-rows es from place rows (omega (arith, order, low))) in
    let to_rows = ap row_count (take-rows es to place rows low) in
    ap₂ (λ n m. record { elements = slice_range (with_rows_at es place rows) from to; keys = slice_range body.keys n m }) from_rows to_rows
    ∙ ap (λ (those : List ElementOf). record { elements = those; keys = (run_of body from to).keys }) (slice-rows es from to place rows order low)

-- The rows of the element behind such a run.
pub rows_at-run : (body : KeyedElements) (place from to : ℕ) (others : KeyedElements) (less more : ℕ) → from ≤ to → to ≤ place → to ≤ length body.elements
    → rows_at (with_run body from to others less more).elements (place_behind from to (length others.elements) place) ≡ rows_at body.elements place
rows_at-run body place from to others less more order low within =
    let es = body.elements in
    let front = take from es in
    let run = front ++ others.elements in
    let rest = map (moved_element less more) (drop to es) in
    let size : length run ≡ from + length others.elements = omega (arith, length-append front others.elements, length-take from es, order, within) in
    let at : from + length others.elements + (place - to) ≡ length run + (place - to) = omega (arith, size) in
    ap₂ (λ (ls : List ElementOf) n. rows_at ls n) (sym (append_assoc front others.elements rest)) at ∙ rows_at-behind run rest (place - to)
    ∙ rows_at-moved less more (drop to es) (place - to) ∙ rows_at-drop es to place low

-- ---- rows that are alike

-- What is asked of rows by their shapes or marks alone.
field-alike : {X : Type 0} (field : Row → X) (elements : List ElementOf) (place : ℕ) (rows : List Row) → ((n : ℕ) (row : Row) → field (shifted_row n row) ≡ field row)
    → map field rows ≡ map field (rows_at elements place) → map field (placed_in (with_rows_at elements place rows)) ≡ map field (placed_in elements)
field-alike field [] place rows ignores alike = refl
field-alike {X} field (element ∷ elements) zero rows ignores alike =
    map-append field (map (shifted_row element.first) rows) (placed_in elements)
    ∙ ap (λ (xs : List X). xs ++ map field (placed_in elements)) (bare element.first rows ∙ alike ∙ sym (bare element.first element.rows))
    ∙ sym (map-append field (placed_rows element) (placed_in elements))
  where
    bare : (n : ℕ) (those : List Row) → map field (map (shifted_row n) those) ≡ map field those
    bare n [] = refl
    bare n (row ∷ those) = ap₂ (λ (x : X) (xs : List X). x ∷ xs) (ignores n row) (bare n those)
field-alike {X} field (element ∷ elements) (suc place) rows ignores alike =
    map-append field (placed_rows element) (placed_in (with_rows_at elements place rows))
    ∙ ap (λ (xs : List X). map field (placed_rows element) ++ xs) (field-alike field elements place rows ignores alike)
    ∙ sym (map-append field (placed_rows element) (placed_in elements))

pub shapes-alike : (elements : List ElementOf) (place : ℕ) (rows : List Row) → AreRowsAlike rows (rows_at elements place) → shapes_in (with_rows_at elements place rows) ≡ shapes_in elements
shapes-alike elements place rows alike = field-alike (λ (row : Row). row.shape) elements place rows (λ n row. refl) alike.shapes

pub marks-alike : (elements : List ElementOf) (place : ℕ) (rows : List Row) → AreRowsAlike rows (rows_at elements place) → marks_in (with_rows_at elements place rows) ≡ marks_in elements
marks-alike elements place rows alike = field-alike (λ (row : Row). row.mark) elements place rows (λ n row. refl) alike.marks

pub count-alike : (elements : List ElementOf) (place : ℕ) (rows : List Row) → AreRowsAlike rows (rows_at elements place) → row_count (with_rows_at elements place rows) ≡ row_count elements
count-alike elements place rows alike =
    let shape : Row → Shape = λ row. row.shape in
    sym (length-map (placed_in (with_rows_at elements place rows)) shape) ∙ ap length (shapes-alike elements place rows alike) ∙ length-map (placed_in elements) shape

pub length-alike : (rows others : List Row) → AreRowsAlike rows others → length rows ≡ length others
length-alike rows others alike =
    let shape : Row → Shape = λ row. row.shape in
    sym (length-map rows shape) ∙ ap length alike.shapes ∙ length-map others shape

-- ---- what a body keeps

sum-alike : (size : ElementOf → ℕ) (elements : List ElementOf) (place : ℕ) (rows : List Row)
    → ((e : ElementOf) → AreRowsAlike rows e.rows → size (record { first = e.first; rows = rows }) ≡ size e)
    → AreRowsAlike rows (rows_at elements place) → sum_by size (with_rows_at elements place rows) ≡ sum_by size elements
sum-alike size [] place rows stays alike = refl
sum-alike size (element ∷ elements) zero rows stays alike =
    omega (arith, sum_by-cons size (record { first = element.first; rows = rows }) elements, sum_by-cons size element elements, stays element alike)
sum-alike size (element ∷ elements) (suc place) rows stays alike =
    omega (arith, sum_by-cons size element (with_rows_at elements place rows), sum_by-cons size element elements, sum-alike size elements place rows stays alike)

starts-alike : (size : ElementOf → ℕ) (count : ℕ) (elements : List ElementOf) (place : ℕ) (rows : List Row)
    → ((e : ElementOf) → AreRowsAlike rows e.rows → size (record { first = e.first; rows = rows }) ≡ size e)
    → AreRowsAlike rows (rows_at elements place) → starts_by size count (with_rows_at elements place rows) ≡ starts_by size count elements
starts-alike size count [] place rows stays alike = refl
starts-alike size count (element ∷ elements) zero rows stays alike = ap (λ n. count ∷ starts_by size (count + n) elements) (stays element alike)
starts-alike size count (element ∷ elements) (suc place) rows stays alike = ap (λ (ns : List ℕ). count ∷ ns) (starts-alike size (count + size element) elements place rows stays alike)

-- A heading is told from the shape of its first row.
first-shape : (rows : List Row) → (get_or rows 0 no_row).shape ≡ get_or (map (λ (row : Row). row.shape) rows) 0 no_row.shape
first-shape [] = refl
first-shape (row ∷ rows) = refl

rows-size : (rows : List Row) (e : ElementOf) → AreRowsAlike rows e.rows → rows_of (record { first = e.first; rows = rows }) ≡ rows_of e
rows-size rows e alike = length-alike rows e.rows alike

headings-size : (rows : List Row) (e : ElementOf) → AreRowsAlike rows e.rows → headings_of (record { first = e.first; rows = rows }) ≡ headings_of e
headings-size rows e alike =
    let new : ElementOf = record { first = e.first; rows = rows } in
    let same : is_heading_element new ≡ is_heading_element e =
    ap (λ (shape : Shape). is_heading shape.kind && (shape.index == 0)) (first-shape rows ∙ ap (λ (shapes : List Shape). get_or shapes 0 no_row.shape) alike.shapes ∙ sym (first-shape e.rows)) in
    by (is_heading_element new) (is_heading_element e) new same
  where
    by : (one other : Bool) (new : ElementOf) → one ≡ other → length (cond one (new ∷ []) []) ≡ length (cond other (e ∷ []) [])
    by true true new same = refl
    by false false new same = refl
    by true false new same = absurd (true≢false same)
    by false true new same = absurd (true≢false (sym same))

pub headings-alike : (elements : List ElementOf) (place : ℕ) (rows : List Row) → AreRowsAlike rows (rows_at elements place) → heading_count (with_rows_at elements place rows) ≡ heading_count elements
headings-alike elements place rows alike =
    sym (sum-headings (with_rows_at elements place rows)) ∙ sum-alike headings_of elements place rows (headings-size rows) alike ∙ sum-headings elements

pub IsBody-rows : (parts : BodyParts) (place : ℕ) (rows : List Row) (elements : List ElementOf) → IsBody parts → AreRowsAlike rows (rows_at parts.elements place) → elements ≡ with_rows_at parts.elements place rows
    → IsBody (record parts { elements = elements })
IsBody-rows parts place rows elements is alike are =
    let P : List ElementOf → Type 0 = λ those. IsBody (record parts { elements = those }) in
    let old = parts.elements in
    subst P (sym are) (record {
      shapes = is.shapes ∙ sym (shapes-alike old place rows alike);
      marks = is.marks ∙ sym (marks-alike old place rows alike);
      keys = is.keys ∙ sym (count-alike old place rows alike);
      row_starts = is.row_starts ∙ sym (starts-alike rows_of 0 old place rows (rows-size rows) alike);
      heading_starts = is.heading_starts ∙ sym (starts-alike headings_of 0 old place rows (headings-size rows) alike);
      rows = is.rows ∙ sym (count-alike old place rows alike);
      headings = is.headings ∙ sym (headings-alike old place rows alike);
    })

-- ---- the element at the place, read and written

pub rows-set : (elements : List ElementOf) (place : ℕ) (e : ElementOf) (rows : List Row) → e ≡ get_or elements place e → set elements place (record { first = e.first; rows = rows }) ≡ with_rows_at elements place rows
rows-set [] place e rows is = refl
rows-set (element ∷ elements) zero e rows is = ap (λ (it : ElementOf). record { first = it.first; rows = rows } ∷ elements) is
rows-set (element ∷ elements) (suc place) e rows is = ap (λ (those : List ElementOf). element ∷ those) (rows-set elements place e rows is)

pub rows-get : (elements : List ElementOf) (place : ℕ) (e : ElementOf) → place < length elements → e ≡ get_or elements place e → e.rows ≡ rows_at elements place
rows-get [] place e inside is = absurd (omega (arith, inside))
rows-get (element ∷ elements) zero e inside is = ap (λ (it : ElementOf). it.rows) is
rows-get (element ∷ elements) (suc place) e inside is = rows-get elements place e (omega (arith, inside)) is
