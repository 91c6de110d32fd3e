-- Rows, compared one by one.
use Rattle.std.proofs.Common.{◌≡◌, ◌≢◌, ℕ, zero, suc, ◌+◌, ◌-◌, ◌<◌, ◌≤◌, Bool, true, false, Option, List, [], ◌∷◌, ◌++◌, length, map, take, drop, get_or, refl, sym, ap, ap₂, ◌∙◌, arith, length-drop}
use Rattle.std.specs.Prelude.{◌&&◌, nat_eq, slice_range}
use Rattle.std.proofs.Math.Bool.{and_assoc}
use Rattle.std.proofs.lemmas.Bool.{and_left}
use Rattle.spec_script.proofs.FirstMarks.{and-true}
use Rattle.std.proofs.lemmas.List.{drop_more, get_or-map, length-map, length-take, map-append}
use Rattle.spec_text.specs.Lines.{LineState, line_texts}
use Rattle.spec_pages.specs.Rows.{Row, ElementOf, placed_rows, shifted_row}
use Rattle.spec_labels.specs.declared.RowKey.{RowKey}
use Rattle.spec_labels.specs.Labels.{LabelOf}
use Rattle.spec_sheets.specs.Cells.{ShownCell}
use Rattle.spec_sheets.specs.Layout.{placed_in}
use Rattle.spec_sheets.specs.Shown.{element_cue, heading_label, labels_behind, row_key, shown_of, shown_rows}
use Rattle.spec_state.specs.SameRows.{BareRow, bare_of, same_cells, same_key, same_list, same_row, same_shape}
use Rattle.spec_state.proofs.SameLaws.{list-itself}
use Rattle.sp_gap.proofs.RunLaws.{slice-parts}
use Rattle.sp_layout.specs.Bodies.{KeyedElements, row_count}
use Rattle.sp_compare.specs.BareRows.{AreLaid, bare_cells, bare_row, bare_rows}

-- ---- rows, as an edit sees them

own-bare : (lines : List LineState) (cue : List ShownCell) (label : Option LabelOf) (rows : List Row) → map bare_of (map (shown_of lines cue label) rows) ≡ map (bare_row lines) rows
own-bare lines cue label [] = refl
own-bare lines cue label (row ∷ rows) = ap (λ (those : List BareRow). bare_row lines row ∷ those) (own-bare lines cue label rows)

-- Labels don't matter.
pub shown-bare : (lines : List LineState) (labels : Option (List LabelOf)) (elements : List ElementOf) → map bare_of (shown_rows lines labels elements) ≡ map (bare_row lines) (placed_in elements)
shown-bare lines labels [] = refl
shown-bare lines labels (element ∷ elements) =
    let label = heading_label labels element in
    let rows = placed_rows element in
    let cue = element_cue (line_texts lines) rows in
    map-append bare_of (map (shown_of lines cue label) rows) (shown_rows lines (labels_behind labels element) elements)
    ∙ ap₂ (λ (xs ys : List BareRow). xs ++ ys) (own-bare lines cue label rows) (shown-bare lines (labels_behind labels element) elements)
    ∙ sym (map-append (bare_row lines) rows (placed_in elements))

map-take : {X Y : Type 0} (f : X → Y) (n : ℕ) (xs : List X) → map f (take n xs) ≡ take n (map f xs)
map-take f zero xs = refl
map-take f (suc n) [] = refl
map-take {Y = Y} f (suc n) (x ∷ xs) = ap (λ (ys : List Y). f x ∷ ys) (map-take f n xs)

map-drop : {X Y : Type 0} (f : X → Y) (n : ℕ) (xs : List X) → map f (drop n xs) ≡ drop n (map f xs)
map-drop f zero xs = refl
map-drop f (suc n) [] = refl
map-drop f (suc n) (x ∷ xs) = map-drop f n xs

pub map-slice : {X Y : Type 0} (f : X → Y) (xs : List X) (from to : ℕ) → map f (slice_range xs from to) ≡ slice_range (map f xs) from to
map-slice f xs from to = map-take f (to - from) (drop from xs) ∙ ap (take (to - from)) (map-drop f from xs)

pub slice-bare : (lines : List LineState) (labels : Option (List LabelOf)) (elements : List ElementOf) (from to : ℕ)
    → map bare_of (slice_range (shown_rows lines labels elements) from to) ≡ bare_rows lines elements from to
slice-bare lines labels elements from to =
    map-slice bare_of (shown_rows lines labels elements) from to
    ∙ ap (λ (rows : List BareRow). slice_range rows from to) (shown-bare lines labels elements)
    ∙ sym (map-slice (bare_row lines) (placed_in elements) from to)

-- ---- one by one

pub list-differ : (xs ys : List BareRow) → length xs ≢ length ys → same_list xs ys ≡ false
list-differ [] [] ne = absurd (ne refl)
list-differ [] (y ∷ ys) ne = refl
list-differ (x ∷ xs) [] ne = refl
list-differ (x ∷ xs) (y ∷ ys) ne = ap (λ b. same_row x y && b) (list-differ xs ys (λ e. ne (ap suc e))) ∙ and-false (same_row x y)
  where
    and-false : (b : Bool) → (b && false) ≡ false
    and-false true = refl
    and-false false = refl

slice-size : {X : Type 0} (xs : List X) (from to : ℕ) → from ≤ to → to ≤ length xs → length (slice_range xs from to) ≡ to - from
slice-size xs from to order within =
    let a = length-take (to - from) (drop from xs) in
    let b = length-drop from xs in
    omega (arith, a, b, order, within)

pub length-bare : (lines : List LineState) (elements : List ElementOf) (from to : ℕ) → from ≤ to → to ≤ length (placed_in elements) → length (bare_rows lines elements from to) ≡ to - from
length-bare lines elements from to order within =
    length-map (slice_range (placed_in elements) from to) (bare_row lines) ∙ slice-size (placed_in elements) from to order within

slice-more : {X : Type 0} (xs : List X) (from to : ℕ) (d : X) → from < to → to ≤ length xs → slice_range xs from to ≡ get_or xs from d ∷ slice_range xs (from + 1) to
slice-more {X = X} xs from to d order within =
    let e : to - from ≡ suc (to - (from + 1)) = omega (arith, order) in
    ap (λ n. take n (drop from xs)) e ∙ ap (take (suc (to - (from + 1)))) (drop_more xs from d (omega (arith, order, within)))

pub rows-step : (old new : List LineState) (olds news : List ElementOf) (from to start end : ℕ) (d : Row) → from < to → to ≤ length (placed_in olds) → start < end → end ≤ length (placed_in news)
    → same_list (bare_rows old olds from to) (bare_rows new news start end)
    ≡ (same_row (bare_row old (get_or (placed_in olds) from d)) (bare_row new (get_or (placed_in news) start d)) && same_list (bare_rows old olds (from + 1) to) (bare_rows new news (start + 1) end))
rows-step old new olds news from to start end d order within order' within' =
    ap₂ (λ (xs ys : List Row). same_list (map (bare_row old) xs) (map (bare_row new) ys)) (slice-more (placed_in olds) from to d order within) (slice-more (placed_in news) start end d order' within')

-- Rows in three parts, of which the first and the last are the same.
list-append : (one other ones others : List BareRow) → length one ≡ length other → same_list (one ++ ones) (other ++ others) ≡ (same_list one other && same_list ones others)
list-append [] [] ones others size = refl
list-append [] (y ∷ other) ones others size = absurd (omega (arith, size))
list-append (x ∷ one) [] ones others size = absurd (omega (arith, size))
list-append (x ∷ one) (y ∷ other) ones others size =
    ap (λ (b : Bool). same_row x y && b) (list-append one other ones others (omega (arith, size))) ∙ sym (and_assoc (same_row x y) (same_list one other) (same_list ones others))

list-between : (front one other back : List BareRow) → length one ≡ length other → same_list (front ++ (one ++ back)) (front ++ (other ++ back)) ≡ same_list one other
list-between front one other back size =
    list-append front front (one ++ back) (other ++ back) refl ∙ ap (λ (b : Bool). b && same_list (one ++ back) (other ++ back)) (list-itself front)
    ∙ list-append one other back back size ∙ ap (λ (b : Bool). same_list one other && b) (list-itself back) ∙ and-true (same_list one other)

rows-three : (lines : List LineState) (elements : List ElementOf) (from first last to : ℕ) → from ≤ first → first ≤ last → last ≤ to
    → bare_rows lines elements from to ≡ bare_rows lines elements from first ++ (bare_rows lines elements first last ++ bare_rows lines elements last to)
rows-three lines elements from first last to low order high =
    let rows = placed_in elements in
    ap (map (bare_row lines)) (sym (slice-parts rows from first to low (omega (arith, order, high))) ∙ ap (λ (those : List Row). slice_range rows from first ++ those) (sym (slice-parts rows first last to order high)))
    ∙ map-append (bare_row lines) (slice_range rows from first) (slice_range rows first last ++ slice_range rows last to)
    ∙ ap (λ (those : List BareRow). bare_rows lines elements from first ++ those) (map-append (bare_row lines) (slice_range rows first last) (slice_range rows last to))

-- Only the second part has to be compared.
pub rows-between : (old new : List LineState) (olds news : List ElementOf) (from start count first last : ℕ) → first ≤ last → last ≤ count → from + count ≤ row_count olds → start + count ≤ row_count news
    → bare_rows old olds from (from + first) ≡ bare_rows new news start (start + first) → bare_rows old olds (from + last) (from + count) ≡ bare_rows new news (start + last) (start + count)
    → same_list (bare_rows old olds from (from + count)) (bare_rows new news start (start + count)) ≡ same_list (bare_rows old olds (from + first) (from + last)) (bare_rows new news (start + first) (start + last))
rows-between old new olds news from start count first last order high within within' front back =
    let one = bare_rows old olds (from + first) (from + last) in
    let other = bare_rows new news (start + first) (start + last) in
    let ahead = bare_rows new news start (start + first) in
    let rest = bare_rows new news (start + last) (start + count) in
    let size : length one ≡ length other = omega (
      arith,
      order,
      length-bare old olds (from + first) (from + last) (omega (arith, order)) (omega (arith, high, within)),
      length-bare new news (start + first) (start + last) (omega (arith, order)) (omega (arith, high, within')),
    ) in
    ap₂ same_list
    (rows-three old olds from (from + first) (from + last) (from + count) (omega arith) (omega (arith, order)) (omega (arith, high)) ∙ ap₂ (λ (xs ys : List BareRow). xs ++ (one ++ ys)) front back)
    (rows-three new news start (start + first) (start + last) (start + count) (omega arith) (omega (arith, order)) (omega (arith, high)))
    ∙ list-between ahead one other rest size

-- ---- a row, by what stands of it in its element

pub bare-at : (lines : List LineState) (body : KeyedElements) (row first : ℕ) (it : Row) (key : RowKey) (d : Row) → AreLaid lines body → row < row_count body.elements
    → get_or (placed_in body.elements) row d ≡ shifted_row first it → ((e : RowKey) → get_or body.keys row e ≡ key)
    → bare_row lines (get_or (placed_in body.elements) row d) ≡ (let bare : BareRow = record { key = key; shape = it.shape; mark = it.mark; cells = bare_cells (line_texts lines) first it.cells } in bare)
bare-at lines body row first it key d laid inside there keyed =
    let own : row_key lines (shifted_row first it) ≡ key =
    ap (row_key lines) (sym there) ∙ sym (get_or-map (row_key lines) (placed_in body.elements) row d (row_key lines d) inside)
    ∙ ap (λ (keys : List RowKey). get_or keys row (row_key lines d)) (sym laid.keys) ∙ keyed (row_key lines d) in
    ap (bare_row lines) there
    ∙ ap (λ (k : RowKey). let bare : BareRow = record { key = k; shape = it.shape; mark = it.mark; cells = bare_cells (line_texts lines) first it.cells } in bare) own

pub other-key : (one other : BareRow) → same_key one.key other.key ≡ false → same_row one other ≡ false
other-key one other differ = and_left (same_key one.key other.key) (same_shape one.shape other.shape && (nat_eq one.mark other.mark && same_cells one.cells other.cells)) differ

pub by-cells : (one other : BareRow) → same_key one.key other.key ≡ true → same_shape one.shape other.shape ≡ true → nat_eq one.mark other.mark ≡ true → same_row one other ≡ same_cells one.cells other.cells
by-cells one other key shape mark =
    ap (λ (b : Bool). b && (same_shape one.shape other.shape && (nat_eq one.mark other.mark && same_cells one.cells other.cells))) key
    ∙ ap (λ (b : Bool). b && (nat_eq one.mark other.mark && same_cells one.cells other.cells)) shape
    ∙ ap (λ (b : Bool). b && same_cells one.cells other.cells) mark
