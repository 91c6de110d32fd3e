-- What rows of elements show: part by part, and from the elements of a page alone.
use Rattle.std.proofs.Common.{◌≡◌, ℕ, suc, ◌+◌, ◌-◌, ◌≤◌, Bool, true, false, cond, Option, Some, None, List, [], ◌∷◌, ◌++◌, length, map, filter, take, drop, slice_range, refl, sym, ap, ap₂, ◌∙◌, arith, append_assoc, length-drop, drop-drop}
use Rattle.std.proofs.lemmas.List.{map-append, length-map, take-append-le, drop-append-le, drop_at}
use Rattle.spec_text.specs.Lines.{LineState, line_texts}
use Rattle.spec_pages.specs.Rows.{Row, ElementOf, placed_rows}
use Rattle.spec_labels.specs.Labels.{LabelOf}
use Rattle.spec_sheets.specs.Cells.{ShownCell}
use Rattle.spec_sheets.specs.Layout.{placed_in}
use Rattle.spec_sheets.specs.Shown.{Shown, element_cue, shown_of, element_shown, is_heading_element, heading_label, labels_behind, shown_rows, shape_of, key_of, mark_of, row_key, heading_count, labels_past}

-- The labels behind elements that are followed by others.
labels_past-next : (labels : Option (List LabelOf)) (element : ElementOf) (elements : List ElementOf)
    → labels_past (heading_count elements) (labels_behind labels element) ≡ labels_past (heading_count (element ∷ elements)) labels
labels_past-next None element elements = refl
labels_past-next (Some labels) element elements = by (is_heading_element element)
  where
    by : (t : Bool) → Some (drop (length (filter is_heading_element elements)) (cond t (drop 1 labels) labels))
        ≡ Some (drop (length (cond t (element ∷ filter is_heading_element elements) (filter is_heading_element elements))) labels)
    by true =
        let n = length (filter is_heading_element elements) in
        let next : 1 + n ≡ suc n = omega arith in
        ap Some (drop-drop n 1 labels) ∙ ap (λ m. Some (drop m labels)) next
    by false = refl

-- The rows of elements, and those of the elements behind them.
pub shown_rows-append : (lines : List LineState) (labels : Option (List LabelOf)) (elements others : List ElementOf)
    → shown_rows lines labels (elements ++ others) ≡ shown_rows lines labels elements ++ shown_rows lines (labels_past (heading_count elements) labels) others
shown_rows-append lines None [] others = refl
shown_rows-append lines (Some labels) [] others = refl
shown_rows-append lines labels (element ∷ elements) others =
    let own = element_shown lines (heading_label labels element) element in
    let behind = labels_behind labels element in
    ap (λ (rows : List Shown). own ++ rows)
    (shown_rows-append lines behind elements others ∙ ap (λ past. shown_rows lines behind elements ++ shown_rows lines past others) (labels_past-next labels element elements))
    ∙ sym (append_assoc own (shown_rows lines behind elements) (shown_rows lines (labels_past (heading_count (element ∷ elements)) labels) others))

-- What of a row depends on no label.
own-map : {X : Type 0} (f : Shown → X) (g : Row → X) (lines : List LineState) (cue : List ShownCell) (label : Option LabelOf) (rows : List Row)
    → ((row : Row) → f (shown_of lines cue label row) ≡ g row) → map f (map (shown_of lines cue label) rows) ≡ map g rows
own-map f g lines cue label [] same = refl
own-map {X} f g lines cue label (row ∷ rows) same = ap₂ (λ (x : X) (xs : List X). x ∷ xs) (same row) (own-map f g lines cue label rows same)

shown_rows-map : {X : Type 0} (f : Shown → X) (g : Row → X) (lines : List LineState) (labels : Option (List LabelOf)) (elements : List ElementOf)
    → ((cue : List ShownCell) (label : Option LabelOf) (row : Row) → f (shown_of lines cue label row) ≡ g row)
    → map f (shown_rows lines labels elements) ≡ map g (placed_in elements)
shown_rows-map f g lines labels [] same = refl
shown_rows-map {X} f g lines labels (element ∷ elements) same =
    let label = heading_label labels element in
    let rows = placed_rows element in
    let cue = element_cue (line_texts lines) rows in
    map-append f (map (shown_of lines cue label) rows) (shown_rows lines (labels_behind labels element) elements)
    ∙ ap₂ (λ (xs ys : List X). xs ++ ys) (own-map f g lines cue label rows (same cue label)) (shown_rows-map f g lines (labels_behind labels element) elements same)
    ∙ sym (map-append g rows (placed_in elements))

-- The shapes, marks and keys of rows.
pub shown_rows-shapes : (lines : List LineState) (labels : Option (List LabelOf)) (elements : List ElementOf)
    → map shape_of (shown_rows lines labels elements) ≡ map (λ (row : Row). row.shape) (placed_in elements)
shown_rows-shapes lines labels elements = shown_rows-map shape_of (λ row. row.shape) lines labels elements (λ cue label row. refl)

pub shown_rows-marks : (lines : List LineState) (labels : Option (List LabelOf)) (elements : List ElementOf)
    → map mark_of (shown_rows lines labels elements) ≡ map (λ (row : Row). row.mark) (placed_in elements)
shown_rows-marks lines labels elements = shown_rows-map mark_of (λ row. row.mark) lines labels elements (λ cue label row. refl)

pub shown_rows-keys : (lines : List LineState) (labels : Option (List LabelOf)) (elements : List ElementOf)
    → map key_of (shown_rows lines labels elements) ≡ map (row_key lines) (placed_in elements)
shown_rows-keys lines labels elements = shown_rows-map key_of (row_key lines) lines labels elements (λ cue label row. refl)

-- As many as the elements have.
pub length-shown_rows : (lines : List LineState) (labels : Option (List LabelOf)) (elements : List ElementOf) → length (shown_rows lines labels elements) ≡ length (placed_in elements)
length-shown_rows lines labels elements =
    let all = shown_rows lines labels elements in
    sym (length-map all shape_of) ∙ ap length (shown_rows-shapes lines labels elements) ∙ length-map (placed_in elements) (λ (row : Row). row.shape)

-- A part of a list that lies in the middle one of three.
slice-middle : {X : Type 0} (front own back : List X) (from to : ℕ) → from ≤ to → to ≤ length own
    → slice_range (front ++ (own ++ back)) (length front + from) (length front + to) ≡ slice_range own from to
slice-middle front own back from to order within =
    let size : (length front + to) - (length front + from) ≡ to - from = omega (arith, order) in
    let left = length-drop from own in
    ap (λ n. take n (drop (length front + from) (front ++ (own ++ back)))) size
    ∙ ap (take (to - from))
    (sym (drop-drop from (length front) (front ++ (own ++ back))) ∙ ap (drop from) (drop_at front (own ++ back) (length front) refl) ∙ drop-append-le from own back (omega (arith, order, within)))
    ∙ take-append-le (to - from) (drop from own) back (omega (arith, left, within))

-- What rows of a page show is told by the elements that they stand in, and by how many headings stand before those.
pub shown_rows-slice : (lines : List LineState) (labels : Option (List LabelOf)) (front own back : List ElementOf) (from to : ℕ) → from ≤ to → to ≤ length (placed_in own)
    → slice_range (shown_rows lines labels (front ++ (own ++ back))) (length (placed_in front) + from) (length (placed_in front) + to)
    ≡ slice_range (shown_rows lines (labels_past (heading_count front) labels) own) from to
shown_rows-slice lines labels front own back from to order within =
    let left = labels_past (heading_count front) labels in
    let before = shown_rows lines labels front in
    let middle = shown_rows lines left own in
    let behind = shown_rows lines (labels_past (heading_count own) left) back in
    let split : shown_rows lines labels (front ++ (own ++ back)) ≡ before ++ (middle ++ behind) =
    shown_rows-append lines labels front (own ++ back) ∙ ap (λ (rows : List Shown). before ++ rows) (shown_rows-append lines left own back) in
    let count = length-shown_rows lines labels front in
    let size = length-shown_rows lines left own in
    ap₂ (λ (rows : List Shown) n. slice_range rows (n + from) (n + to)) split (sym count) ∙ slice-middle before middle behind from to order (omega (arith, size, within))
