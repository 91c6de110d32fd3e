-- A page of rows is as high as their shapes tell.
use Rattle.std.proofs.Common.{◌≡◌, ℕ, zero, suc, ◌+◌, ◌-◌, ◌<◌, ◌≤◌, Bool, false, cond, Some, None, List, [], ◌∷◌, map, length, take, drop, get_or, slice_get, inl, inr, refl, sym, ap, ap₂, subst, ◌∙◌, arith, length-take, length-drop, get_or-take, get_or-drop, drop-cons}
use Rattle.std.specs.Prelude.{sum_by, slice_range}
use Rattle.std.proofs.lemmas.Bool.{cases_lt}
use Rattle.std.proofs.lemmas.List.{length-map, take-map, drop-map, get_or-map}
use Rattle.std.proofs.lemmas.List.Sums.{sum_by-cons}
use Rattle.std.proofs.lemmas.Option.{slice_get-get_or, slice_get_past}
use Rattle.spec_text.specs.Lines.{IsText}
use Rattle.spec_script.specs.LongestRuns.{last_of}
use Rattle.spec_pages.specs.declared.Shape.{Shape}
use Rattle.spec_pages.specs.Pages.{carried, height_of}
use Rattle.spec_pages.specs.Pages as pages
use Rattle.spec_pages.specs.OwnPages.{left_open, AreJoined}
use Rattle.spec_pages.specs.Rows.{Row, title_shape}
use Rattle.spec_sheets.specs.Layout.{placed_in}
use Rattle.spec_sheets.specs.Layout as layout
use Rattle.spec_sheets.specs.Shown.{Shown, shape_of, no_row}
use Rattle.spec_sheets.proofs.JoinLaws.{layout-joined}
use Rattle.spec_sheets.proofs.ShownLaws.{shown_rows-shapes}
use Rattle.spec_sheets.proofs.TitleRows.{layout_of-titles}
use Rattle.spec_sheets.specs.PageRows.{lead_of, height_above, height_below, page_height}
use Rattle.spec_state.specs.State.{State, text_of}
use Rattle.spec_state.specs.Headings.{heading_labels}
use Rattle.spec_state.specs.StateSheets.{layout_in, rows_in, titles_in}

-- ---- rows where a speech goes on just where the next row continues it

abbrev one_if : Bool → ℕ
one_if t = cond t 1 0

if-same : (a b : Bool) → a ≡ b → one_if a ≡ one_if b
if-same a b same = ap one_if same

rows-joined : (rows : List Row) → layout.AreJoined rows → AreJoined (map (λ (row : Row). row.shape) rows)
rows-joined rows are q some =
    let f : Row → Shape = λ row. row.shape in
    let size = length-map rows f in
    elim (cases_lt q (length rows)) [
      | inl inside ↦
          ap carried (slice_get-get_or (map f rows) q (f no_row) (omega (arith, inside, size)) ∙ ap Some (get_or-map f rows q no_row (f no_row) inside))
          ∙ if-same _ _ (are.next q no_row some inside)
          ∙ sym (ap left_open (slice_get-get_or (map f rows) (q - 1) (f no_row) (omega (arith, inside, size)) ∙ ap Some (get_or-map f rows (q - 1) no_row (f no_row) (omega (arith, inside)))))
      | inr past ↦
          ap carried (slice_get_past (map f rows) q (omega (arith, past, size)))
          ∙ elim (cases_lt (q - 1) (length rows)) [
            | inl last ↦
                let at : q - 1 ≡ length rows - 1 = omega (arith, past, last, some) in
                sym (ap left_open (slice_get-get_or (map f rows) (q - 1) (f no_row) (omega (arith, last, size)) ∙ ap Some (get_or-map f rows (q - 1) no_row (f no_row) last))
                ∙ ap (λ n. left_open (Some (f (get_or rows n no_row)))) at
                ∙ if-same _ false (are.last no_row (omega (arith, last))))
            | inr beyond ↦ sym (ap left_open (slice_get_past (map f rows) (q - 1) (omega (arith, beyond, size))))
          ]
    ]

pub state-joined : (state : State) → IsText (text_of state) → AreJoined (map shape_of (rows_in state))
state-joined state is =
    subst AreJoined (sym (shown_rows-shapes state.lines (heading_labels state.lines state.scenes) (layout_in state).body))
    (rows-joined (placed_in (layout_in state).body) (layout-joined state.speakers (text_of state) is))

-- On title pages no speech does either.
pub titles-joined : (state : State) → IsText (text_of state) → AreJoined (map shape_of (titles_in state))
titles-joined state is =
    subst AreJoined (sym (shown_rows-shapes state.lines None (layout_in state).titles)) (λ q some. flat q ∙ sym (low (q - 1)))
  where
    rows : List Row
    rows = placed_in (layout_in state).titles

    f : Row → Shape
    f row = row.shape

    at : (k : ℕ) → k < length rows → slice_get (map f rows) k ≡ Some (title_shape (f (get_or rows k no_row)))
    at k inside =
        let size = length-map rows f in
        slice_get-get_or (map f rows) k (f no_row) (omega (arith, inside, size)) ∙ ap Some (get_or-map f rows k no_row (f no_row) inside ∙ (layout_of-titles state.speakers (text_of state) is k no_row inside).shape)

    flat : (k : ℕ) → carried (slice_get (map f rows) k) ≡ 0
    flat k = elim (cases_lt k (length rows)) [
      | inl inside ↦ ap carried (at k inside)
      | inr past ↦ ap carried (slice_get_past (map f rows) k (let size = length-map rows f in omega (arith, past, size)))
    ]

    low : (k : ℕ) → left_open (slice_get (map f rows) k) ≡ 0
    low k = elim (cases_lt k (length rows)) [
      | inl inside ↦ ap left_open (at k inside)
      | inr past ↦ ap left_open (slice_get_past (map f rows) k (let size = length-map rows f in omega (arith, past, size)))
    ]

-- ---- the height of some of the rows

sum-shapes : (rows : List Shown) → sum_by lead_of rows ≡ sum_by pages.lead_of (map shape_of rows)
sum-shapes [] = refl
sum-shapes (it ∷ rows) =
    let a = sum_by-cons lead_of it rows in
    let b = sum_by-cons pages.lead_of (shape_of it) (map shape_of rows) in
    let rest = sum-shapes rows in
    omega (arith, a, b, rest)

last-at : (it : Shown) (more : List Shown) → last_of it more ≡ get_or (it ∷ more) (length more) it
last-at it [] = refl
last-at it (next ∷ more) = last-at next more ∙ default more next it
  where
    default : (xs : List Shown) (x d : Shown) → get_or (x ∷ xs) (length xs) x ≡ get_or (x ∷ xs) (length xs) d
    default [] x d = refl
    default (y ∷ xs) x d = other xs y x d
      where
        other : (ys : List Shown) (y x d : Shown) → get_or (y ∷ ys) (length ys) x ≡ get_or (y ∷ ys) (length ys) d
        other [] y x d = refl
        other (z ∷ ys) y x d = other ys z x d

-- A page from row p to before row q.
pub slice-height : (rows : List Shown) (p q : ℕ) → AreJoined (map shape_of rows) → p < q → q ≤ length rows → page_height (slice_range rows p q) ≡ height_of (map shape_of rows) p q
slice-height rows p q joined some inside = ap page_height cut ∙ height
  where
    shapes : List Shape
    shapes = map shape_of rows

    none : Shown
    none = record { key = record { line = 0; row = 0 }; shape = shape_none; mark = 0; cells = []; bare = []; cue = [] }
      where
        shape_none : Shape
        shape_none = no_row.shape

    x : Shown
    x = get_or rows p none

    more : List Shown
    more = take (q - suc p) (drop (suc p) rows)

    cut : slice_range rows p q ≡ x ∷ more
    cut =
        let count : q - p ≡ suc (q - suc p) = omega (arith, some) in
        ap₂ (λ n (l : List Shown). take n l) count (drop-cons rows p none (omega (arith, some, inside)))

    size : length more ≡ q - suc p
    size = omega (arith, length-take (q - suc p) (drop (suc p) rows), length-drop (suc p) rows, inside)

    leads : sum_by lead_of more ≡ sum_by pages.lead_of (slice_range shapes (p + 1) q)
    leads =
        let next : suc p ≡ p + 1 = omega arith in
        sum-shapes more
        ∙ ap (sum_by pages.lead_of) (sym (take-map shape_of (q - suc p) (drop (suc p) rows)) ∙ ap (take (q - suc p)) (sym (drop-map shape_of (suc p) rows)) ∙ ap (λ n. slice_range shapes n q) next)

    at : (k : ℕ) → k < length rows → slice_get shapes k ≡ Some (shape_of (get_or rows k none))
    at k low = let many = length-map rows shape_of in slice_get-get_or shapes k (shape_of none) (omega (arith, low, many)) ∙ ap Some (get_or-map shape_of rows k none (shape_of none) low)

    last : last_of x more ≡ get_or rows (q - 1) x
    last =
        let back : p + (q - suc p) ≡ q - 1 = omega (arith, some) in
        last-at x more
        ∙ ap₂ (λ (l : List Shown) n. get_or l n x) (sym cut) size
        ∙ get_or-take (q - p) (drop p rows) (q - suc p) x (omega (arith, some))
        ∙ get_or-drop p rows (q - suc p) x
        ∙ ap (λ n. get_or rows n x) back

    above : height_above x ≡ carried (slice_get shapes p)
    above = sym (ap carried (at p (omega (arith, some, inside))))

    below : height_below (last_of x more) ≡ carried (slice_get shapes q)
    below =
        ap height_below (last ∙ default (q - 1) (omega (arith, some, inside)))
        ∙ sym (ap left_open (at (q - 1) (omega (arith, some, inside)))) ∙ sym (joined q (omega (arith, some)))
      where
        default : (k : ℕ) → k < length rows → get_or rows k x ≡ get_or rows k none
        default k low = same rows k low
          where
            same : (l : List Shown) (i : ℕ) → i < length l → get_or l i x ≡ get_or l i none
            same [] i h = absurd (omega (arith, h))
            same (y ∷ l) zero h = refl
            same (y ∷ l) (suc i) h = same l i (omega (arith, h))

    height : page_height (x ∷ more) ≡ height_of shapes p q
    height = omega (arith, size, leads, above, below, some)
