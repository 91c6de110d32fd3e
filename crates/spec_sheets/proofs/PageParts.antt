-- Each part of each cell of a page is a part of a line, a fixed text or a label.
use Rattle.std.proofs.Common.{◌≡◌, ℕ, suc, ◌+◌, ◌-◌, Bool, true, false, cond, Option, Some, None, List, [], ◌∷◌, map, drop, get_or, inl, inr, refl, lit<, arith}
use Rattle.std.specs.Prelude.{All, Contains, codes, replicate, unwrap_or, slice_get, slice_range}
use Rattle.std.specs.List.{flat_map, prefix_len}
use Rattle.std.proofs.lemmas.List.Elements.{All-nil, All-cons, All-head, All-tail, All-append, All-map, All-take, All-drop, All-filter, All-replicate}
use Rattle.spec_text.specs.Lines.{LineState, line_texts}
use Rattle.spec_text.proofs.ListLaws.{All-front, All-back}
use Rattle.spec_script.specs.LongestRuns.{last_of}
use Rattle.spec_script.proofs.RunPlaces.{run-lies}
use Rattle.spec_pages.specs.Pages.{continues_speech}
use Rattle.spec_pages.specs.Rows.{Cell, Row, ElementOf, placed_rows, number_before, number_behind}
use Rattle.spec_labels.specs.Labels.{LabelOf}
use Rattle.spec_sheets.specs.Cells.{ShownPart, ShownCell, text_at, shown_part, shown_cell, fixed_cell, continued, label_cell, without_numbers, shown_cells, with_continued, cells_end, ShowsParts, RowShows}
use Rattle.spec_sheets.specs.Layout.{placed_in}
use Rattle.spec_sheets.specs.Shown.{Shown, cue_rows, repeated_cells, element_cue, opens_heading, row_label, shown_of, element_shown, is_heading_element, heading_label, labels_behind, shown_rows}
use Rattle.spec_sheets.specs.RowBytes.{ShownRow}
use Rattle.spec_sheets.specs.PageRows.{empty_row, starred, led, cue_above, more_row, goes_on, more_below, omitted_rows, page_body}
use Rattle.spec_sheets.specs.PageTexts.{IsGiven, CellGiven, RowGiven, fixed_texts}

-- All that is shown of a row is given.
pub record ShownGiven (texts : List (List ℕ)) (labels : List LabelOf) (it : Shown) : Type 0 where
  pub cells : All (CellGiven texts labels) it.cells
  pub cue : All (CellGiven texts labels) it.cue

module _ (texts : List (List ℕ)) (labels : List LabelOf) where
  one-part : (column : ℕ) (bytes : List ℕ) → Contains fixed_texts bytes → CellGiven texts labels (fixed_cell column bytes)
  one-part column bytes is =
      let Given : ShownPart → Type 0 = λ (part : ShownPart). IsGiven texts labels part.text in
      record { parts = All-cons Given _ [] (inr is) (All-nil Given) }

  continued-given : (column : ℕ) → CellGiven texts labels (fixed_cell column continued)
  continued-given column = one-part column continued (1, lit< tt, refl)

  -- A cell of a row.
  cell-if : (cell : Cell) (fixed : Bool) → ShowsParts texts cell
      → CellGiven texts labels (cond fixed (fixed_cell cell.column continued) (record { column = cell.column; parts = map (shown_part (text_at texts cell.line)) cell.runs }))
  cell-if cell true shows = continued-given cell.column
  cell-if cell false shows =
      let text = text_at texts cell.line in
      let Given : ShownPart → Type 0 = λ (part : ShownPart). IsGiven texts labels part.text in
      record {
        parts = All-map Given (shown_part text) cell.runs (λ k d inside. inl (record {
          line = cell.line;
          run = get_or cell.runs k d;
          there = shows.place;
          lies = run-lies text 0 cell.runs k d shows.parts inside;
          is = refl;
        }));
      }

  cells-given : (cells : List Cell) → All (ShowsParts texts) cells → All (CellGiven texts labels) (map (shown_cell texts) cells)
  cells-given cells all = All-map (CellGiven texts labels) (shown_cell texts) cells (λ k d inside. let cell = get_or cells k d in cell-if cell cell.fixed (all k d inside))

  -- The cells of a row beside a label, which is one of the labels.
  label-given : (column : ℕ) (it : LabelOf) → Contains labels it → CellGiven texts labels (label_cell column it)
  label-given column it is =
      let Given : ShownPart → Type 0 = λ (part : ShownPart). IsGiven texts labels part.text in
      record { parts = All-cons Given _ [] is (All-nil Given) }

  row-given : (label : Option LabelOf) (row : Row) → ((it : LabelOf) → label ≡ Some it → Contains labels it) → RowShows texts row → All (CellGiven texts labels) (shown_cells texts label row)
  row-given None row known shows = cells-given row.cells shows.cells
  row-given (Some it) row known shows =
      let Given = CellGiven texts labels in
      let is = known it refl in
      let kept = without_numbers row.cells in
      let inner = cells-given kept (All-filter _ (ShowsParts texts) row.cells shows.cells) in
      All-cons Given (label_cell number_before it) _ (label-given number_before it is)
      (All-append Given (map (shown_cell texts) kept) (label_cell number_behind it ∷ []) inner
      (All-cons Given (label_cell number_behind it) [] (label-given number_behind it is) (All-nil Given)))

  -- A cue that stands again.
  cue-if : (t : Bool) (cells : List ShownCell) → All (CellGiven texts labels) cells → All (CellGiven texts labels) (cond t cells (with_continued cells))
  cue-if true cells all = all
  cue-if false cells all =
      let Given = CellGiven texts labels in
      let column = cells_end cells + 1 in
      All-append Given cells (fixed_cell column continued ∷ []) all (All-cons Given (fixed_cell column continued) [] (continued-given column) (All-nil Given))

  cue-given : (rows : List Row) → All (RowShows texts) rows → All (CellGiven texts labels) (repeated_cells texts rows)
  cue-given [] all = All-nil (CellGiven texts labels)
  cue-given (row ∷ later) all =
      let here = All-head (RowShows texts) row later all in
      cue-if _ (map (shown_cell texts) row.cells) (cells-given row.cells here.cells)

  -- ---- the rows of a page

  star-given : (round : ℕ) (it : Shown) → ShownGiven texts labels it → RowGiven texts labels (starred round it)
  star-given round it given = record { cells = given.cells }

  empty-given : RowGiven texts labels empty_row
  empty-given = record { cells = All-nil (CellGiven texts labels) }

  all-led-given : (round : ℕ) (rows : List Shown) → All (ShownGiven texts labels) rows → All (RowGiven texts labels) (flat_map (led round) rows)
  all-led-given round [] all = All-nil (RowGiven texts labels)
  all-led-given round (it ∷ rows) all =
      let Given = RowGiven texts labels in
      let here = All-head (ShownGiven texts labels) it rows all in
      let later = all-led-given round rows (All-tail (ShownGiven texts labels) it rows all) in
      All-append Given (led round it) (flat_map (led round) rows)
      (All-append Given (replicate it.shape.lead empty_row) (starred round it ∷ []) (All-replicate Given it.shape.lead empty_row empty-given)
      (All-cons Given (starred round it) [] (star-given round it here) (All-nil Given))) later

  one-row : (t : Bool) (row : ShownRow) → RowGiven texts labels row → All (RowGiven texts labels) (cond t (row ∷ []) [])
  one-row true row given = All-cons (RowGiven texts labels) row [] given (All-nil (RowGiven texts labels))
  one-row false row given = All-nil (RowGiven texts labels)

  more-given : RowGiven texts labels more_row
  more-given = record { cells = All-cons (CellGiven texts labels) _ [] (one-part 37 (codes "(MORE)") (0, lit< tt, refl)) (All-nil (CellGiven texts labels)) }

  -- Each part of a page of given rows.
  pub page-given : (round : ℕ) (rows : List Shown) → All (ShownGiven texts labels) rows → All (RowGiven texts labels) (page_body round rows)
  page-given round [] all = All-nil (RowGiven texts labels)
  page-given round (it ∷ more) all =
      let Given = RowGiven texts labels in
      let here = All-head (ShownGiven texts labels) it more all in
      let later = all-led-given round more (All-tail (ShownGiven texts labels) it more all) in
      let below = one-row (goes_on (last_of it more).shape) more_row more-given in
      let cue : ShownRow = record { cells = it.cue; star = false } in
      let above = one-row (continues_speech it.shape) cue (record { cells = here.cue }) in
      All-append Given (cue_above it) _ above
      (All-cons Given (starred round it) _ (star-given round it here) (All-append Given (flat_map (led round) more) (more_below (last_of it more)) later below))

-- ---- rows of elements

-- Each of some labels is one of these.
pub record AreAmong (labels : List LabelOf) (some : Option (List LabelOf)) : Type 0 where
  pub among : (it : LabelOf) → Contains (unwrap_or some []) it → Contains labels it

contains-behind : {X : Type 0} (xs : List X) (x : X) → Contains (drop 1 xs) x → Contains xs x
contains-behind [] x (k, inside, is) = absurd (omega (arith, inside))
contains-behind (y ∷ xs) x (k, inside, is) = (suc k, omega (arith, inside), is)

contains-first : {X : Type 0} (xs : List X) (x : X) → slice_get xs 0 ≡ Some x → Contains xs x
contains-first [] x found = absurd (let e : None ≡ Some x = found in cc)
contains-first (y ∷ xs) x found = (0, omega arith, let e : Some y ≡ Some x = found in cc)

-- The labels behind an element, and its own one.
behind-among : (labels : List LabelOf) (some : Option (List LabelOf)) (element : ElementOf) → AreAmong labels some → AreAmong labels (labels_behind some element)
behind-among labels None element all = all
behind-among labels (Some those) element all = by (is_heading_element element)
  where
    by : (t : Bool) → AreAmong labels (Some (cond t (drop 1 those) those))
    by true = record { among = λ it is. all.among it (contains-behind those it is) }
    by false = all

own-among : (labels : List LabelOf) (some : Option (List LabelOf)) (element : ElementOf) → AreAmong labels some → (it : LabelOf) → heading_label some element ≡ Some it → Contains labels it
own-among labels None element all it is = absurd (let e : None ≡ Some it = is in cc)
own-among labels (Some those) element all it is = by (is_heading_element element) is
  where
    by : (t : Bool) → cond t (slice_get those 0) None ≡ Some it → Contains labels it
    by true found = all.among it (contains-first those it found)
    by false found = absurd (let e : None ≡ Some it = found in cc)

-- A row's label is that of its element.
row-among : (labels : List LabelOf) (label : Option LabelOf) (row : Row) → ((it : LabelOf) → label ≡ Some it → Contains labels it) → (it : LabelOf) → row_label label row ≡ Some it → Contains labels it
row-among labels label row known it is = by (opens_heading row) is
  where
    by : (t : Bool) → cond t label None ≡ Some it → Contains labels it
    by true found = known it found
    by false found = absurd (let e : None ≡ Some it = found in cc)

element-given : (lines : List LineState) (labels : List LabelOf) (label : Option LabelOf) (element : ElementOf) → ((it : LabelOf) → label ≡ Some it → Contains labels it)
    → All (RowShows (line_texts lines)) (placed_rows element) → All (ShownGiven (line_texts lines) labels) (element_shown lines label element)
element-given lines labels label element known all =
    let texts = line_texts lines in
    let rows = placed_rows element in
    let cue = element_cue texts rows in
    let standing = cue-given texts labels (cue_rows rows) (All-take (RowShows texts) (prefix_len _ rows) rows all) in
    All-map (ShownGiven texts labels) (shown_of lines cue label) rows (λ k d inside. (
    let row = get_or rows k d in
    record { cells = row-given texts labels (row_label label row) row (row-among labels label row known) (all k d inside); cue = standing }))

rows-given : (lines : List LineState) (labels : List LabelOf) (some : Option (List LabelOf)) (elements : List ElementOf) → AreAmong labels some
    → All (RowShows (line_texts lines)) (placed_in elements) → All (ShownGiven (line_texts lines) labels) (shown_rows lines some elements)
rows-given lines labels some [] those all = All-nil (ShownGiven (line_texts lines) labels)
rows-given lines labels some (element ∷ elements) those all =
    let Shows = RowShows (line_texts lines) in
    let here = placed_rows element in
    All-append (ShownGiven (line_texts lines) labels) (element_shown lines (heading_label some element) element) (shown_rows lines (labels_behind some element) elements)
    (element-given lines labels (heading_label some element) element (own-among labels some element those) (All-front Shows here (placed_in elements) all))
    (rows-given lines labels (labels_behind some element) elements (behind-among labels some element those) (All-back Shows here (placed_in elements) all))

-- Rows that show parts of lines, with these labels.
pub shown-given : (lines : List LineState) (labels : Option (List LabelOf)) (elements : List ElementOf) → All (RowShows (line_texts lines)) (placed_in elements)
    → All (ShownGiven (line_texts lines) (unwrap_or labels [])) (shown_rows lines labels elements)
shown-given lines labels elements all = rows-given lines (unwrap_or labels []) labels elements (record { among = λ it is. is }) all

-- Each part of each cell of a page of such rows is a part of a line, a fixed text or one of the labels.
pub page_body-given : (lines : List LineState) (labels : Option (List LabelOf)) (elements : List ElementOf) (round from to : ℕ)
    → All (RowShows (line_texts lines)) (placed_in elements)
    → All (RowGiven (line_texts lines) (unwrap_or labels [])) (page_body round (slice_range (shown_rows lines labels elements) from to))
page_body-given lines labels elements round from to all =
    let Given = ShownGiven (line_texts lines) (unwrap_or labels []) in
    let rows = shown_rows lines labels elements in
    page-given (line_texts lines) (unwrap_or labels []) round (slice_range rows from to)
    (All-take Given (to - from) (drop from rows) (All-drop Given from rows (shown-given lines labels elements all)))

-- So is the row of a sheet for omitted pages.
pub omitted-given : (texts : List (List ℕ)) (labels : List LabelOf) → All (RowGiven texts labels) omitted_rows
omitted-given texts labels =
    let cell = fixed_cell 15 (codes "OMITTED") in
    let cells = All-cons (CellGiven texts labels) cell [] (one-part texts labels 15 (codes "OMITTED") (2, lit< tt, refl)) (All-nil (CellGiven texts labels)) in
    All-cons (RowGiven texts labels) _ [] (record { cells = cells }) (All-nil (RowGiven texts labels))
