-- What a row shows whose lines an edit moves.
use Rattle.std.proofs.Common.{◌≡◌, ℕ, zero, suc, ◌||◌, not, Bool, true, false, cond, Option, Some, None, List, [], ◌∷◌, ◌++◌, map, refl, sym, ap, ap₂, subst, ◌∙◌}
use Rattle.std.specs.Prelude.{All, nat_eq}
use Rattle.std.specs.List.{flat_map, list_any, ends_with}
use Rattle.std.proofs.lemmas.List.Elements.{All-nil, All-cons, All-head, All-tail}
use Rattle.std.proofs.lemmas.List.Sums.{take_while-cons}
use Rattle.spec_text.specs.Lines.{LineState, line_texts}
use Rattle.spec_script.specs.LongestRuns.{last_of}
use Rattle.spec_pages.specs.Rows.{Cell, Row, line_state, number_before, number_behind}
use Rattle.spec_labels.specs.Labels.{LabelOf}
use Rattle.spec_sheets.specs.Cells.{ShownCell, text_at, shown_part, fixed_cell, continued, shown_cell, cell_text, label_cell, without_numbers, shown_cells, ends_continued, with_continued}
use Rattle.spec_sheets.specs.Shown.{is_cue, cue_rows, is_fixed, repeated_cells, element_cue, row_label, shown_of}
use Rattle.spec_edit.specs.RowLines.{RowAt}
use Rattle.spec_edit.proofs.RowMoves.{cell_to, row_to}

pub text-is : (lines : List LineState) (place : ℕ) → text_at (line_texts lines) place ≡ (line_state lines place).text
text-is [] place = refl
text-is (line ∷ lines) zero = refl
text-is (line ∷ lines) (suc place) = text-is lines place

-- The lines at such places are other lines, moved.
pub record LinesMoved (P : ℕ → Type 0) (to : ℕ → ℕ) (lines later : List LineState) : Type 0 where
  pub line : (place : ℕ) → P place → line_state later (to place) ≡ line_state lines place

-- Rows of such places.
cues-at : (P : ℕ → Type 0) (those : List Row) → All (RowAt P) those → All (RowAt P) (cue_rows those)
cues-at P [] all = all
cues-at P (row ∷ those) all =
    subst (All (RowAt P)) (sym (take_while-cons (λ (row : Row). is_cue row.shape.kind) row those)) (by (is_cue row.shape.kind) (cues-at P those (All-tail (RowAt P) row those all)))
  where
    by : (b : Bool) → All (RowAt P) (cue_rows those) → All (RowAt P) (cond b (row ∷ cue_rows those) [])
    by true rest = All-cons (RowAt P) row (cue_rows those) (All-head (RowAt P) row those all) rest
    by false rest = All-nil (RowAt P)

cues-to : (to : ℕ → ℕ) (those : List Row) → cue_rows (map (row_to to) those) ≡ map (row_to to) (cue_rows those)
cues-to to [] = refl
cues-to to (row ∷ those) =
    let test : Row → Bool = λ (row : Row). is_cue row.shape.kind in
    take_while-cons test (row_to to row) (map (row_to to) those)
    ∙ ap (λ (rest : List Row). cond (is_cue row.shape.kind) (row_to to row ∷ rest) []) (cues-to to those)
    ∙ by (is_cue row.shape.kind)
    ∙ sym (ap (map (row_to to)) (take_while-cons test row those))
  where
    by : (b : Bool) → cond b (row_to to row ∷ map (row_to to) (cue_rows those)) [] ≡ map (row_to to) (cond b (row ∷ cue_rows those) [])
    by true = refl
    by false = refl

fixed-to : (to : ℕ → ℕ) (cells : List Cell) → list_any is_fixed (map (cell_to to) cells) ≡ list_any is_fixed cells
fixed-to to [] = refl
fixed-to to (cell ∷ cells) = ap (λ b. cell.fixed || b) (fixed-to to cells)

module _ (P : ℕ → Type 0) (to : ℕ → ℕ) (lines later : List LineState) (moved : LinesMoved P to lines later) where
  cell-shown : (cell : Cell) → P cell.line → shown_cell (line_texts later) (cell_to to cell) ≡ shown_cell (line_texts lines) cell
  cell-shown cell at =
      ap (λ (text : List ℕ). cond cell.fixed (fixed_cell cell.column continued) (record { column = cell.column; parts = map (shown_part text) cell.runs }))
      (text-is later (to cell.line) ∙ ap (λ (line : LineState). line.text) (moved.line cell.line at) ∙ sym (text-is lines cell.line))

  cells-shown : (cells : List Cell) → All (λ (cell : Cell). P cell.line) cells → map (shown_cell (line_texts later)) (map (cell_to to) cells) ≡ map (shown_cell (line_texts lines)) cells
  cells-shown [] all = refl
  cells-shown (cell ∷ cells) all =
      let Q : Cell → Type 0 = λ (cell : Cell). P cell.line in
      ap₂ (λ (c : ShownCell) (cs : List ShownCell). c ∷ cs) (cell-shown cell (All-head Q cell cells all)) (cells-shown cells (All-tail Q cell cells all))

  bare-shown : (cells : List Cell) → All (λ (cell : Cell). P cell.line) cells
      → map (shown_cell (line_texts later)) (without_numbers (map (cell_to to) cells)) ≡ map (shown_cell (line_texts lines)) (without_numbers cells)
  bare-shown [] all = refl
  bare-shown (cell ∷ cells) all =
      let Q : Cell → Type 0 = λ (cell : Cell). P cell.line in
      by (not cell.number) (cell-shown cell (All-head Q cell cells all)) (bare-shown cells (All-tail Q cell cells all))
    where
      by : (b : Bool) → shown_cell (line_texts later) (cell_to to cell) ≡ shown_cell (line_texts lines) cell
          → map (shown_cell (line_texts later)) (without_numbers (map (cell_to to) cells)) ≡ map (shown_cell (line_texts lines)) (without_numbers cells)
          → map (shown_cell (line_texts later)) (cond b (cell_to to cell ∷ without_numbers (map (cell_to to) cells)) (without_numbers (map (cell_to to) cells)))
          ≡ map (shown_cell (line_texts lines)) (cond b (cell ∷ without_numbers cells) (without_numbers cells))
      by true here rest = ap₂ (λ (c : ShownCell) (cs : List ShownCell). c ∷ cs) here rest
      by false here rest = rest

  row-shown : (label : Option LabelOf) (row : Row) → RowAt P row → shown_cells (line_texts later) label (row_to to row) ≡ shown_cells (line_texts lines) label row
  row-shown None row at = cells-shown row.cells at.cells
  row-shown (Some it) row at =
      ap (λ (cs : List ShownCell). label_cell number_before it ∷ cs ++ label_cell number_behind it ∷ []) (bare-shown row.cells at.cells)

  texts-shown : (cells : List Cell) → All (λ (cell : Cell). P cell.line) cells
      → flat_map (λ (cell : Cell). cell_text (shown_cell (line_texts later) cell)) (map (cell_to to) cells) ≡ flat_map (λ (cell : Cell). cell_text (shown_cell (line_texts lines) cell)) cells
  texts-shown [] all = refl
  texts-shown (cell ∷ cells) all =
      let Q : Cell → Type 0 = λ (cell : Cell). P cell.line in
      ap₂ (λ (a b : List ℕ). a ++ b) (ap cell_text (cell-shown cell (All-head Q cell cells all))) (texts-shown cells (All-tail Q cell cells all))

  last-continued : (row : Row) (those : List Row) → All (RowAt P) (row ∷ those)
      → ends_continued (line_texts later) (last_of (row_to to row) (map (row_to to) those)).cells ≡ ends_continued (line_texts lines) (last_of row those).cells
  last-continued row [] all = ap (λ (text : List ℕ). ends_with nat_eq text continued) (texts-shown row.cells ((All-head (RowAt P) row [] all).cells))
  last-continued row (next ∷ those) all = last-continued next those (All-tail (RowAt P) row (next ∷ those) all)

  repeated-shown : (those : List Row) → All (RowAt P) those → repeated_cells (line_texts later) (map (row_to to) those) ≡ repeated_cells (line_texts lines) those
  repeated-shown [] all = refl
  repeated-shown (row ∷ those) all =
      ap₂ (λ (b : Bool) (cells : List ShownCell). cond b cells (with_continued cells))
      (ap₂ (λ (a b : Bool). a || b) (fixed-to to row.cells) (last-continued row those all))
      (cells-shown row.cells ((All-head (RowAt P) row those all).cells))

  -- The cue of an element, repeated, is the same.
  pub cue-moved : (those : List Row) → All (RowAt P) those → element_cue (line_texts later) (map (row_to to) those) ≡ element_cue (line_texts lines) those
  cue-moved those all = ap (repeated_cells (line_texts later)) (cues-to to those) ∙ repeated-shown (cue_rows those) (cues-at P those all)

  -- The same row of both texts shows the same.
  pub shown-moved : (cue : List ShownCell) (label : Option LabelOf) (row : Row) → RowAt P row → shown_of later cue label (row_to to row) ≡ shown_of lines cue label row
  shown-moved cue label row at =
      ap₂ (λ (line : LineState) (cells : List ShownCell). record (shown_of lines cue label row) { key = record { line = line.id; row = row.row }; cells = cells; bare = map (shown_cell (line_texts later)) (without_numbers (map (cell_to to) row.cells)) })
      (moved.line row.line at.row) (row-shown (row_label label row) row at)
      ∙ ap (λ (bare : List ShownCell). record (shown_of lines cue label row) { bare = bare }) (bare-shown row.cells at.cells)
