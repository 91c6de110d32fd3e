-- Rows whose lines are the same in two texts are the same as an edit sees them.
use Rattle.std.proofs.Common.{◌≡◌, ℕ, List, [], ◌∷◌, ◌++◌, None, map, take, drop, refl, sym, ap, ap₂, ◌∙◌, All}
use Rattle.std.proofs.lemmas.List.{map-append}
use Rattle.std.proofs.lemmas.List.Elements.{All-head, All-tail}
use Rattle.spec_text.specs.Lines.{LineState}
use Rattle.spec_pages.specs.Rows.{Cell, Row, ElementOf, line_state, placed_rows}
use Rattle.spec_sheets.specs.Layout.{placed_in}
use Rattle.spec_sheets.specs.Shown.{Shown}
use Rattle.spec_state.specs.SameRows.{BareRow}
use Rattle.spec_edit.specs.RowLines.{RowAt}
use Rattle.spec_edit.proofs.RowMoves.{cell_to, row_to}
use Rattle.spec_edit.proofs.ItemMoves.{shown-moved}
use Rattle.spec_edit.proofs.RowShifts.{rows-moved}
use Rattle.sp_gap.specs.Moves.{shifted}
use Rattle.sp_layout.specs.Exchanges.{CanMove, moved_element}
use Rattle.sp_compare.specs.BareRows.{StayOutside, bare_row}

-- The line at a place of the one text, moved, is that at the place of the other.
abbrev SameLine : List LineState → List LineState → (ℕ → ℕ) → ℕ → Type 0
SameLine before lines to place = line_state before (to place) ≡ line_state lines place

row-bare : (before lines : List LineState) (to : ℕ → ℕ) (row : Row) → RowAt (SameLine before lines to) row → bare_row before (row_to to row) ≡ bare_row lines row
row-bare before lines to row at =
    let bare : Shown → BareRow = λ (it : Shown). record { key = it.key; shape = it.shape; mark = it.mark; cells = it.bare } in
    ap bare (shown-moved (SameLine before lines to) to lines before (record { line = λ place same. same }) [] None row at)

rows-bare : (before lines : List LineState) (to : ℕ → ℕ) (rows : List Row) → All (RowAt (SameLine before lines to)) rows
    → map (bare_row before) (map (row_to to) rows) ≡ map (bare_row lines) rows
rows-bare before lines to [] all = refl
rows-bare before lines to (row ∷ rows) all =
    ap₂ (λ (it : BareRow) (those : List BareRow). it ∷ those) (row-bare before lines to row (All-head (RowAt (SameLine before lines to)) row rows all))
    (rows-bare before lines to rows (All-tail (RowAt (SameLine before lines to)) row rows all))

-- Rows that are not moved.
still-cells : (cells : List Cell) → map (cell_to (λ place. place)) cells ≡ cells
still-cells [] = refl
still-cells (cell ∷ cells) = ap (λ (those : List Cell). cell ∷ those) (still-cells cells)

still-rows : (rows : List Row) → map (row_to (λ place. place)) rows ≡ rows
still-rows [] = refl
still-rows (row ∷ rows) = ap₂ (λ (cells : List Cell) (those : List Row). record row { cells = cells } ∷ those) (still-cells row.cells) (still-rows rows)

-- Rows of elements that are moved.
placed-moved : (less more : ℕ) (elements : List ElementOf) → All (CanMove less more) elements
    → placed_in (map (moved_element less more) elements) ≡ map (row_to (shifted less more)) (placed_in elements)
placed-moved less more [] all = refl
placed-moved less more (element ∷ elements) all =
    let here = All-head (CanMove less more) element elements all in
    ap₂ (λ (one other : List Row). one ++ other) (sym (rows-moved less more element.first element.rows here.from)) (placed-moved less more elements (All-tail (CanMove less more) element elements all))
    ∙ sym (map-append (row_to (shifted less more)) (placed_rows element) (placed_in elements))

-- Elements outside a part whose rows stand on lines that the other text has too.
pub stay-outside : (before lines : List LineState) (elements : List ElementOf) (from to less more : ℕ)
    → All (RowAt (λ place. line_state before place ≡ line_state lines place)) (placed_in (take from elements))
    → All (RowAt (λ place. line_state before (shifted less more place) ≡ line_state lines place)) (placed_in (drop to elements))
    → All (CanMove less more) (drop to elements)
    → StayOutside before lines elements from to less more
stay-outside before lines elements from to less more front behind later =
    let ahead = placed_in (take from elements) in
    let rest = placed_in (drop to elements) in
    record {
      front = ap (map (bare_row before)) (sym (still-rows ahead)) ∙ rows-bare before lines (λ place. place) ahead front;
      behind = ap (map (bare_row before)) (placed-moved less more (drop to elements) later) ∙ rows-bare before lines (shifted less more) rest behind;
    }
