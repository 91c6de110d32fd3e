-- Rows of an element that begins at a line, by their places in the text.
use Rattle.std.proofs.Common.{◌≡◌, ℕ, ◌+◌, ◌-◌, ◌≤◌, List, [], ◌∷◌, map, refl, ap, ap₂, ◌∙◌, arith}
use Rattle.spec_pages.specs.Rows.{Cell, Row, shifted_cell, shifted_row}
use Rattle.spec_edit.proofs.RowMoves.{cell_to, row_to}
use Rattle.spec_edit.specs.Moved.{moved_place}

cell-same : (first : ℕ) (one other : Cell) → shifted_cell first one ≡ shifted_cell first other → one ≡ other
cell-same first one other same =
    let line : one.line ≡ other.line = omega (arith, ap (λ (it : Cell). it.line) same) in
    ap₂ (λ column place. record one { column = column; line = place }) (ap (λ (it : Cell). it.column) same) line
    ∙ ap (λ runs. record one { column = other.column; line = other.line; runs = runs }) (ap (λ (it : Cell). it.runs) same)
    ∙ ap₂ (λ fixed number. record other { fixed = fixed; number = number }) (ap (λ (it : Cell). it.fixed) same) (ap (λ (it : Cell). it.number) same)

cells-same : (first : ℕ) (one other : List Cell) → map (shifted_cell first) one ≡ map (shifted_cell first) other → one ≡ other
cells-same first [] [] same = refl
cells-same first [] (cell ∷ other) same = cc
cells-same first (cell ∷ one) [] same = cc
cells-same first (cell ∷ one) (it ∷ other) same =
    let here : shifted_cell first cell ≡ shifted_cell first it = cc (same) in
    let later : map (shifted_cell first) one ≡ map (shifted_cell first) other = cc (same) in
    ap₂ (λ (c : Cell) (cs : List Cell). c ∷ cs) (cell-same first cell it here) (cells-same first one other later)

row-same : (first : ℕ) (one other : Row) → shifted_row first one ≡ shifted_row first other → one ≡ other
row-same first one other same =
    let line : one.line ≡ other.line = omega (arith, ap (λ (it : Row). it.line) same) in
    ap₂ (λ place number. record one { line = place; row = number }) line (ap (λ (it : Row). it.row) same)
    ∙ ap₂ (λ mark shape. record one { line = other.line; row = other.row; mark = mark; shape = shape }) (ap (λ (it : Row). it.mark) same) (ap (λ (it : Row). it.shape) same)
    ∙ ap (λ (cells : List Cell). record other { cells = cells }) (cells-same first one.cells other.cells (ap (λ (it : Row). it.cells) same))

-- Rows at the same places are the same.
pub rows-same : (first : ℕ) (one other : List Row) → map (shifted_row first) one ≡ map (shifted_row first) other → one ≡ other
rows-same first [] [] same = refl
rows-same first [] (row ∷ other) same = cc
rows-same first (row ∷ one) [] same = cc
rows-same first (row ∷ one) (it ∷ other) same =
    let here : shifted_row first row ≡ shifted_row first it = cc (same) in
    let later : map (shifted_row first) one ≡ map (shifted_row first) other = cc (same) in
    ap₂ (λ (r : Row) (rs : List Row). r ∷ rs) (row-same first row it here) (rows-same first one other later)

-- Rows of an element that is moved stand at moved places.
cells-moved : (less more first : ℕ) (cells : List Cell) → less ≤ first → map (cell_to (moved_place less more)) (map (shifted_cell first) cells) ≡ map (shifted_cell (moved_place less more first)) cells
cells-moved less more first [] low = refl
cells-moved less more first (cell ∷ cells) low =
    let at : first + cell.line - less + more ≡ first - less + more + cell.line = omega (arith, low) in
    ap₂ (λ place (cs : List Cell). record cell { line = place } ∷ cs) at (cells-moved less more first cells low)

pub rows-moved : (less more first : ℕ) (those : List Row) → less ≤ first → map (row_to (moved_place less more)) (map (shifted_row first) those) ≡ map (shifted_row (moved_place less more first)) those
rows-moved less more first [] low = refl
rows-moved less more first (row ∷ those) low =
    let at : first + row.line - less + more ≡ first - less + more + row.line = omega (arith, low) in
    ap₂ (λ place (rs : List Row). record row { line = place; cells = map (cell_to (moved_place less more)) (map (shifted_cell first) row.cells) } ∷ rs) at (rows-moved less more first those low)
    ∙ ap (λ (cells : List Cell). record row { line = first - less + more + row.line; cells = cells } ∷ map (shifted_row (moved_place less more first)) those) (cells-moved less more first row.cells low)
