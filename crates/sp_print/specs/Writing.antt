-- How a row is written part by part (docs/RULES.md, "Sheets").
use Rattle.std.specs.Prelude.{ℕ, ◌+◌, ◌==◌, ◌&&◌, not, Bool, true, if◌then◌else◌, Option, Some, None, List, [], ◌∷◌, ◌++◌, length}
use Rattle.std.specs.List.{flat_map}
use Rattle.spec_pages.specs.Clusters.{columns_of}
use Rattle.spec_sheets.specs.Cells.{ShownPart, ShownCell, part_text, shown_bytes}
use Rattle.spec_sheets.specs.RowBytes.{ShownRow, spaces, gap, columns_behind, is_blank, star_cells, untabbed}
use Rattle.sp_print.specs.Views.{ViewOf, cells_views}
use Rattle.sp_print.specs.declared.write_row.Progress.{Progress}

-- The part has no text.
abbrev pub is_empty_view : ViewOf → Bool
is_empty_view view = length (shown_bytes view.text) == 0

-- Something of the part's cell was written.
abbrev pub is_begun : Progress → ViewOf → Bool
is_begun at view = at.begun && not view.first

-- The spaces before a part: none where its cell is begun.
abbrev pub gap_before : Progress → ViewOf → ℕ
gap_before at view = if is_begun at view then 0 else gap view.column at.columns

-- What is written of a part where this is written of a text with a style: nothing of one without text.
abbrev pub view_bytes : (ℕ → List ℕ → List ℕ) → Progress → ViewOf → List ℕ
view_bytes written at view = if is_empty_view view then [] else spaces (gap_before at view) ++ written view.style (shown_bytes view.text)

-- Where the row stands behind a part.
abbrev pub behind_view : Progress → ViewOf → Progress
behind_view at view =
    if is_empty_view view then record { columns = at.columns; begun = is_begun at view }
    else record { columns = at.columns + gap_before at view + columns_of (shown_bytes view.text); begun = true }

-- Where it stands behind the last part that was written, where there is one.
abbrev pub behind_last : Progress → Option ViewOf → Progress
behind_last at None = at
behind_last at (Some view) = behind_view at view

-- The part that a star is.
abbrev pub star_views : Bool → List ViewOf
star_views star = cells_views (star_cells star)

-- The bytes of parts in order.
abbrev pub views_bytes : (ℕ → List ℕ → List ℕ) → Progress → List ViewOf → List ℕ
views_bytes written at [] = []
views_bytes written at (view ∷ views) = view_bytes written at view ++ views_bytes written (behind_view at view) views

-- ---- rows, where this is written of a text with a style

abbrev pub part_written : (ℕ → List ℕ → List ℕ) → ShownPart → List ℕ
part_written written part = if length (part_text part) == 0 then [] else written part.style (part_text part)

abbrev pub cell_written : (ℕ → List ℕ → List ℕ) → ℕ → ShownCell → List ℕ
cell_written written columns cell = if is_blank cell then [] else spaces (gap cell.column columns) ++ flat_map (part_written written) cell.parts

abbrev pub cells_written : (ℕ → List ℕ → List ℕ) → ℕ → List ShownCell → List ℕ
cells_written written columns [] = []
cells_written written columns (cell ∷ cells) = cell_written written columns cell ++ cells_written written (columns_behind columns cell) cells

-- A row, its star last, and ended.
abbrev pub row_written : (ℕ → List ℕ → List ℕ) → ShownRow → List ℕ
row_written written row = cells_written written 0 (row.cells ++ star_cells row.star)

abbrev pub line_written : (ℕ → List ℕ → List ℕ) → ShownRow → List ℕ
line_written written row = row_written written row ++ 10 ∷ []

-- A text without marks, whatever its style.
abbrev pub plain_part : ℕ → List ℕ → List ℕ
plain_part style text = untabbed text
