-- The cells of a row, as they are kept.
use Rattle.std.specs.Prelude.{List, [], ◌∷◌}
use Rattle.spec_pages.specs.Rows.{Cell}
use Rattle.sp_columns.specs.declared.cells.CellList.{CellList}
use Rattle.sp_columns.specs.declared.cells.CellList.TheVariants as kinds

-- The cells, from left to right.
abbrev pub cells_in : CellList → List Cell
cells_in kinds.Nothing = []
cells_in (kinds.One cell) = cell ∷ []
cells_in (kinds.Many cells) = cells.value.items
