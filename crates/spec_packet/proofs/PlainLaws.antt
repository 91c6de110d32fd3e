-- Rows whose texts have no form feed are written without one.
use Rattle.std.proofs.Common.{◌≡◌, inl, inr, ℕ, zero, suc, ◌==◌, Bool, true, false, cond, List, [], ◌∷◌, ◌++◌, refl, subst}
use Rattle.std.specs.Prelude.{All}
use Rattle.std.specs.List.{flat_map}
use Rattle.std.proofs.lemmas.List.Elements.{All-nil, All-cons, All-head, All-tail, All-append, All-weaker}
use Rattle.spec_sheets.specs.Cells.{ShownPart, ShownCell, part_text}
use Rattle.spec_sheets.specs.RowBytes.{ShownRow, spaces, untabbed, part_bytes, is_blank, gap, cell_bytes, cells_bytes, columns_behind, star_cells, row_bytes, row_line}
use Rattle.spec_packet.specs.SheetLists.{IsIn}
use Rattle.spec_packet.specs.SheetReadings.{is_sheet_end}
use Rattle.spec_packet.specs.Pieces.{IsPlain}
use Rattle.spec_packet.proofs.Lists.{append-in}

-- No form feed.
pub record Whole (byte : ℕ) : Type 0 where
  pub is : is_sheet_end byte ≡ false

-- A cell whose texts have none.
abbrev pub PlainCell : ShownCell → Type 0
PlainCell cell = (part : ShownPart) → IsIn part cell.parts → All Whole (part_text part)

spaces-whole : (n : ℕ) → All Whole (spaces n)
spaces-whole zero = All-nil Whole
spaces-whole (suc n) = All-cons Whole 32 (spaces n) (record { is = refl }) (spaces-whole n)

untabbed-whole : (text : List ℕ) → All Whole text → All Whole (untabbed text)
untabbed-whole [] all = All-nil Whole
untabbed-whole (b ∷ text) all = All-append Whole (cond (b == 9) (spaces 4) (b ∷ [])) (untabbed text) (by (b == 9)) (untabbed-whole text (All-tail Whole b text all))
  where
    by : (tab : Bool) → All Whole (cond tab (spaces 4) (b ∷ []))
    by true = spaces-whole 4
    by false = All-cons Whole b [] (All-head Whole b text all) (All-nil Whole)

parts-whole : (parts : List ShownPart) → ((part : ShownPart) → IsIn part parts → All Whole (part_text part)) → All Whole (flat_map part_bytes parts)
parts-whole [] all = All-nil Whole
parts-whole (part ∷ parts) all =
    All-append Whole (part_bytes part) (flat_map part_bytes parts) (untabbed-whole (part_text part) (all part (inl refl))) (parts-whole parts (λ p is. all p (inr is)))

cell-whole : (columns : ℕ) (cell : ShownCell) → PlainCell cell → All Whole (cell_bytes columns cell)
cell-whole columns cell plain = by (is_blank cell)
  where
    by : (blank : Bool) → All Whole (cond blank [] (spaces (gap cell.column columns) ++ flat_map part_bytes cell.parts))
    by true = All-nil Whole
    by false = All-append Whole (spaces (gap cell.column columns)) (flat_map part_bytes cell.parts) (spaces-whole (gap cell.column columns)) (parts-whole cell.parts plain)

cells-whole : (columns : ℕ) (cells : List ShownCell) → ((cell : ShownCell) → IsIn cell cells → PlainCell cell) → All Whole (cells_bytes columns cells)
cells-whole columns [] all = All-nil Whole
cells-whole columns (cell ∷ cells) all =
    All-append Whole (cell_bytes columns cell) (cells_bytes (columns_behind columns cell) cells) (cell-whole columns cell (all cell (inl refl)))
    (cells-whole (columns_behind columns cell) cells (λ c is. all c (inr is)))

star-plain : (star : Bool) (cell : ShownCell) → IsIn cell (star_cells star) → PlainCell cell
star-plain false cell is = absurd is
star-plain true cell is = elim is [
  | inl same ↦ subst PlainCell same (λ part there. elim there [
    | inl one ↦ subst (λ (p : ShownPart). All Whole (part_text p)) one (All-cons Whole 42 [] (record { is = refl }) (All-nil Whole))
    | inr never ↦ absurd never
  ])
  | inr never ↦ absurd never
]

row-whole : (row : ShownRow) → ((cell : ShownCell) → IsIn cell row.cells → PlainCell cell) → All Whole (row_line row)
row-whole row all =
    All-append Whole (row_bytes row) (10 ∷ [])
    (cells-whole 0 (row.cells ++ star_cells row.star) (λ cell is. elim (append-in cell row.cells (star_cells row.star) is) [ inl own ↦ all cell own | inr star ↦ star-plain row.star cell star ]))
    (All-cons Whole 10 [] (record { is = refl }) (All-nil Whole))

rows-whole : (rows : List ShownRow) → ((row : ShownRow) → IsIn row rows → (cell : ShownCell) → IsIn cell row.cells → PlainCell cell) → All Whole (flat_map row_line rows)
rows-whole [] all = All-nil Whole
rows-whole (row ∷ rows) all = All-append Whole (row_line row) (flat_map row_line rows) (row-whole row (all row (inl refl))) (rows-whole rows (λ r is. all r (inr is)))

-- Rows of plain cells are plain.
pub rows-plain : (rows : List ShownRow) → ((row : ShownRow) → IsIn row rows → (cell : ShownCell) → IsIn cell row.cells → PlainCell cell) → IsPlain rows
rows-plain rows all = record { whole = All-weaker Whole (λ b. is_sheet_end b ≡ false) (λ b h. h.is) (flat_map row_line rows) (rows-whole rows all) }
