-- The lines of rows that keep their elements, from the other text back.
use Rattle.std.proofs.Common.{◌≡◌, ℕ, ◌≤◌, Bool, List, [], ◌∷◌, map, filter, sym, ap, subst, ◌∙◌, arith}
use Rattle.std.specs.Prelude.{All}
use Rattle.std.proofs.lemmas.List.Elements.{All-nil, All-cons, All-head, All-tail, All-append}
use Rattle.spec_text.specs.Lines.{LineState}
use Rattle.spec_script.specs.LongestRuns.{Group}
use Rattle.spec_script.specs.Stanzas.{PlacedBlock}
use Rattle.spec_pages.specs.Rows.{Cell, Row, line_state, placed_rows}
use Rattle.spec_sheets.specs.Speakers.{Spoken}
use Rattle.spec_sheets.specs.Layout.{laid_beside, laid_out, placed_in}
use Rattle.spec_edit.specs.RowLines.{RowAt}
use Rattle.spec_edit.proofs.RowMoves.{cell_to, row_to, single-on, pair-on}
use Rattle.spec_edit.proofs.RowPlaces.{BlockAt, single-at, pair-at}
use Rattle.spec_edit.specs.Moved.{moved_place, moved_laid, BlockStays}
use Rattle.spec_edit.proofs.RowShifts.{rows-moved}
use Rattle.spec_edit.proofs.MovedElements.{StaysBeside, GroupStays}
use Rattle.spec_edit.proofs.LayoutParts.{laid_of, filter-stay}

module _ (less more : ℕ) (lines later : List LineState) where
  -- A line that stands in the other text, moved; and one that stood in the first.
  abbrev Stands : ℕ → Type 0
  Stands place = (less ≤ place) × (line_state later (moved_place less more place) ≡ line_state lines place)

  abbrev pub Stood : ℕ → Type 0
  Stood place = line_state lines (moved_place more less place) ≡ line_state later place

  stood : (place : ℕ) → Stands place → Stood (moved_place less more place)
  stood place it =
      let back : moved_place more less (moved_place less more place) ≡ place = omega (arith, it.0) in
      ap (line_state lines) back ∙ sym it.1

  lines-stand : (placed : PlacedBlock) → BlockStays less more lines later placed → BlockAt Stands placed
  lines-stand placed it n low high = let from = it.low in (omega (arith, from), it.line n low high)

  rows-stand : (it : Spoken) (others : List Spoken) → BlockStays less more lines later it.placed → StaysBeside less more lines later it.placed others → All (RowAt Stands) (placed_rows (laid_beside lines it others))
  rows-stand it [] stays beside =
      subst (All (RowAt Stands)) (sym (single-on lines it.placed it.continued)) (single-at Stands lines it.placed it.continued (lines-stand it.placed stays) stays.rise stays.some)
  rows-stand it (right ∷ []) stays beside =
      let r = beside.0 in
      subst (All (RowAt Stands)) (sym (pair-on lines it.placed it.continued right.placed right.continued beside.1))
      (pair-at Stands lines it.placed it.continued right.placed right.continued (lines-stand it.placed stays) (lines-stand right.placed r) stays.rise r.rise)
  rows-stand it (right ∷ other ∷ others) stays beside = absurd beside

  cells-stood : (cells : List Cell) → All (λ (cell : Cell). Stands cell.line) cells → All (λ (cell : Cell). Stood cell.line) (map (cell_to (moved_place less more)) cells)
  cells-stood [] all = All-nil (λ (cell : Cell). Stood cell.line)
  cells-stood (cell ∷ cells) all =
      let P : Cell → Type 0 = λ (cell : Cell). Stands cell.line in
      let Q : Cell → Type 0 = λ (cell : Cell). Stood cell.line in
      All-cons Q (cell_to (moved_place less more) cell) (map (cell_to (moved_place less more)) cells) (stood cell.line (All-head P cell cells all)) (cells-stood cells (All-tail P cell cells all))

  rows-stood : (those : List Row) → All (RowAt Stands) those → All (RowAt Stood) (map (row_to (moved_place less more)) those)
  rows-stood [] all = All-nil (RowAt Stood)
  rows-stood (row ∷ those) all =
      let here = All-head (RowAt Stands) row those all in
      All-cons (RowAt Stood) (row_to (moved_place less more) row) (map (row_to (moved_place less more)) those)
      (record { row = stood row.line here.row; cells = cells-stood row.cells here.cells }) (rows-stood those (All-tail (RowAt Stands) row those all))

  first-low : (it : Spoken) (others : List Spoken) → BlockStays less more lines later it.placed → less ≤ (laid_beside lines it others).first
  first-low it [] stays = stays.low
  first-low it (right ∷ others) stays = stays.low

  own-stood : (group : Group Spoken) → GroupStays less more lines later group → All (RowAt Stood) (placed_rows (moved_laid less more (laid_out lines group)))
  own-stood group stays =
      let own = laid_out lines group in
      subst (All (RowAt Stood)) (rows-moved less more own.first own.rows (first-low group.first group.more stays.first))
      (rows-stood (placed_rows own) (rows-stand group.first group.more stays.first stays.beside))

  all-stood : (groups : List (Group Spoken)) → All (GroupStays less more lines later) groups → All (RowAt Stood) (placed_in (map (moved_laid less more) (map (laid_out lines) groups)))
  all-stood [] all = All-nil (RowAt Stood)
  all-stood (group ∷ groups) all =
      All-append (RowAt Stood) (placed_rows (moved_laid less more (laid_out lines group))) (placed_in (map (moved_laid less more) (map (laid_out lines) groups)))
      (own-stood group (All-head (GroupStays less more lines later) group groups all)) (all-stood groups (All-tail (GroupStays less more lines later) group groups all))

  -- The rows of elements that stay, moved, stand on lines of the first text.
  pub laid-stood : (among : Group Spoken → Bool) (groups : List (Group Spoken)) → All (GroupStays less more lines later) groups → All (RowAt Stood) (placed_in (map (moved_laid less more) (laid_of among lines groups)))
  laid-stood among groups all = all-stood (filter among groups) (filter-stay less more lines later among groups all)
