-- The rows of an element and their cells are of lines of its blocks.
use Rattle.std.proofs.Common.{ℕ, ◌+◌, ◌<◌, ◌≤◌, ◌==◌, Bool, true, false, cond, List, [], ◌∷◌, ◌++◌, length, map, arith}
use Rattle.std.specs.Prelude.{All, nat_le}
use Rattle.std.specs.List.{list_any}
use Rattle.std.proofs.lemmas.List.Elements.{All-nil, All-cons, All-head, All-tail, All-append}
use Rattle.spec_text.specs.Lines.{LineState}
use Rattle.spec_script.specs.declared.Kind.{Kind}
use Rattle.spec_script.specs.BlockValues.{LineOf, BlockOf}
use Rattle.spec_script.specs.BlockParts.{Rise, line_from, line_to}
use Rattle.spec_script.specs.Stanzas.{PlacedBlock}
use Rattle.spec_pages.specs.declared.Side.{Side}
use Rattle.spec_pages.specs.declared.Side.TheVariants as sides
use Rattle.spec_pages.specs.Columns.{first_lead, has_rows}
use Rattle.spec_pages.specs.Rows.{Cell, Row, half_row, joined_rows, shaped_rows, title_row, is_title, put_cell, in_column_order, continued_cell}
use Rattle.spec_pages.specs.Rows as rows
use Rattle.spec_pages.specs.Wrapping.{WrappedRow}
use Rattle.spec_sheets.proofs.ElementPlaces.{LinesRise}
use Rattle.spec_edit.specs.RowLines.{RowAt}
use Rattle.spec_edit.proofs.RowMoves.{rows_on, lines_on, block_on, number_on, numbered_on, said_on, spoken_on, speaking, texts_at, alone_on, single_on, beside_on, pair_on}

-- The lines of a block stand at such places.
abbrev pub BlockAt : (ℕ → Type 0) → PlacedBlock → Type 0
BlockAt P placed = (n : ℕ) → placed.block.first ≤ n → n < placed.block.last + 1 → P (placed.first + n)

module _ (P : ℕ → Type 0) where
  abbrev CellAt : Cell → Type 0
  CellAt cell = P cell.line

  one-cell : (cell : Cell) → P cell.line → All CellAt (cell ∷ [])
  one-cell cell h = All-cons CellAt cell [] h (All-nil CellAt)

  on-at : (side : Side) (kind : Kind) (mark : ℕ) (text : List ℕ) (line : LineOf) (place number : ℕ) (those : List WrappedRow) → P place
      → All (RowAt P) (rows_on side kind mark text line place number those)
  on-at side kind mark text line place number [] h = All-nil (RowAt P)
  on-at side kind mark text line place number (it ∷ later) h =
      All-cons (RowAt P) _ (rows_on side kind mark text line place (number + 1) later) (record { row = h; cells = one-cell _ h }) (on-at side kind mark text line place (number + 1) later h)

  lines-at : (lines : List LineState) (first low high : ℕ) (side : Side) (kind : Kind) (from : ℕ) (those : List LineOf)
      → ((n : ℕ) → low ≤ n → n < high → P (first + n)) → low ≤ from → Rise line_from line_to from high those → All (RowAt P) (lines_on lines first side kind those)
  lines-at lines first low high side kind from [] at above rise = All-nil (RowAt P)
  lines-at lines first low high side kind from (line ∷ those) at above rise =
      let inside : line.offset < high = omega (arith, order (line.offset + 1) high those rise.2) in
      let below : low ≤ line.offset = omega (arith, above, rise.0) in
      All-append (RowAt P) _ (lines_on lines first side kind those) (on-at side kind _ _ line (first + line.offset) 0 _ (at line.offset below inside))
      (lines-at lines first low high side kind (line.offset + 1) those at (omega (arith, below)) rise.2)
    where
      order : (from high : ℕ) (those : List LineOf) → Rise line_from line_to from high those → from ≤ high
      order from high [] rise = rise
      order from high (line ∷ those) rise = omega (arith, rise.0, order (line.offset + 1) high those rise.2)

  block-at : (lines : List LineState) (side : Side) (placed : PlacedBlock) → BlockAt P placed → LinesRise placed → All (RowAt P) (block_on lines placed.first side placed.block)
  block-at lines side placed at rise =
      lines-at lines placed.first placed.block.first (placed.block.last + 1) side placed.block.kind placed.block.first placed.block.lines at (omega arith) rise

  numbered-at : (place : ℕ) (block : BlockOf) (those : List Row) → P place → All (RowAt P) those → All (RowAt P) (numbered_on place block those)
  numbered-at place block [] h all = all
  numbered-at place block (row ∷ later) h all =
      let here = All-head (RowAt P) row later all in
      All-cons (RowAt P) _ later (record { row = here.row; cells = by (length block.number == 0) here.cells }) (All-tail (RowAt P) row later all)
    where
      by : (b : Bool) → All CellAt row.cells → All CellAt (cond b row.cells (number_on place block rows.number_before ∷ row.cells ++ number_on place block rows.number_behind ∷ []))
      by true own = own
      by false own =
          All-cons CellAt (number_on place block rows.number_before) (row.cells ++ number_on place block rows.number_behind ∷ []) h
          (All-append CellAt row.cells (number_on place block rows.number_behind ∷ []) own (one-cell (number_on place block rows.number_behind) h))

  halves-at : (those : List Row) → All (RowAt P) those → All (RowAt P) (map half_row those)
  halves-at [] all = All-nil (RowAt P)
  halves-at (row ∷ later) all =
      let here = All-head (RowAt P) row later all in
      All-cons (RowAt P) (half_row row) (map half_row later) (record { row = here.row; cells = here.cells }) (halves-at later (All-tail (RowAt P) row later all))

  titles-at : (those : List Row) → All (RowAt P) those → All (RowAt P) (map title_row those)
  titles-at [] all = All-nil (RowAt P)
  titles-at (row ∷ later) all =
      let here = All-head (RowAt P) row later all in
      All-cons (RowAt P) (title_row row) (map title_row later) (record { row = here.row; cells = here.cells }) (titles-at later (All-tail (RowAt P) row later all))

  joined-at : (left right : List Row) → All (RowAt P) left → All (RowAt P) right → All (RowAt P) (joined_rows left right)
  joined-at [] right one other = halves-at right other
  joined-at (row ∷ left) [] one other =
      let here = All-head (RowAt P) row left one in
      All-cons (RowAt P) (half_row row) (joined_rows left []) (record { row = here.row; cells = here.cells }) (joined-at left [] (All-tail (RowAt P) row left one) other)
  joined-at (row ∷ left) (next ∷ right) one other =
      let here = All-head (RowAt P) row left one in
      let there = All-head (RowAt P) next right other in
      All-cons (RowAt P) _ (joined_rows left right) (record { row = here.row; cells = All-append CellAt row.cells next.cells here.cells there.cells })
      (joined-at left right (All-tail (RowAt P) row left one) (All-tail (RowAt P) next right other))

  shaped-at : (lead index : ℕ) (those : List Row) → All (RowAt P) those → All (RowAt P) (shaped_rows lead index those)
  shaped-at lead index [] all = All-nil (RowAt P)
  shaped-at lead index (row ∷ later) all =
      let here = All-head (RowAt P) row later all in
      All-cons (RowAt P) _ (shaped_rows lead (index + 1) later) (record { row = here.row; cells = here.cells }) (shaped-at lead (index + 1) later (All-tail (RowAt P) row later all))

  cond-at : (b : Bool) (one other : List Row) → All (RowAt P) one → All (RowAt P) other → All (RowAt P) (cond b one other)
  cond-at true one other first second = first
  cond-at false one other first second = second

  -- Speakers.
  said-at : (text : ℕ → List ℕ) (goes_on : Bool) (cell : Cell) → P cell.line → All CellAt (said_on text goes_on cell)
  said-at text true cell h = All-cons CellAt cell (continued_cell (text cell.line) cell ∷ []) h (one-cell (continued_cell (text cell.line) cell) h)
  said-at text false cell h = one-cell cell h

  spoken-at : (text : ℕ → List ℕ) (speakers : List Bool) (cells : List Cell) → All CellAt cells → All CellAt (spoken_on text speakers cells)
  spoken-at text [] cells all = all
  spoken-at text (goes_on ∷ speakers) [] all = All-nil CellAt
  spoken-at text (goes_on ∷ speakers) (cell ∷ cells) all =
      All-append CellAt (said_on text goes_on cell) (spoken_on text speakers cells) (said-at text goes_on cell (All-head CellAt cell cells all)) (spoken-at text speakers cells (All-tail CellAt cell cells all))

  put-at : (cell : Cell) (cells : List Cell) → P cell.line → All CellAt cells → All CellAt (put_cell cell cells)
  put-at cell [] h all = one-cell cell h
  put-at cell (other ∷ cells) h all = by (nat_le cell.column other.column) (put-at cell cells h (All-tail CellAt other cells all))
    where
      by : (b : Bool) → All CellAt (put_cell cell cells) → All CellAt (cond b (cell ∷ other ∷ cells) (other ∷ put_cell cell cells))
      by true rest = All-cons CellAt cell (other ∷ cells) h all
      by false rest = All-cons CellAt other (put_cell cell cells) (All-head CellAt other cells all) rest

  order-at : (cells : List Cell) → All CellAt cells → All CellAt (in_column_order cells)
  order-at [] all = all
  order-at (cell ∷ cells) all = put-at cell (in_column_order cells) (All-head CellAt cell cells all) (order-at cells (All-tail CellAt cell cells all))

  speaking-at : (text : ℕ → List ℕ) (speakers : List Bool) (those : List Row) → All (RowAt P) those → All (RowAt P) (speaking text speakers those)
  speaking-at text speakers [] all = cond-at (list_any (λ goes_on. goes_on) speakers) [] [] all all
  speaking-at text speakers (row ∷ later) all =
      let here = All-head (RowAt P) row later all in
      cond-at (list_any (λ goes_on. goes_on) speakers) (record row { cells = in_column_order (spoken_on text speakers row.cells) } ∷ later) (row ∷ later)
      (All-cons (RowAt P) _ later (record { row = here.row; cells = order-at (spoken_on text speakers row.cells) (spoken-at text speakers row.cells here.cells) }) (All-tail (RowAt P) row later all)) all

  -- Elements.
  pub alone-at : (lines : List LineState) (placed : PlacedBlock) → BlockAt P placed → LinesRise placed → placed.block.first < placed.block.last + 1 → All (RowAt P) (alone_on lines placed)
  alone-at lines placed at rise some =
      let block = placed.block in
      let own = block_on lines placed.first sides.Alone block in
      shaped-at (first_lead block.kind) 0 (numbered_on (placed.first + block.first) block own)
      (numbered-at (placed.first + block.first) block own (at block.first (omega arith) some) (block-at lines sides.Alone placed at rise))

  pub single-at : (lines : List LineState) (placed : PlacedBlock) (continued : Bool) → BlockAt P placed → LinesRise placed → placed.block.first < placed.block.last + 1
      → All (RowAt P) (single_on lines placed continued)
  single-at lines placed continued at rise some =
      let own = alone_on lines placed in
      let all = alone-at lines placed at rise some in
      let said = speaking (texts_at lines) (continued ∷ []) own in
      cond-at (has_rows placed.block.kind) (cond (is_title placed.block.kind) (map title_row own) said) []
      (cond-at (is_title placed.block.kind) (map title_row own) said (titles-at own all) (speaking-at (texts_at lines) (continued ∷ []) own all)) (All-nil (RowAt P))

  pub beside-at : (lines : List LineState) (left right : PlacedBlock) → BlockAt P left → BlockAt P right → LinesRise left → LinesRise right → All (RowAt P) (beside_on lines left right)
  beside-at lines left right one other l r =
      let mine = block_on lines left.first sides.Left left.block in
      let theirs = block_on lines right.first sides.Right right.block in
      shaped-at 1 0 (joined_rows mine theirs) (joined-at mine theirs (block-at lines sides.Left left one l) (block-at lines sides.Right right other r))

  pub pair-at : (lines : List LineState) (left : PlacedBlock) (continued : Bool) (right : PlacedBlock) (second : Bool) → BlockAt P left → BlockAt P right → LinesRise left → LinesRise right
      → All (RowAt P) (pair_on lines left continued right second)
  pair-at lines left continued right second one other l r = speaking-at (texts_at lines) (continued ∷ second ∷ []) (beside_on lines left right) (beside-at lines left right one other l r)
