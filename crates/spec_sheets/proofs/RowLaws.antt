-- The rows of an element show parts of lines of the text.
use Rattle.std.proofs.Common.{◌≡◌, ℕ, suc, ◌+◌, ◌-◌, ◌<◌, ◌≤◌, ◌==◌, nat_le, Bool, true, false, cond, List, [], ◌∷◌, ◌++◌, length, map, get_or, refl, sym, ap, subst, ◌∙◌, arith, length-append}
use Rattle.std.specs.Prelude.{All}
use Rattle.std.specs.List.{list_any}
use Rattle.std.specs.Str.{IsUtf8}
use Rattle.std.proofs.lemmas.List.{get_or-map, length-map}
use Rattle.std.proofs.lemmas.List.Elements.{All-nil, All-cons, All-head, All-tail, All-append, All-map}
use Rattle.spec_text.specs.Limits.{line_limit, line_count_limit}
use Rattle.spec_text.specs.Lines.{LineState, TextState, IsText, line_texts}
use Rattle.spec_script.specs.BlockValues.{LineOf, BlockOf}
use Rattle.spec_script.specs.BlockParts.{BlockLies}
use Rattle.spec_script.specs.Runs.{RunParts}
use Rattle.spec_script.specs.Stanzas.{PlacedBlock}
use Rattle.spec_script.specs.Elements.{PlacedLies}
use Rattle.spec_pages.specs.declared.Side.{Side}
use Rattle.spec_pages.specs.declared.Side.TheVariants as sides
use Rattle.spec_pages.specs.CellParts.{CellLies, RowLies}
use Rattle.spec_pages.specs.Columns.{first_lead, has_rows, width_of}
use Rattle.spec_pages.specs.Rows.{Cell, Row, LineContext, line_state, line_context, line_row, line_rows_from, line_rows, number_cell, number_before, number_behind, numbered_cells, with_number, half_row, joined_row, joined_rows, shaped_row, shaped_rows, title_row, is_title, continued_cell, said_cells, spoken_cells, put_cell, in_column_order, spoken_rows, with_speakers, runs_width, block_alone, blocks_beside, single_rows, dual_rows, shifted_cell, shifted_row}
use Rattle.spec_pages.specs.Rows as rows
use Rattle.spec_pages.specs.Wrapping.{WrappedRow, wrapped}
use Rattle.spec_pages.proofs.CellLaws.{All-flat_map, block_alone-lies, blocks_beside-lies}
use Rattle.spec_pages.proofs.WidthLaws.{runs_width-low}
use Rattle.spec_sheets.specs.Cells.{text_at, ShowsParts, RowShows}

-- The texts of lines that stand in a text.
pub record AreTexts (texts : List (List ℕ)) : Type 0 where
  pub utf8 : All IsUtf8 texts
  pub short : All (λ (text : List ℕ). length text ≤ line_limit) texts
  pub few : length texts ≤ line_count_limit

pub IsText-texts : (text : TextState) → IsText text → AreTexts (line_texts text.lines)
IsText-texts text is =
    let count = length-map text.lines (λ (line : LineState). line.text) in
    record {
      utf8 = All-map IsUtf8 (λ (line : LineState). line.text) text.lines (λ k d h. (is.clean k d h).utf8);
      short = All-map (λ (it : List ℕ). length it ≤ line_limit) (λ (line : LineState). line.text) text.lines is.short;
      few = omega (arith, count, is.count);
    }

-- The text of the line at a place.
pub state-text : (lines : List LineState) (place : ℕ) → place < length lines → text_at (line_texts lines) place ≡ (line_state lines place).text
state-text lines place inside = get_or-map (λ (line : LineState). line.text) lines place (record { id = 0; mark = 0; text = [] }) [] inside

-- The line of a row is there, and the row has at most so many cells.
record RowFits (lines : List LineState) (first most : ℕ) (row : Row) : Type 0 where
  place : first + row.line < length lines
  few : length row.cells ≤ most

line_rows_from-fit : (lines : List LineState) (first : ℕ) (context : LineContext) (line : LineOf) (number : ℕ) (wrapped_rows : List WrappedRow) → first + (context.shift + line.offset) < length lines
    → All (RowFits lines first 1) (line_rows_from context line number wrapped_rows)
line_rows_from-fit lines first context line number [] inside = All-nil (RowFits lines first 1)
line_rows_from-fit lines first context line number (row ∷ later) inside =
    All-cons (RowFits lines first 1) (line_row context line number row) (line_rows_from context line (number + 1) later) (record { place = inside; few = omega arith })
    (line_rows_from-fit lines first context line (number + 1) later inside)

block_rows-fit : (lines : List LineState) (first base shift : ℕ) (side : Side) (block : BlockOf) → first + shift ≡ base → BlockLies (line_texts lines) base block
    → All (RowFits lines first 1) (rows.block_rows lines base shift side block)
block_rows-fit lines first base shift side block is lies =
    let size = length-map lines (λ (line : LineState). line.text) in
    All-flat_map (RowFits lines first 1) (line_rows lines base shift side block.kind) block.lines
    (λ k d h.
    let line = get_or block.lines k d in
    let inside = (lies.lines k d h).place in
    let text = (line_state lines (base + line.offset)).text in
    line_rows_from-fit lines first (line_context lines base shift side block.kind line) line 0 (wrapped text line.runs (width_of side block.kind line.part)) (omega (arith, inside, is, size)))

-- A number stands on the first row of its heading.
length-numbered : (block : BlockOf) (cells : List Cell) (t : Bool) → length (cond t cells (number_cell block number_before ∷ cells ++ number_cell block number_behind ∷ [])) ≤ length cells + 2
length-numbered block cells true = omega arith
length-numbered block cells false = let size = length-append cells (number_cell block number_behind ∷ []) in omega (arith, size)

fit-more : (lines : List LineState) (first most more : ℕ) (those : List Row) → most ≤ more → All (RowFits lines first most) those → All (RowFits lines first more) those
fit-more lines first most more those below all = λ k d h. let is = all k d h in record { place = is.place; few = omega (arith, is.few, below) }

with_number-fit : (lines : List LineState) (first : ℕ) (block : BlockOf) (those : List Row) → All (RowFits lines first 1) those → All (RowFits lines first 3) (with_number block those)
with_number-fit lines first block [] all = All-nil (RowFits lines first 3)
with_number-fit lines first block (row ∷ later) all =
    let here = All-head (RowFits lines first 1) row later all in
    let size = length-numbered block row.cells (length block.number == 0) in
    All-cons (RowFits lines first 3) (record row { cells = numbered_cells block row.cells }) later (record { place = here.place; few = omega (arith, here.few, size) })
    (fit-more lines first 1 3 later (omega arith) (All-tail (RowFits lines first 1) row later all))

shaped-fit : (lines : List LineState) (first most lead index : ℕ) (those : List Row) → All (RowFits lines first most) those → All (RowFits lines first most) (shaped_rows lead index those)
shaped-fit lines first most lead index [] all = All-nil (RowFits lines first most)
shaped-fit lines first most lead index (row ∷ later) all =
    let here = All-head (RowFits lines first most) row later all in
    All-cons (RowFits lines first most) (shaped_row lead index (length later) row) (shaped_rows lead (index + 1) later) (record { place = here.place; few = here.few })
    (shaped-fit lines first most lead (index + 1) later (All-tail (RowFits lines first most) row later all))

-- Rows of dual dialogue.
halves-fit : (lines : List LineState) (first : ℕ) (those : List Row) → All (RowFits lines first 1) those → All (RowFits lines first 2) (map half_row those)
halves-fit lines first [] all = All-nil (RowFits lines first 2)
halves-fit lines first (row ∷ later) all =
    let here = All-head (RowFits lines first 1) row later all in
    All-cons (RowFits lines first 2) (half_row row) (map half_row later) (record { place = here.place; few = omega (arith, here.few) })
    (halves-fit lines first later (All-tail (RowFits lines first 1) row later all))

joined-fit : (lines : List LineState) (first : ℕ) (left right : List Row) → All (RowFits lines first 1) left → All (RowFits lines first 1) right → All (RowFits lines first 2) (joined_rows left right)
joined-fit lines first [] right l r = halves-fit lines first right r
joined-fit lines first (row ∷ left) [] l r =
    let here = All-head (RowFits lines first 1) row left l in
    All-cons (RowFits lines first 2) (half_row row) (joined_rows left []) (record { place = here.place; few = omega (arith, here.few) })
    (joined-fit lines first left [] (All-tail (RowFits lines first 1) row left l) r)
joined-fit lines first (row ∷ left) (other ∷ right) l r =
    let here = All-head (RowFits lines first 1) row left l in
    let there = All-head (RowFits lines first 1) other right r in
    let size = length-append row.cells other.cells in
    All-cons (RowFits lines first 2) (joined_row row other) (joined_rows left right) (record { place = here.place; few = omega (arith, here.few, there.few, size) })
    (joined-fit lines first left right (All-tail (RowFits lines first 1) row left l) (All-tail (RowFits lines first 1) other right r))

-- A row before its speaker is told: its line is there, and its cells, at most so many, lie in their lines.
record RowNear (lines : List LineState) (first most : ℕ) (row : Row) : Type 0 where
  fits : RowFits lines first most row
  lies : RowLies lines first row

both-near : (lines : List LineState) (first most : ℕ) (those : List Row) → All (RowFits lines first most) those → All (RowLies lines first) those → All (RowNear lines first most) those
both-near lines first most those fit lie = λ k d h. record { fits = fit k d h; lies = lie k d h }

titles-near : (lines : List LineState) (first most : ℕ) (those : List Row) → All (RowNear lines first most) those → All (RowNear lines first most) (map title_row those)
titles-near lines first most [] all = all
titles-near lines first most (row ∷ later) all =
    let here = All-head (RowNear lines first most) row later all in
    let fits = here.fits in
    All-cons (RowNear lines first most) (title_row row) (map title_row later) (record { fits = record { place = fits.place; few = fits.few }; lies = here.lies })
    (titles-near lines first most later (All-tail (RowNear lines first most) row later all))

-- Cells of an element that begins at a line of the text.
abbrev pub Shows : List (List ℕ) → ℕ → Cell → Type 0
Shows texts first cell = ShowsParts texts (shifted_cell first cell)

lies-shows : (lines : List LineState) (first : ℕ) (cell : Cell) → AreTexts (line_texts lines) → CellLies lines first cell → Shows (line_texts lines) first cell
lies-shows lines first cell are lies =
    let place = first + cell.line in
    let size = length-map lines (λ (line : LineState). line.text) in
    let inside : place < length (line_texts lines) = omega (arith, lies.place, size) in
    let same = state-text lines place lies.place in
    record {
      near = omega (arith, lies.near);
      place = inside;
      parts = subst (λ (text : List ℕ). RunParts text cell.runs) (sym same) (lies.parts (subst IsUtf8 same (are.utf8 place [] inside)));
    }

-- `(CONT'D)` behind a cell.
continued-shows : (lines : List LineState) (first : ℕ) (cell : Cell) → AreTexts (line_texts lines) → CellLies lines first cell
    → Shows (line_texts lines) first (continued_cell (line_state lines (first + cell.line)).text cell)
continued-shows lines first cell are lies =
    let place = first + cell.line in
    let shows = lies-shows lines first cell are lies in
    let same = state-text lines place lies.place in
    let low = runs_width-low (text_at (line_texts lines) place) cell.runs (are.utf8 place [] shows.place) shows.parts in
    let short = are.short place [] shows.place in
    let width = ap (λ (it : List ℕ). runs_width it cell.runs) same in
    record { near = omega (arith, lies.near, low, short, width); place = shows.place; parts = tt }

-- Cells with `(CONT'D)` behind those whose speakers go on.
record CellsShow (texts : List (List ℕ)) (first most : ℕ) (cells : List Cell) : Type 0 where
  few : length cells ≤ most
  all : All (Shows texts first) cells

cells-lie : (lines : List LineState) (first : ℕ) (cells : List Cell) → AreTexts (line_texts lines) → All (CellLies lines first) cells → CellsShow (line_texts lines) first (length cells) cells
cells-lie lines first cells are all = record { few = omega arith; all = λ k d h. lies-shows lines first (get_or cells k d) are (all k d h) }

-- A cell, with `(CONT'D)` behind it where its speaker goes on.
said-show : (lines : List LineState) (first : ℕ) (goes_on : Bool) (cell : Cell) → AreTexts (line_texts lines) → CellLies lines first cell
    → CellsShow (line_texts lines) first 2 (said_cells lines first goes_on cell)
said-show lines first true cell are lies =
    let Q = Shows (line_texts lines) first in
    let behind = continued_cell (line_state lines (first + cell.line)).text cell in
    record {
      few = omega arith;
      all = All-cons Q cell (behind ∷ []) (lies-shows lines first cell are lies) (All-cons Q behind [] (continued-shows lines first cell are lies) (All-nil Q));
    }
said-show lines first false cell are lies =
    let Q = Shows (line_texts lines) first in
    record { few = omega arith; all = All-cons Q cell [] (lies-shows lines first cell are lies) (All-nil Q) }

spoken-show : (lines : List LineState) (first : ℕ) (speakers : List Bool) (cells : List Cell) → AreTexts (line_texts lines) → All (CellLies lines first) cells
    → CellsShow (line_texts lines) first (length cells + length speakers) (spoken_cells lines first speakers cells)
spoken-show lines first [] cells are all = let shown = cells-lie lines first cells are all in record { few = omega (arith, shown.few); all = shown.all }
spoken-show lines first (goes_on ∷ speakers) [] are all = record { few = omega arith; all = All-nil (Shows (line_texts lines) first) }
spoken-show lines first (goes_on ∷ speakers) (cell ∷ cells) are all =
    let Q = CellLies lines first in
    let here = said-show lines first goes_on cell are (All-head Q cell cells all) in
    let own = said_cells lines first goes_on cell in
    let later = spoken_cells lines first speakers cells in
    let behind = spoken-show lines first speakers cells are (All-tail Q cell cells all) in
    let size = length-append own later in
    record { few = omega (arith, here.few, behind.few, size); all = All-append (Shows (line_texts lines) first) own later here.all behind.all }

-- Cells in order of their columns are the same cells.
put-if : (Q : Cell → Type 0) (t : Bool) (cell other : Cell) (cells put : List Cell) → Q cell → Q other → All Q cells → All Q put → All Q (cond t (cell ∷ other ∷ cells) (other ∷ put))
put-if Q true cell other cells put one two all later = All-cons Q cell (other ∷ cells) one (All-cons Q other cells two all)
put-if Q false cell other cells put one two all later = All-cons Q other put two later

put-all : (Q : Cell → Type 0) (cell : Cell) (cells : List Cell) → Q cell → All Q cells → All Q (put_cell cell cells)
put-all Q cell [] one all = All-cons Q cell [] one all
put-all Q cell (other ∷ cells) one all =
    let behind = All-tail Q other cells all in
    put-if Q (nat_le cell.column other.column) cell other cells (put_cell cell cells) one (All-head Q other cells all) behind (put-all Q cell cells one behind)

order-all : (Q : Cell → Type 0) (cells : List Cell) → All Q cells → All Q (in_column_order cells)
order-all Q [] all = all
order-all Q (cell ∷ cells) all = put-all Q cell (in_column_order cells) (All-head Q cell cells all) (order-all Q cells (All-tail Q cell cells all))

length-put-if : (t : Bool) (cell other : Cell) (cells put : List Cell) → length put ≡ suc (length cells) → length (cond t (cell ∷ other ∷ cells) (other ∷ put)) ≡ suc (suc (length cells))
length-put-if true cell other cells put size = refl
length-put-if false cell other cells put size = ap suc size

length-put : (cell : Cell) (cells : List Cell) → length (put_cell cell cells) ≡ suc (length cells)
length-put cell [] = refl
length-put cell (other ∷ cells) = length-put-if (nat_le cell.column other.column) cell other cells (put_cell cell cells) (length-put cell cells)

length-order : (cells : List Cell) → length (in_column_order cells) ≡ length cells
length-order [] = refl
length-order (cell ∷ cells) = length-put cell (in_column_order cells) ∙ ap suc (length-order cells)

-- A row of an element whose speakers may go on, before it is placed in the text.
pub record OwnShows (texts : List (List ℕ)) (first : ℕ) (row : Row) : Type 0 where
  pub place : first + row.line < length texts
  pub few : length row.cells ≤ 4
  pub cells : All (Shows texts first) row.cells

near-own : (lines : List LineState) (first most : ℕ) (those : List Row) → AreTexts (line_texts lines) → most ≤ 4 → All (RowNear lines first most) those → All (OwnShows (line_texts lines) first) those
near-own lines first most those are below all =
    λ k d h.
    let row = get_or those k d in
    let is = all k d h in
    let fits = is.fits in
    let size = length-map lines (λ (line : LineState). line.text) in
    let shown = cells-lie lines first row.cells are is.lies in
    record { place = omega (arith, fits.place, size); few = omega (arith, fits.few, below); cells = shown.all }

spoken-own : (lines : List LineState) (first most : ℕ) (speakers : List Bool) (those : List Row) → AreTexts (line_texts lines) → most + length speakers ≤ 4
    → All (RowNear lines first most) those → All (OwnShows (line_texts lines) first) (spoken_rows lines first speakers those)
spoken-own lines first most speakers [] are below all = All-nil (OwnShows (line_texts lines) first)
spoken-own lines first most speakers (row ∷ later) are below all =
    let here = All-head (RowNear lines first most) row later all in
    let fits = here.fits in
    let cells = spoken_cells lines first speakers row.cells in
    let shown = spoken-show lines first speakers row.cells are here.lies in
    let order = length-order cells in
    let size = length-map lines (λ (line : LineState). line.text) in
    All-cons (OwnShows (line_texts lines) first) (record row { cells = in_column_order cells }) later
    (record { place = omega (arith, fits.place, size); few = omega (arith, fits.few, shown.few, order, below); cells = order-all (Shows (line_texts lines) first) cells shown.all })
    (near-own lines first most later are (omega (arith, below)) (All-tail (RowNear lines first most) row later all))

pub rows-if : (P : Row → Type 0) (t : Bool) (one other : List Row) → All P one → All P other → All P (cond t one other)
rows-if P true one other a b = a
rows-if P false one other a b = b

speakers-own : (lines : List LineState) (first most : ℕ) (speakers : List Bool) (those : List Row) → AreTexts (line_texts lines) → most + length speakers ≤ 4
    → All (RowNear lines first most) those → All (OwnShows (line_texts lines) first) (with_speakers lines first speakers those)
speakers-own lines first most speakers those are below all =
    rows-if (OwnShows (line_texts lines) first) (list_any (λ goes_on. goes_on) speakers) (spoken_rows lines first speakers those) those
    (spoken-own lines first most speakers those are below all) (near-own lines first most those are (omega (arith, below)) all)

-- The rows of an element, with places in the text.
pub own-placed : (texts : List (List ℕ)) (first : ℕ) (those : List Row) → All (OwnShows texts first) those → All (RowShows texts) (map (shifted_row first) those)
own-placed texts first [] all = All-nil (RowShows texts)
own-placed texts first (row ∷ later) all =
    let here = All-head (OwnShows texts first) row later all in
    let size = length-map row.cells (shifted_cell first) in
    All-cons (RowShows texts) (shifted_row first row) (map (shifted_row first) later)
    (record { place = here.place; few = omega (arith, size, here.few); cells = All-map (ShowsParts texts) (shifted_cell first) row.cells here.cells })
    (own-placed texts first later (All-tail (OwnShows texts first) row later all))

-- The rows of a block by itself, and of two speeches side by side, before their speakers are told.
alone-fit : (lines : List LineState) (first : ℕ) (block : BlockOf) → BlockLies (line_texts lines) first block → All (RowFits lines first 3) (block_alone lines first block)
alone-fit lines first block lies =
    let made = rows.block_rows lines first 0 sides.Alone block in
    let same : first + 0 ≡ first = omega arith in
    shaped-fit lines first 3 (first_lead block.kind) 0 (with_number block made) (with_number-fit lines first block made (block_rows-fit lines first first 0 sides.Alone block same lies))

beside-fit : (lines : List LineState) (first : ℕ) (left : BlockOf) (second_first : ℕ) (right : BlockOf) → BlockLies (line_texts lines) first left → BlockLies (line_texts lines) second_first right
    → first ≤ second_first → All (RowFits lines first 2) (blocks_beside lines first left second_first right)
beside-fit lines first left second_first right l r order =
    let shift = second_first - first in
    let same : first + 0 ≡ first = omega arith in
    let there : first + shift ≡ second_first = omega (arith, order) in
    let one = rows.block_rows lines first 0 sides.Left left in
    let other = rows.block_rows lines second_first shift sides.Right right in
    shaped-fit lines first 2 1 0 (joined_rows one other)
    (joined-fit lines first one other (block_rows-fit lines first first 0 sides.Left left same l) (block_rows-fit lines first second_first shift sides.Right right there r))

-- The rows of a block that lies in the text.
pub single-own : (lines : List LineState) (placed : PlacedBlock) (continued : Bool) → AreTexts (line_texts lines) → PlacedLies (line_texts lines) placed
    → All (OwnShows (line_texts lines) placed.first) (single_rows lines placed.first placed.block continued)
single-own lines placed continued are lies =
    let texts = line_texts lines in
    let first = placed.first in
    let block = placed.block in
    let own = block_alone lines first block in
    let near = both-near lines first 3 own (alone-fit lines first block lies) (block_alone-lies lines first block lies) in
    rows-if (OwnShows texts first) (has_rows block.kind) _ []
    (rows-if (OwnShows texts first) (is_title block.kind) (map title_row own) (with_speakers lines first (continued ∷ []) own)
    (near-own lines first 3 (map title_row own) are (omega arith) (titles-near lines first 3 own near))
    (speakers-own lines first 3 (continued ∷ []) own are (omega arith) near))
    (All-nil (OwnShows texts first))

-- The rows of two speeches that lie in the text, the second not before the first.
pub dual-own : (lines : List LineState) (left right : PlacedBlock) (continued second_continued : Bool) → AreTexts (line_texts lines) → PlacedLies (line_texts lines) left → PlacedLies (line_texts lines) right
    → left.first ≤ right.first
    → All (OwnShows (line_texts lines) left.first) (dual_rows lines left.first left.block continued right.first right.block second_continued)
dual-own lines left right continued second_continued are l r order =
    let first = left.first in
    let second_first = right.first in
    let own = blocks_beside lines first left.block second_first right.block in
    speakers-own lines first 2 (continued ∷ second_continued ∷ []) own are (omega arith)
    (both-near lines first 2 own (beside-fit lines first left.block second_first right.block l r order) (blocks_beside-lies lines first left.block second_first right.block l r order))

-- The lines of such rows are there.
abbrev InLines : List LineState → ℕ → Row → Type 0
InLines lines first row = first + row.line < length lines

titles-inside : (lines : List LineState) (first : ℕ) (those : List Row) → All (InLines lines first) those → All (InLines lines first) (map title_row those)
titles-inside lines first [] all = all
titles-inside lines first (row ∷ later) all =
    All-cons (InLines lines first) (title_row row) (map title_row later) (All-head (InLines lines first) row later all) (titles-inside lines first later (All-tail (InLines lines first) row later all))

spoken-inside : (lines : List LineState) (first : ℕ) (speakers : List Bool) (those : List Row) → All (InLines lines first) those → All (InLines lines first) (spoken_rows lines first speakers those)
spoken-inside lines first speakers [] all = all
spoken-inside lines first speakers (row ∷ later) all =
    All-cons (InLines lines first) _ later (All-head (InLines lines first) row later all) (All-tail (InLines lines first) row later all)

speakers-inside : (lines : List LineState) (first : ℕ) (speakers : List Bool) (those : List Row) → All (InLines lines first) those → All (InLines lines first) (with_speakers lines first speakers those)
speakers-inside lines first speakers those all =
    rows-if (InLines lines first) (list_any (λ goes_on. goes_on) speakers) (spoken_rows lines first speakers those) those (spoken-inside lines first speakers those all) all

pub single_rows-inside : (lines : List LineState) (first : ℕ) (block : BlockOf) (continued : Bool) → BlockLies (line_texts lines) first block
    → All (λ (row : Row). first + row.line < length lines) (single_rows lines first block continued)
single_rows-inside lines first block continued lies =
    let P = InLines lines first in
    let own = block_alone lines first block in
    let all : All P own = λ k d h. (alone-fit lines first block lies k d h).place in
    rows-if P (has_rows block.kind) _ []
    (rows-if P (is_title block.kind) (map title_row own) (with_speakers lines first (continued ∷ []) own) (titles-inside lines first own all) (speakers-inside lines first (continued ∷ []) own all))
    (All-nil P)

pub dual_rows-inside : (lines : List LineState) (first : ℕ) (left : BlockOf) (continued : Bool) (second_first : ℕ) (right : BlockOf) (second_continued : Bool) → BlockLies (line_texts lines) first left
    → BlockLies (line_texts lines) second_first right → first ≤ second_first
    → All (λ (row : Row). first + row.line < length lines) (dual_rows lines first left continued second_first right second_continued)
dual_rows-inside lines first left continued second_first right second_continued l r order =
    speakers-inside lines first (continued ∷ second_continued ∷ []) (blocks_beside lines first left second_first right)
    (λ k d h. (beside-fit lines first left second_first right l r order k d h).place)
