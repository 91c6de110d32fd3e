-- The rows of an element at places of the text, and what becomes of them where their lines move.
use Rattle.std.proofs.Common.{◌≡◌, ℕ, ◌+◌, ◌-◌, ◌<◌, ◌≤◌, ◌==◌, ◌&&◌, Bool, true, false, cond, List, [], ◌∷◌, ◌++◌, length, map, refl, sym, ap, ap₂, ◌∙◌, arith}
use Rattle.std.specs.Prelude.{All, nat_le}
use Rattle.std.specs.List.{flat_map, list_any}
use Rattle.std.proofs.lemmas.List.{length-map, map-append}
use Rattle.std.proofs.lemmas.List.Elements.{All-head, All-tail}
use Rattle.spec_text.specs.Lines.{LineState}
use Rattle.spec_script.specs.declared.Kind.{Kind}
use Rattle.spec_script.specs.BlockValues.{LineOf, BlockOf}
use Rattle.spec_script.specs.BlockParts.{Rise, line_from, line_to}
use Rattle.spec_script.specs.Stanzas.{PlacedBlock}
use Rattle.spec_script.specs.Visible.{plain_runs}
use Rattle.spec_pages.specs.declared.Side.{Side}
use Rattle.spec_pages.specs.declared.Side.TheVariants as sides
use Rattle.spec_pages.specs.Columns.{column_of, width_of, row_kind, first_lead, has_rows}
use Rattle.spec_pages.specs.Pages.{is_dialogue}
use Rattle.spec_pages.specs.Sentences.{ends_sentence, shown_chars}
use Rattle.spec_pages.specs.Wrapping.{WrappedRow, wrapped}
use Rattle.spec_pages.specs.Rows.{Cell, Row, LineContext, line_state, own_lead, line_rows_from, line_rows, with_number, shaped_row, shaped_rows, continued_cell, spoken_cells, put_cell, in_column_order, with_speakers, is_title, title_row, half_row, joined_rows, single_rows, dual_rows, shifted_row, blocks_beside, block_alone}
use Rattle.spec_pages.specs.Rows as rows
use Rattle.spec_sheets.proofs.ElementPlaces.{LinesRise}
use Rattle.spec_edit.specs.RowLines.{RowAt}

-- A cell and a row whose lines move.
abbrev pub cell_to : (ℕ → ℕ) → Cell → Cell
cell_to to cell = record cell { line = to cell.line }

abbrev pub row_to : (ℕ → ℕ) → Row → Row
row_to to row = record row { line = to row.line; cells = map (cell_to to) row.cells }

everywhere : (P : ℕ → Type 0) → ((place : ℕ) → P place) → (those : List Row) → All (RowAt P) those
everywhere P each those k d h = record { row = each _; cells = λ j e g. each _ }

-- ---- the rows of lines

-- The row of a line that stands at a place, by the line's mark and text.
abbrev row_on : Side → Kind → ℕ → List ℕ → LineOf → ℕ → ℕ → WrappedRow → Row
row_on side kind mark text line place number it = record {
  line = place;
  row = number;
  mark = mark;
  shape = record {
    lead = own_lead line number;
    kind = row_kind kind line.part;
    index = 0;
    rest = 0;
    sentence_end = is_dialogue (row_kind kind line.part) && ends_sentence (shown_chars text it.runs);
  };
  cells = record { column = column_of side kind line.part it.width; line = place; runs = it.runs; fixed = false; number = false } ∷ [];
}

abbrev pub rows_on : Side → Kind → ℕ → List ℕ → LineOf → ℕ → ℕ → List WrappedRow → List Row
rows_on side kind mark text line place number [] = []
rows_on side kind mark text line place number (it ∷ later) = row_on side kind mark text line place number it ∷ rows_on side kind mark text line place (number + 1) later

on-place : (context : LineContext) (line : LineOf) (number : ℕ) (those : List WrappedRow)
    → line_rows_from context line number those ≡ rows_on context.side context.kind context.mark context.text line (context.shift + line.offset) number those
on-place context line number [] = refl
on-place context line number (it ∷ later) =
    ap (λ (made : List Row). row_on context.side context.kind context.mark context.text line (context.shift + line.offset) number it ∷ made) (on-place context line (number + 1) later)

on-to : (to : ℕ → ℕ) (side : Side) (kind : Kind) (mark : ℕ) (text : List ℕ) (line : LineOf) (place number : ℕ) (those : List WrappedRow)
    → map (row_to to) (rows_on side kind mark text line place number those) ≡ rows_on side kind mark text line (to place) number those
on-to to side kind mark text line place number [] = refl
on-to to side kind mark text line place number (it ∷ later) =
    ap (λ (made : List Row). row_on side kind mark text line (to place) number it ∷ made) (on-to to side kind mark text line place (number + 1) later)

-- The rows of a line, and of a block's lines, with places in the text.
abbrev pub line_on : List LineState → ℕ → Side → Kind → LineOf → List Row
line_on lines base side kind line =
    rows_on side kind (line_state lines (base + line.offset)).mark (line_state lines (base + line.offset)).text line (base + line.offset) 0
    (wrapped (line_state lines (base + line.offset)).text line.runs (width_of side kind line.part))

abbrev pub lines_on : List LineState → ℕ → Side → Kind → List LineOf → List Row
lines_on lines base side kind those = flat_map (line_on lines base side kind) those

abbrev pub block_on : List LineState → ℕ → Side → BlockOf → List Row
block_on lines base side block = lines_on lines base side block.kind block.lines

lines-on : (lines : List LineState) (first base shift : ℕ) (side : Side) (kind : Kind) (those : List LineOf) → first + shift ≡ base
    → map (row_to (λ n. first + n)) (flat_map (line_rows lines base shift side kind) those) ≡ lines_on lines base side kind those
lines-on lines first base shift side kind [] is = refl
lines-on lines first base shift side kind (line ∷ those) is =
    let to : ℕ → ℕ = λ n. first + n in
    let state = line_state lines (base + line.offset) in
    let wraps = wrapped state.text line.runs (width_of side kind line.part) in
    let at : first + (shift + line.offset) ≡ base + line.offset = omega (arith, is) in
    map-append (row_to to) (line_rows lines base shift side kind line) (flat_map (line_rows lines base shift side kind) those)
    ∙ ap₂ (λ (a b : List Row). a ++ b)
    (ap (map (row_to to)) (on-place (record { side = side; kind = kind; mark = state.mark; text = state.text; shift = shift }) line 0 wraps)
    ∙ on-to to side kind state.mark state.text line (shift + line.offset) 0 wraps
    ∙ ap (λ p. rows_on side kind state.mark state.text line p 0 wraps) at)
    (lines-on lines first base shift side kind those is)

-- The lines from a place of a stanza to another stand in another text where the edit moves them.
pub record StandsMoved (to : ℕ → ℕ) (lines later : List LineState) (first new low high : ℕ) : Type 0 where
  pub place : (n : ℕ) → low ≤ n → n < high → to (first + n) ≡ new + n
  pub line : (n : ℕ) → low ≤ n → n < high → line_state later (new + n) ≡ line_state lines (first + n)

rise-order : (from high : ℕ) (those : List LineOf) → Rise line_from line_to from high those → from ≤ high
rise-order from high [] rise = rise
rise-order from high (line ∷ those) rise = omega (arith, rise.0, rise-order (line.offset + 1) high those rise.2)

lines-moved : (to : ℕ → ℕ) (lines later : List LineState) (first new low high : ℕ) (side : Side) (kind : Kind) (from : ℕ) (those : List LineOf)
    → StandsMoved to lines later first new low high → low ≤ from → Rise line_from line_to from high those
    → lines_on later new side kind those ≡ map (row_to to) (lines_on lines first side kind those)
lines-moved to lines later first new low high side kind from [] moved above rise = refl
lines-moved to lines later first new low high side kind from (line ∷ those) moved above rise =
    let inside : line.offset < high = omega (arith, rise-order (line.offset + 1) high those rise.2) in
    let below : low ≤ line.offset = omega (arith, above, rise.0) in
    let state = line_state lines (first + line.offset) in
    let wraps = wrapped state.text line.runs (width_of side kind line.part) in
    ap₂ (λ (a b : List Row). a ++ b)
    (ap (λ (it : LineState). rows_on side kind it.mark it.text line (new + line.offset) 0 (wrapped it.text line.runs (width_of side kind line.part))) (moved.line line.offset below inside)
    ∙ ap (λ p. rows_on side kind state.mark state.text line p 0 wraps) (sym (moved.place line.offset below inside))
    ∙ sym (on-to to side kind state.mark state.text line (first + line.offset) 0 wraps))
    (lines-moved to lines later first new low high side kind (line.offset + 1) those moved (omega (arith, below)) rise.2)
    ∙ sym (map-append (row_to to) (line_on lines first side kind line) (lines_on lines first side kind those))

-- ---- what is made of rows

shaped-to : (to : ℕ → ℕ) (lead index : ℕ) (those : List Row) → map (row_to to) (shaped_rows lead index those) ≡ shaped_rows lead index (map (row_to to) those)
shaped-to to lead index [] = refl
shaped-to to lead index (row ∷ later) =
    ap₂ (λ n (made : List Row). row_to to (shaped_row lead index n row) ∷ made) (sym (length-map later (row_to to))) (shaped-to to lead (index + 1) later)

halves-to : (to : ℕ → ℕ) (those : List Row) → map (row_to to) (map half_row those) ≡ map half_row (map (row_to to) those)
halves-to to [] = refl
halves-to to (row ∷ later) = ap (λ (made : List Row). row_to to (half_row row) ∷ made) (halves-to to later)

titles-to : (to : ℕ → ℕ) (those : List Row) → map (row_to to) (map title_row those) ≡ map title_row (map (row_to to) those)
titles-to to [] = refl
titles-to to (row ∷ later) = ap (λ (made : List Row). row_to to (title_row row) ∷ made) (titles-to to later)

joined-to : (to : ℕ → ℕ) (left right : List Row) → map (row_to to) (joined_rows left right) ≡ joined_rows (map (row_to to) left) (map (row_to to) right)
joined-to to [] right = halves-to to right
joined-to to (row ∷ left) [] = ap (λ (made : List Row). row_to to (half_row row) ∷ made) (joined-to to left [])
joined-to to (row ∷ left) (other ∷ right) =
    ap₂ (λ (cells : List Cell) (made : List Row). record (row_to to (rows.joined_row row other)) { cells = cells } ∷ made)
    (map-append (cell_to to) row.cells other.cells) (joined-to to left right)

-- A heading's number, where its line stands at a place.
abbrev pub number_on : ℕ → BlockOf → ℕ → Cell
number_on place block column = record { column = column; line = place; runs = plain_runs block.number; fixed = false; number = true }

abbrev pub numbered_on : ℕ → BlockOf → List Row → List Row
numbered_on place block [] = []
numbered_on place block (row ∷ later) =
    record row { cells = cond (length block.number == 0) row.cells (number_on place block rows.number_before ∷ row.cells ++ number_on place block rows.number_behind ∷ []) } ∷ later

numbered-on : (block : BlockOf) (those : List Row) → with_number block those ≡ numbered_on block.first block those
numbered-on block [] = refl
numbered-on block (row ∷ later) = refl

numbered-to : (to : ℕ → ℕ) (place : ℕ) (block : BlockOf) (those : List Row)
    → map (row_to to) (numbered_on place block those) ≡ numbered_on (to place) block (map (row_to to) those)
numbered-to to place block [] = refl
numbered-to to place block (row ∷ later) =
    ap (λ (cells : List Cell). record (row_to to row) { cells = cells } ∷ map (row_to to) later) (by (length block.number == 0))
  where
    by : (b : Bool) → map (cell_to to) (cond b row.cells (number_on place block rows.number_before ∷ row.cells ++ number_on place block rows.number_behind ∷ []))
        ≡ cond b (map (cell_to to) row.cells) (number_on (to place) block rows.number_before ∷ map (cell_to to) row.cells ++ number_on (to place) block rows.number_behind ∷ [])
    by true = refl
    by false = ap (λ (cells : List Cell). number_on (to place) block rows.number_before ∷ cells) (map-append (cell_to to) row.cells (number_on place block rows.number_behind ∷ []))

-- ---- speakers

-- The cells of a row whose speakers go on, by the texts of lines.
abbrev pub said_on : (ℕ → List ℕ) → Bool → Cell → List Cell
said_on text goes_on cell = cond goes_on (cell ∷ continued_cell (text cell.line) cell ∷ []) (cell ∷ [])

abbrev pub spoken_on : (ℕ → List ℕ) → List Bool → List Cell → List Cell
spoken_on text [] cells = cells
spoken_on text (goes_on ∷ speakers) [] = []
spoken_on text (goes_on ∷ speakers) (cell ∷ cells) = said_on text goes_on cell ++ spoken_on text speakers cells

abbrev pub first_spoken : (ℕ → List ℕ) → List Bool → List Row → List Row
first_spoken text speakers [] = []
first_spoken text speakers (row ∷ later) = record row { cells = in_column_order (spoken_on text speakers row.cells) } ∷ later

abbrev pub speaking : (ℕ → List ℕ) → List Bool → List Row → List Row
speaking text speakers those = cond (list_any (λ goes_on. goes_on) speakers) (first_spoken text speakers those) those

-- The texts of lines, by places of the text, and from a line on.
abbrev pub texts_at : List LineState → ℕ → List ℕ
texts_at lines place = (line_state lines place).text

abbrev texts_from : List LineState → ℕ → ℕ → List ℕ
texts_from lines first n = (line_state lines (first + n)).text

spoken-is : (lines : List LineState) (first : ℕ) (speakers : List Bool) (cells : List Cell) → spoken_cells lines first speakers cells ≡ spoken_on (texts_from lines first) speakers cells
spoken-is lines first [] cells = refl
spoken-is lines first (goes_on ∷ speakers) [] = refl
spoken-is lines first (goes_on ∷ speakers) (cell ∷ cells) = ap (λ (made : List Cell). said_on (texts_from lines first) goes_on cell ++ made) (spoken-is lines first speakers cells)

speaking-is : (lines : List LineState) (first : ℕ) (speakers : List Bool) (those : List Row) → with_speakers lines first speakers those ≡ speaking (texts_from lines first) speakers those
speaking-is lines first speakers [] = refl
speaking-is lines first speakers (row ∷ later) =
    ap (λ (cells : List Cell). cond (list_any (λ goes_on. goes_on) speakers) (record row { cells = in_column_order cells } ∷ later) (row ∷ later)) (spoken-is lines first speakers row.cells)

put-to : (to : ℕ → ℕ) (cell : Cell) (cells : List Cell) → map (cell_to to) (put_cell cell cells) ≡ put_cell (cell_to to cell) (map (cell_to to) cells)
put-to to cell [] = refl
put-to to cell (other ∷ cells) = by (nat_le cell.column other.column) (put-to to cell cells)
  where
    by : (b : Bool) → map (cell_to to) (put_cell cell cells) ≡ put_cell (cell_to to cell) (map (cell_to to) cells)
        → map (cell_to to) (cond b (cell ∷ other ∷ cells) (other ∷ put_cell cell cells))
        ≡ cond b (cell_to to cell ∷ cell_to to other ∷ map (cell_to to) cells) (cell_to to other ∷ put_cell (cell_to to cell) (map (cell_to to) cells))
    by true rest = refl
    by false rest = ap (λ (made : List Cell). cell_to to other ∷ made) rest

order-to : (to : ℕ → ℕ) (cells : List Cell) → map (cell_to to) (in_column_order cells) ≡ in_column_order (map (cell_to to) cells)
order-to to [] = refl
order-to to (cell ∷ cells) = put-to to cell (in_column_order cells) ∙ ap (put_cell (cell_to to cell)) (order-to to cells)

-- A line has the same text in both texts, where it moves.
abbrev pub SameText : (ℕ → ℕ) → (ℕ → List ℕ) → (ℕ → List ℕ) → ℕ → Type 0
SameText to old new place = new (to place) ≡ old place

said-to : (to : ℕ → ℕ) (old new : ℕ → List ℕ) (goes_on : Bool) (cell : Cell) → SameText to old new cell.line
    → map (cell_to to) (said_on old goes_on cell) ≡ said_on new goes_on (cell_to to cell)
said-to to old new true cell same =
    ap (λ (text : List ℕ). cell_to to cell ∷ continued_cell text (cell_to to cell) ∷ []) (sym same)
said-to to old new false cell same = refl

spoken-to : (to : ℕ → ℕ) (old new : ℕ → List ℕ) (speakers : List Bool) (cells : List Cell) → All (λ (cell : Cell). SameText to old new cell.line) cells
    → map (cell_to to) (spoken_on old speakers cells) ≡ spoken_on new speakers (map (cell_to to) cells)
spoken-to to old new [] cells all = refl
spoken-to to old new (goes_on ∷ speakers) [] all = refl
spoken-to to old new (goes_on ∷ speakers) (cell ∷ cells) all =
    let Q : Cell → Type 0 = λ (cell : Cell). SameText to old new cell.line in
    map-append (cell_to to) (said_on old goes_on cell) (spoken_on old speakers cells)
    ∙ ap₂ (λ (a b : List Cell). a ++ b) (said-to to old new goes_on cell (All-head Q cell cells all)) (spoken-to to old new speakers cells (All-tail Q cell cells all))

speaking-to : (to : ℕ → ℕ) (old new : ℕ → List ℕ) (speakers : List Bool) (those : List Row) → All (RowAt (SameText to old new)) those
    → map (row_to to) (speaking old speakers those) ≡ speaking new speakers (map (row_to to) those)
speaking-to to old new speakers [] all = by (list_any (λ goes_on. goes_on) speakers)
  where
    by : (b : Bool) → map (row_to to) (cond b [] []) ≡ cond b [] []
    by true = refl
    by false = refl
speaking-to to old new speakers (row ∷ later) all =
    by (list_any (λ goes_on. goes_on) speakers)
    (order-to to (spoken_on old speakers row.cells) ∙ ap in_column_order (spoken-to to old new speakers row.cells (All-head (RowAt (SameText to old new)) row later all).cells))
  where
    by : (b : Bool) → map (cell_to to) (in_column_order (spoken_on old speakers row.cells)) ≡ in_column_order (spoken_on new speakers (map (cell_to to) row.cells))
        → map (row_to to) (cond b (record row { cells = in_column_order (spoken_on old speakers row.cells) } ∷ later) (row ∷ later))
        ≡ cond b (record (row_to to row) { cells = in_column_order (spoken_on new speakers (map (cell_to to) row.cells)) } ∷ map (row_to to) later) (map (row_to to) (row ∷ later))
    by true same = ap (λ (cells : List Cell). record (row_to to row) { cells = cells } ∷ map (row_to to) later) same
    by false same = refl

-- ---- elements

map-cond : (to : ℕ → ℕ) (b : Bool) (made : List Row) → map (row_to to) (cond b made []) ≡ cond b (map (row_to to) made) []
map-cond to true made = refl
map-cond to false made = refl

map-either : (to : ℕ → ℕ) (b : Bool) (one other : List Row) → map (row_to to) (cond b one other) ≡ cond b (map (row_to to) one) (map (row_to to) other)
map-either to true one other = refl
map-either to false one other = refl

-- The rows of a block by itself, and of two side by side, with places in the text.
abbrev pub alone_on : List LineState → PlacedBlock → List Row
alone_on lines placed = shaped_rows (first_lead placed.block.kind) 0 (numbered_on (placed.first + placed.block.first) placed.block (block_on lines placed.first sides.Alone placed.block))

abbrev pub single_on : List LineState → PlacedBlock → Bool → List Row
single_on lines placed continued =
    cond (has_rows placed.block.kind) (cond (is_title placed.block.kind) (map title_row (alone_on lines placed)) (speaking (texts_at lines) (continued ∷ []) (alone_on lines placed))) []

abbrev pub beside_on : List LineState → PlacedBlock → PlacedBlock → List Row
beside_on lines left right = shaped_rows 1 0 (joined_rows (block_on lines left.first sides.Left left.block) (block_on lines right.first sides.Right right.block))

abbrev pub pair_on : List LineState → PlacedBlock → Bool → PlacedBlock → Bool → List Row
pair_on lines left continued right second = speaking (texts_at lines) (continued ∷ second ∷ []) (beside_on lines left right)

alone-on : (lines : List LineState) (placed : PlacedBlock) → map (row_to (λ n. placed.first + n)) (block_alone lines placed.first placed.block) ≡ alone_on lines placed
alone-on lines placed =
    let block = placed.block in
    let to : ℕ → ℕ = λ n. placed.first + n in
    let made = rows.block_rows lines placed.first 0 sides.Alone block in
    let same : placed.first + 0 ≡ placed.first = omega arith in
    shaped-to to (first_lead block.kind) 0 (with_number block made)
    ∙ ap (shaped_rows (first_lead block.kind) 0)
    (ap (map (row_to to)) (numbered-on block made) ∙ numbered-to to block.first block made
    ∙ ap (numbered_on (placed.first + block.first) block) (lines-on lines placed.first placed.first 0 sides.Alone block.kind block.lines same))

speaking-on : (lines : List LineState) (first : ℕ) (speakers : List Bool) (made on : List Row) → map (row_to (λ n. first + n)) made ≡ on
    → map (row_to (λ n. first + n)) (with_speakers lines first speakers made) ≡ speaking (texts_at lines) speakers on
speaking-on lines first speakers made on is =
    let to : ℕ → ℕ = λ n. first + n in
    ap (map (row_to to)) (speaking-is lines first speakers made)
    ∙ speaking-to to (texts_from lines first) (texts_at lines) speakers made (everywhere (SameText to (texts_from lines first) (texts_at lines)) (λ place. refl) made)
    ∙ ap (speaking (texts_at lines) speakers) is

pub single-on : (lines : List LineState) (placed : PlacedBlock) (continued : Bool) → map (shifted_row placed.first) (single_rows lines placed.first placed.block continued) ≡ single_on lines placed continued
single-on lines placed continued =
    let block = placed.block in
    let to : ℕ → ℕ = λ n. placed.first + n in
    let made = block_alone lines placed.first block in
    map-cond to (has_rows block.kind) (rows.finished_rows lines placed.first block continued)
    ∙ ap (λ (those : List Row). cond (has_rows block.kind) those [])
    (map-either to (is_title block.kind) (map title_row made) (with_speakers lines placed.first (continued ∷ []) made)
    ∙ ap₂ (λ (one other : List Row). cond (is_title block.kind) one other)
    (titles-to to made ∙ ap (map title_row) (alone-on lines placed))
    (speaking-on lines placed.first (continued ∷ []) made (alone_on lines placed) (alone-on lines placed)))

pub pair-on : (lines : List LineState) (left : PlacedBlock) (continued : Bool) (right : PlacedBlock) (second : Bool) → left.first ≤ right.first
    → map (shifted_row left.first) (dual_rows lines left.first left.block continued right.first right.block second) ≡ pair_on lines left continued right second
pair-on lines left continued right second order =
    let to : ℕ → ℕ = λ n. left.first + n in
    let shift = right.first - left.first in
    let one = rows.block_rows lines left.first 0 sides.Left left.block in
    let other = rows.block_rows lines right.first shift sides.Right right.block in
    let same : left.first + 0 ≡ left.first = omega arith in
    let there : left.first + shift ≡ right.first = omega (arith, order) in
    speaking-on lines left.first (continued ∷ second ∷ []) (blocks_beside lines left.first left.block right.first right.block) (beside_on lines left right)
    (shaped-to to 1 0 (joined_rows one other)
    ∙ ap (shaped_rows 1 0)
    (joined-to to one other
    ∙ ap₂ joined_rows (lines-on lines left.first left.first 0 sides.Left left.block.kind left.block.lines same)
    (lines-on lines left.first right.first shift sides.Right right.block.kind right.block.lines there)))

-- A block whose lines an edit moves, and the same block after it.
pub record BlockMoves (to : ℕ → ℕ) (lines later : List LineState) (placed moved : PlacedBlock) : Type 0 where
  pub block : moved.block ≡ placed.block
  pub rise : LinesRise placed
  pub stands : StandsMoved to lines later placed.first moved.first placed.block.first (placed.block.last + 1)
  pub some : placed.block.first < placed.block.last + 1

block-moved : (to : ℕ → ℕ) (lines later : List LineState) (side : Side) (placed moved : PlacedBlock) → BlockMoves to lines later placed moved
    → block_on later moved.first side placed.block ≡ map (row_to to) (block_on lines placed.first side placed.block)
block-moved to lines later side placed moved m =
    lines-moved to lines later placed.first moved.first placed.block.first (placed.block.last + 1) side placed.block.kind placed.block.first placed.block.lines m.stands (omega arith) m.rise

-- The rows of a block by itself, and those of two side by side, before speakers go on.
pub alone-moved : (to : ℕ → ℕ) (lines later : List LineState) (placed moved : PlacedBlock) → BlockMoves to lines later placed moved
    → alone_on later moved ≡ map (row_to to) (alone_on lines placed)
alone-moved to lines later placed moved m =
    let block = placed.block in
    let own = block_on lines placed.first sides.Alone block in
    let at : moved.first + block.first ≡ to (placed.first + block.first) = sym ((m.stands).place block.first (omega arith) m.some) in
    ap (λ (it : BlockOf). alone_on later (record { first = moved.first; block = it })) m.block
    ∙ ap (shaped_rows (first_lead block.kind) 0)
    (ap₂ (λ p (those : List Row). numbered_on p block those) at (block-moved to lines later sides.Alone placed moved m)
    ∙ sym (numbered-to to (placed.first + block.first) block own))
    ∙ sym (shaped-to to (first_lead block.kind) 0 (numbered_on (placed.first + block.first) block own))

pub beside-moved : (to : ℕ → ℕ) (lines later : List LineState) (left right one other : PlacedBlock) → BlockMoves to lines later left one → BlockMoves to lines later right other
    → beside_on later one other ≡ map (row_to to) (beside_on lines left right)
beside-moved to lines later left right one other l r =
    let mine = block_on lines left.first sides.Left left.block in
    let theirs = block_on lines right.first sides.Right right.block in
    ap₂ (λ (a b : BlockOf). beside_on later (record { first = one.first; block = a }) (record { first = other.first; block = b })) l.block r.block
    ∙ ap (shaped_rows 1 0)
    (ap₂ joined_rows (block-moved to lines later sides.Left left one l) (block-moved to lines later sides.Right right other r)
    ∙ sym (joined-to to mine theirs))
    ∙ sym (shaped-to to 1 0 (joined_rows mine theirs))

pub single-moved : (to : ℕ → ℕ) (lines later : List LineState) (placed moved : PlacedBlock) (continued : Bool) → BlockMoves to lines later placed moved
    → All (RowAt (SameText to (texts_at lines) (texts_at later))) (alone_on lines placed) → single_on later moved continued ≡ map (row_to to) (single_on lines placed continued)
single-moved to lines later placed moved continued m same =
    let block = placed.block in
    let own = alone_on lines placed in
    let there = alone-moved to lines later placed moved m in
    ap₂ (λ (k : Kind) (those : List Row). cond (has_rows k) (cond (is_title k) (map title_row those) (speaking (texts_at later) (continued ∷ []) those)) []) (ap (λ (it : BlockOf). it.kind) m.block) there
    ∙ ap (λ (those : List Row). cond (has_rows block.kind) those [])
    (ap₂ (λ (a b : List Row). cond (is_title block.kind) a b) (sym (titles-to to own)) (sym (speaking-to to (texts_at lines) (texts_at later) (continued ∷ []) own same))
    ∙ sym (map-either to (is_title block.kind) (map title_row own) (speaking (texts_at lines) (continued ∷ []) own)))
    ∙ sym (map-cond to (has_rows block.kind) (cond (is_title block.kind) (map title_row own) (speaking (texts_at lines) (continued ∷ []) own)))

pub pair-moved : (to : ℕ → ℕ) (lines later : List LineState) (left right one other : PlacedBlock) (continued second : Bool) → BlockMoves to lines later left one → BlockMoves to lines later right other
    → All (RowAt (SameText to (texts_at lines) (texts_at later))) (beside_on lines left right) → pair_on later one continued other second ≡ map (row_to to) (pair_on lines left continued right second)
pair-moved to lines later left right one other continued second l r same =
    ap (speaking (texts_at later) (continued ∷ second ∷ [])) (beside-moved to lines later left right one other l r)
    ∙ sym (speaking-to to (texts_at lines) (texts_at later) (continued ∷ second ∷ []) (beside_on lines left right) same)
