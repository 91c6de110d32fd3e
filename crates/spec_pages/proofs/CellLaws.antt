-- The cells of rows show parts of their lines.
use Rattle.std.proofs.Common.{◌≡◌, ℕ, ◌+◌, ◌-◌, ◌/◌, ◌<◌, ◌≤◌, ◌==◌, Bool, true, false, cond, List, [], ◌∷◌, ◌++◌, length, map, sym, subst, arith}
use Rattle.std.specs.Prelude.{All}
use Rattle.std.specs.List.{flat_map}
use Rattle.std.specs.Str.{IsUtf8}
use Rattle.std.proofs.lemmas.List.{get_or-map, length-map}
use Rattle.std.proofs.lemmas.List.Elements.{All-nil, All-cons, All-head, All-tail, All-append}
use Rattle.spec_text.specs.Limits.{line_count_limit}
use Rattle.spec_text.specs.Lines.{LineState, line_texts}
use Rattle.spec_text.specs.Parts.{Parts}
use Rattle.spec_script.specs.declared.Kind.{Kind}
use Rattle.spec_script.specs.declared.Kind.TheVariants as kinds
use Rattle.spec_script.specs.declared.Part.{Part}
use Rattle.spec_script.specs.declared.Part.TheVariants as parts
use Rattle.spec_script.specs.BlockParts.{line_at, LineLies, BlockLies}
use Rattle.spec_script.specs.BlockValues.{LineOf, BlockOf}
use Rattle.spec_script.specs.Runs.{RunParts}
use Rattle.spec_script.proofs.WindowParts.{plain_runs-RunParts}
use Rattle.spec_pages.specs.declared.Side.{Side}
use Rattle.spec_pages.specs.declared.Side.TheVariants as sides
use Rattle.spec_pages.specs.CellParts.{CellLies, RowLies}
use Rattle.spec_pages.specs.Columns.{centred_column, text_column, own_column, column_of, width_of, first_lead}
use Rattle.spec_pages.specs.Rows.{Cell, Row, LineContext, line_state, line_context, line_row, line_rows_from, line_rows, block_rows, number_before, number_behind, number_cell, numbered_cells, with_number, half_row, joined_row, joined_rows, shaped_row, shaped_rows, block_alone, blocks_beside}
use Rattle.spec_pages.specs.Wrapping.{WrappedRow, wrapped}
use Rattle.spec_pages.proofs.RowParts.{RunParts-wrapped}

-- What holds of each part of a list that is made part by part holds of the list.
pub All-flat_map : {X Y : Type 0} (P : Y → Type 0) (f : X → List Y) (xs : List X) → All (λ x. All P (f x)) xs → All P (flat_map f xs)
All-flat_map P f [] all = All-nil P
All-flat_map {X} P f (x ∷ xs) all =
    let Q : X → Type 0 = λ x. All P (f x) in
    All-append P (f x) (flat_map f xs) (All-head Q x xs all) (All-flat_map P f xs (All-tail Q x xs all))

-- The columns of rows.
centred-near : (width : ℕ) → centred_column width ≤ number_behind
centred-near width =
    let half : (60 - width) / 2 ≤ 30 = omega arith in
    omega (arith, half)

text_column-near : (kind : Kind) (width : ℕ) → text_column kind width ≤ number_behind
text_column-near kinds.Lyric width = omega arith
text_column-near kinds.Transition width = omega arith
text_column-near kinds.Centred width = centred-near width
text_column-near kinds.Heading width = omega arith
text_column-near kinds.Action width = omega arith
text_column-near kinds.Speech width = omega arith
text_column-near kinds.PageBreak width = omega arith
text_column-near kinds.Section width = omega arith
text_column-near kinds.Synopsis width = omega arith
text_column-near kinds.Title width = omega arith

own_column-near : (kind : Kind) (part : Part) (width : ℕ) → own_column kind part width ≤ number_behind
own_column-near kind parts.Text width = text_column-near kind width
own_column-near kind parts.Cue width = omega arith
own_column-near kind parts.Parenthetical width = omega arith
own_column-near kind parts.Dialogue width = omega arith
own_column-near kind parts.Sung width = omega arith
own_column-near kind parts.Held width = omega arith
own_column-near kind parts.TitleCentred width = centred-near width
own_column-near kind parts.TitleLeft width = omega arith

pub column_of-near : (side : Side) (kind : Kind) (part : Part) (width : ℕ) → column_of side kind part width ≤ number_behind
column_of-near sides.Alone kind part width = own_column-near kind part width
column_of-near sides.Left kind part width = omega arith
column_of-near sides.Right kind part width = omega arith

-- The text of the line at a place.
pub state-text : (lines : List LineState) (first place : ℕ) → first + place < length (line_texts lines) → line_at (line_texts lines) first place ≡ (line_state lines (first + place)).text
state-text lines first place inside =
    let size = length-map lines (λ (line : LineState). line.text) in
    get_or-map (λ (line : LineState). line.text) lines (first + place) (record { id = 0; mark = 0; text = [] }) [] (omega (arith, inside, size))

-- The runs are parts of the line at a place, where that is UTF-8.
abbrev LineHas : List LineState → ℕ → WrappedRow → Type 0
LineHas lines place row = IsUtf8 (line_state lines place).text → RunParts (line_state lines place).text row.runs

-- The rows of a line.
line_rows_from-lie : (lines : List LineState) (first : ℕ) (context : LineContext) (line : LineOf) (number : ℕ) (wrapped_rows : List WrappedRow)
    → length lines ≤ line_count_limit → first + (context.shift + line.offset) < length lines → All (LineHas lines (first + (context.shift + line.offset))) wrapped_rows
    → All (RowLies lines first) (line_rows_from context line number wrapped_rows)
line_rows_from-lie lines first context line number [] low inside has = All-nil (RowLies lines first)
line_rows_from-lie lines first context line number (row ∷ later) low inside has =
    let P = LineHas lines (first + (context.shift + line.offset)) in
    let Q = CellLies lines first in
    All-cons (RowLies lines first) (line_row context line number row) (line_rows_from context line (number + 1) later)
    (All-cons Q _ [] (record { near = column_of-near context.side context.kind line.part row.width; low = low; place = inside; parts = All-head P row later has }) (All-nil Q))
    (line_rows_from-lie lines first context line (number + 1) later low inside (All-tail P row later has))

line_rows-lie : (lines : List LineState) (first base shift : ℕ) (side : Side) (kind : Kind) (line : LineOf) → first + shift ≡ base → length lines ≤ line_count_limit → LineLies (line_texts lines) base line
    → All (RowLies lines first) (line_rows lines base shift side kind line)
line_rows-lie lines first base shift side kind line is low lies =
    let text = (line_state lines (base + line.offset)).text in
    let width = width_of side kind line.part in
    let there : first + (shift + line.offset) ≡ base + line.offset = omega (arith, is) in
    let size = length-map lines (λ (line : LineState). line.text) in
    let runs : RunParts text line.runs = subst (λ (text : List ℕ). RunParts text line.runs) (state-text lines base line.offset lies.place) lies.runs in
    let has : All (LineHas lines (base + line.offset)) (wrapped text line.runs width) = λ k d h utf8. RunParts-wrapped text line.runs width utf8 runs k d h in
    line_rows_from-lie lines first (line_context lines base shift side kind line) line 0 (wrapped text line.runs width) low
    (omega (arith, there, lies.place, size))
    (subst (λ place. All (LineHas lines place) (wrapped text line.runs width)) (sym there) has)

block_rows-lie : (lines : List LineState) (first base shift : ℕ) (side : Side) (block : BlockOf) → first + shift ≡ base → BlockLies (line_texts lines) base block
    → All (RowLies lines first) (block_rows lines base shift side block)
block_rows-lie lines first base shift side block is lies =
    let size = length-map lines (λ (line : LineState). line.text) in
    All-flat_map (RowLies lines first) (line_rows lines base shift side block.kind) block.lines
    (λ k d h. line_rows-lie lines first base shift side block.kind _ is (omega (arith, lies.low, size)) (lies.lines k d h))

number-lies : (lines : List LineState) (first column : ℕ) (block : BlockOf) → column ≤ number_behind → BlockLies (line_texts lines) first block
    → CellLies lines first (number_cell block column)
number-lies lines first column block near lies =
    let size = length-map lines (λ (line : LineState). line.text) in
    record {
      near = near;
      low = omega (arith, lies.low, size);
      place = omega (arith, lies.place, size);
      parts = λ utf8. plain_runs-RunParts (line_state lines (first + block.first)).text block.number
          (subst (λ (text : List ℕ). Parts text 0 block.number) (state-text lines first block.first lies.place) lies.number);
    }

-- By whether a number is written.
numbered-if : (lines : List LineState) (first : ℕ) (block : BlockOf) (cells : List Cell) (t : Bool) → BlockLies (line_texts lines) first block → All (CellLies lines first) cells
    → All (CellLies lines first) (cond t cells (number_cell block number_before ∷ cells ++ number_cell block number_behind ∷ []))
numbered-if lines first block cells true lies all = all
numbered-if lines first block cells false lies all =
    let Q = CellLies lines first in
    let behind = number_cell block number_behind in
    All-cons Q (number_cell block number_before) (cells ++ behind ∷ []) (number-lies lines first number_before block (omega arith) lies)
    (All-append Q cells (behind ∷ []) all (All-cons Q behind [] (number-lies lines first number_behind block (omega arith) lies) (All-nil Q)))

with_number-lie : (lines : List LineState) (first : ℕ) (block : BlockOf) (rows : List Row) → BlockLies (line_texts lines) first block → All (RowLies lines first) rows
    → All (RowLies lines first) (with_number block rows)
with_number-lie lines first block [] lies all = All-nil (RowLies lines first)
with_number-lie lines first block (row ∷ later) lies all =
    let P = RowLies lines first in
    All-cons P (record row { cells = numbered_cells block row.cells }) later
    (numbered-if lines first block row.cells (length block.number == 0) lies (All-head P row later all))
    (All-tail P row later all)

-- Shaped rows have the same cells.
shaped_rows-lie : (lines : List LineState) (first lead index : ℕ) (rows : List Row) → All (RowLies lines first) rows → All (RowLies lines first) (shaped_rows lead index rows)
shaped_rows-lie lines first lead index [] all = All-nil (RowLies lines first)
shaped_rows-lie lines first lead index (row ∷ later) all =
    let P = RowLies lines first in
    All-cons P (shaped_row lead index (length later) row) (shaped_rows lead (index + 1) later) (All-head P row later all)
    (shaped_rows-lie lines first lead (index + 1) later (All-tail P row later all))

-- The rows of a block by itself, before its speaker is told.
pub block_alone-lies : (lines : List LineState) (first : ℕ) (block : BlockOf) → BlockLies (line_texts lines) first block → All (RowLies lines first) (block_alone lines first block)
block_alone-lies lines first block lies =
    let same : first + 0 ≡ first = omega arith in
    let made = block_rows lines first 0 sides.Alone block in
    shaped_rows-lie lines first (first_lead block.kind) 0 (with_number block made)
    (with_number-lie lines first block made lies (block_rows-lie lines first first 0 sides.Alone block same lies))

-- Rows of dual dialogue.
halves-lie : (lines : List LineState) (first : ℕ) (rows : List Row) → All (RowLies lines first) rows → All (RowLies lines first) (map half_row rows)
halves-lie lines first [] all = All-nil (RowLies lines first)
halves-lie lines first (row ∷ later) all =
    let P = RowLies lines first in
    All-cons P (half_row row) (map half_row later) (All-head P row later all) (halves-lie lines first later (All-tail P row later all))

joined_rows-lie : (lines : List LineState) (first : ℕ) (left right : List Row) → All (RowLies lines first) left → All (RowLies lines first) right
    → All (RowLies lines first) (joined_rows left right)
joined_rows-lie lines first [] right l r = halves-lie lines first right r
joined_rows-lie lines first (row ∷ left) [] l r =
    let P = RowLies lines first in
    All-cons P (half_row row) (joined_rows left []) (All-head P row left l) (joined_rows-lie lines first left [] (All-tail P row left l) r)
joined_rows-lie lines first (row ∷ left) (other ∷ right) l r =
    let P = RowLies lines first in
    All-cons P (joined_row row other) (joined_rows left right)
    (All-append (CellLies lines first) row.cells other.cells (All-head P row left l) (All-head P other right r))
    (joined_rows-lie lines first left right (All-tail P row left l) (All-tail P other right r))

-- The rows of two speeches side by side, the second not before the first, before their speakers are told.
pub blocks_beside-lies : (lines : List LineState) (first : ℕ) (left : BlockOf) (second_first : ℕ) (right : BlockOf) → BlockLies (line_texts lines) first left
    → BlockLies (line_texts lines) second_first right → first ≤ second_first → All (RowLies lines first) (blocks_beside lines first left second_first right)
blocks_beside-lies lines first left second_first right l r order =
    let shift = second_first - first in
    let same : first + 0 ≡ first = omega arith in
    let there : first + shift ≡ second_first = omega (arith, order) in
    let one = block_rows lines first 0 sides.Left left in
    let other = block_rows lines second_first shift sides.Right right in
    shaped_rows-lie lines first 1 0 (joined_rows one other)
    (joined_rows-lie lines first one other (block_rows-lie lines first first 0 sides.Left left same l) (block_rows-lie lines first second_first shift sides.Right right there r))
