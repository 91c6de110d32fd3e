-- The cells of rows: only the first row of a heading has a written number, and the cue of a speech has one cell, or two where its
-- speaker goes on.
use Rattle.std.proofs.Common.{◌≡◌, inl, inr, ℕ, ◌+◌, ◌-◌, ◌==◌, ◌||◌, not, Bool, true, false, cond, List, [], ◌∷◌, ◌++◌, length, map, drop, refl, sym, ap, subst, ◌∙◌}
use Rattle.std.specs.Prelude.{All, nat_le, nat_lt, slice_index_or}
use Rattle.std.specs.List.{flat_map, list_any}
use Rattle.std.proofs.lemmas.Bool.{cases_Bool, true≢false}
use Rattle.std.proofs.lemmas.List.{length-map}
use Rattle.std.proofs.lemmas.List.Elements.{All-nil, All-cons, All-head, All-tail, All-append, All-map}
use Rattle.spec_text.specs.Lines.{LineState}
use Rattle.spec_text.proofs.ListLaws.{filter-whole}
use Rattle.spec_script.specs.BlockValues.{LineOf, BlockOf}
use Rattle.spec_script.specs.declared.Kind.{Kind}
use Rattle.spec_script.proofs.RunSteps.{one_alone, two_together}
use Rattle.spec_pages.specs.declared.RowKind.{RowKind}
use Rattle.spec_pages.specs.declared.RowKind.TheVariants as row_kinds
use Rattle.spec_pages.specs.declared.Side.{Side}
use Rattle.spec_pages.specs.declared.Side.TheVariants as sides
use Rattle.spec_pages.specs.Columns.{first_lead, has_rows, width_of}
use Rattle.spec_pages.specs.Pages.{is_heading, is_speech}
use Rattle.spec_pages.specs.Rows.{Cell, Row, LineContext, line_context, line_rows_from, line_rows, number_cell, number_before, number_behind, with_number, shaped_rows, continued_cell, said_cells, spoken_cells, put_cell, in_column_order, spoken_rows, with_speakers, is_title, title_row, half_row, joined_rows, block_alone, blocks_beside, single_rows, shifted_cell, shifted_row, line_state}
use Rattle.spec_pages.specs.Rows as rows
use Rattle.spec_pages.specs.Wrapping.{WrappedRow, wrapped}
use Rattle.spec_sheets.specs.Cells.{without_numbers}
use Rattle.spec_sheets.specs.Speakers.{Spoken}
use Rattle.spec_sheets.specs.Layout.{laid_out}
use Rattle.spec_sheets.specs.Shown.{is_fixed, opens_heading, no_row}
use Rattle.spec_state.specs.Headings.{is_heading_block}
use Rattle.spec_locked_pages.proofs.HeadingBlocks.{OneLined}
use Rattle.spec_locked_pages.proofs.HeadingRows.{IsOf, alone-begins}
use Rattle.spec_packet.proofs.NumberBlocks.{Unnumbered}

-- A row without a written number.
pub record NoNumber (row : Row) : Type 0 where
  pub cells : All (λ (cell : Cell). cell.number ≡ false) row.cells

abbrev Bare : Cell → Type 0
Bare cell = cell.number ≡ false

pub without-none : (row : Row) → NoNumber row → without_numbers row.cells ≡ row.cells
without-none row is = filter-whole (λ (cell : Cell). not cell.number) row.cells (λ k d h. ap not (is.cells k d h))

-- ---- the rows of lines

from-bare : (context : LineContext) (line : LineOf) (number : ℕ) (those : List WrappedRow) → All NoNumber (line_rows_from context line number those)
from-bare context line number [] = All-nil NoNumber
from-bare context line number (it ∷ later) =
    All-cons NoNumber _ (line_rows_from context line (number + 1) later) (record { cells = All-cons Bare _ [] refl (All-nil Bare) }) (from-bare context line (number + 1) later)

lines-bare : (lines : List LineState) (first shift : ℕ) (side : Side) (kind : Kind) (those : List LineOf) → All NoNumber (flat_map (line_rows lines first shift side kind) those)
lines-bare lines first shift side kind [] = All-nil NoNumber
lines-bare lines first shift side kind (line ∷ those) =
    let context = line_context lines first shift side kind line in
    All-append NoNumber (line_rows lines first shift side kind line) (flat_map (line_rows lines first shift side kind) those)
    (from-bare context line 0 (wrapped context.text line.runs (width_of side kind line.part))) (lines-bare lines first shift side kind those)

-- What is behind the first row.
abbrev Tail : List Row → Type 0
Tail those = All NoNumber (drop 1 those)

numbered-tail : (block : BlockOf) (those : List Row) → All NoNumber those → Tail (with_number block those)
numbered-tail block [] all = All-nil NoNumber
numbered-tail block (row ∷ later) all = All-tail NoNumber row later all

numbered-same : (block : BlockOf) (those : List Row) → block.number ≡ [] → with_number block those ≡ those
numbered-same block [] none = refl
numbered-same block (row ∷ later) none =
    ap (λ (cells : List Cell). record row { cells = cells } ∷ later)
    (ap (λ n. cond (n == 0) row.cells (number_cell block number_before ∷ row.cells ++ number_cell block number_behind ∷ [])) (ap length none))

shaped-bare : (lead index : ℕ) (those : List Row) → All NoNumber those → All NoNumber (shaped_rows lead index those)
shaped-bare lead index [] all = All-nil NoNumber
shaped-bare lead index (row ∷ later) all =
    All-cons NoNumber _ (shaped_rows lead (index + 1) later) (record { cells = (All-head NoNumber row later all).cells }) (shaped-bare lead (index + 1) later (All-tail NoNumber row later all))

shaped-tail : (lead : ℕ) (those : List Row) → Tail those → Tail (shaped_rows lead 0 those)
shaped-tail lead [] all = All-nil NoNumber
shaped-tail lead (row ∷ later) all = shaped-bare lead (0 + 1) later all

-- ---- speakers

put-bare : (cell : Cell) (cells : List Cell) → Bare cell → All Bare cells → All Bare (put_cell cell cells)
put-bare cell [] one all = All-cons Bare cell [] one (All-nil Bare)
put-bare cell (other ∷ cells) one all = by (nat_le cell.column other.column) (put-bare cell cells one (All-tail Bare other cells all))
  where
    by : (b : Bool) → All Bare (put_cell cell cells) → All Bare (cond b (cell ∷ other ∷ cells) (other ∷ put_cell cell cells))
    by true later = All-cons Bare cell (other ∷ cells) one all
    by false later = All-cons Bare other (put_cell cell cells) (All-head Bare other cells all) later

order-bare : (cells : List Cell) → All Bare cells → All Bare (in_column_order cells)
order-bare [] all = all
order-bare (cell ∷ cells) all = put-bare cell (in_column_order cells) (All-head Bare cell cells all) (order-bare cells (All-tail Bare cell cells all))

said-bare : (lines : List LineState) (first : ℕ) (goes_on : Bool) (cell : Cell) → Bare cell → All Bare (said_cells lines first goes_on cell)
said-bare lines first true cell one =
    let behind = continued_cell (line_state lines (first + cell.line)).text cell in
    All-cons Bare cell (behind ∷ []) one (All-cons Bare behind [] refl (All-nil Bare))
said-bare lines first false cell one = All-cons Bare cell [] one (All-nil Bare)

spoken-bare : (lines : List LineState) (first : ℕ) (speakers : List Bool) (cells : List Cell) → All Bare cells → All Bare (spoken_cells lines first speakers cells)
spoken-bare lines first [] cells all = all
spoken-bare lines first (goes_on ∷ speakers) [] all = All-nil Bare
spoken-bare lines first (goes_on ∷ speakers) (cell ∷ cells) all =
    All-append Bare (said_cells lines first goes_on cell) (spoken_cells lines first speakers cells) (said-bare lines first goes_on cell (All-head Bare cell cells all))
    (spoken-bare lines first speakers cells (All-tail Bare cell cells all))

said-rows : (lines : List LineState) (first : ℕ) (speakers : List Bool) (those : List Row) → All NoNumber those → All NoNumber (with_speakers lines first speakers those)
said-rows lines first speakers those all = by (list_any (λ goes_on. goes_on) speakers)
  where
    spoken : (those : List Row) → All NoNumber those → All NoNumber (spoken_rows lines first speakers those)
    spoken [] all = all
    spoken (row ∷ later) all =
        All-cons NoNumber _ later (record { cells = order-bare (spoken_cells lines first speakers row.cells) (spoken-bare lines first speakers row.cells (All-head NoNumber row later all).cells) })
        (All-tail NoNumber row later all)

    by : (b : Bool) → All NoNumber (cond b (spoken_rows lines first speakers those) those)
    by true = spoken those all
    by false = all

said-tail : (lines : List LineState) (first : ℕ) (speakers : List Bool) (those : List Row) → Tail those → Tail (with_speakers lines first speakers those)
said-tail lines first speakers those all = by (list_any (λ goes_on. goes_on) speakers)
  where
    spoken : (those : List Row) → Tail those → Tail (spoken_rows lines first speakers those)
    spoken [] all = all
    spoken (row ∷ later) all = all

    by : (b : Bool) → Tail (cond b (spoken_rows lines first speakers those) those)
    by true = spoken those all
    by false = all

titles-bare : (those : List Row) → All NoNumber those → All NoNumber (map title_row those)
titles-bare [] all = all
titles-bare (row ∷ later) all = All-cons NoNumber _ (map title_row later) (record { cells = (All-head NoNumber row later all).cells }) (titles-bare later (All-tail NoNumber row later all))

titles-tail : (those : List Row) → Tail those → Tail (map title_row those)
titles-tail [] all = all
titles-tail (row ∷ later) all = titles-bare later all

halves-bare : (those : List Row) → All NoNumber those → All NoNumber (map half_row those)
halves-bare [] all = all
halves-bare (row ∷ later) all = All-cons NoNumber _ (map half_row later) (record { cells = (All-head NoNumber row later all).cells }) (halves-bare later (All-tail NoNumber row later all))

joined-bare : (left right : List Row) → All NoNumber left → All NoNumber right → All NoNumber (joined_rows left right)
joined-bare [] right one other = halves-bare right other
joined-bare (row ∷ left) [] one other =
    All-cons NoNumber _ (joined_rows left []) (record { cells = (All-head NoNumber row left one).cells }) (joined-bare left [] (All-tail NoNumber row left one) other)
joined-bare (row ∷ left) (it ∷ right) one other =
    All-cons NoNumber _ (joined_rows left right)
    (record { cells = All-append Bare row.cells it.cells (All-head NoNumber row left one).cells (All-head NoNumber it right other).cells })
    (joined-bare left right (All-tail NoNumber row left one) (All-tail NoNumber it right other))

-- ---- elements

-- A row that doesn't open a heading has no written number.
pub record Plain (row : Row) : Type 0 where
  pub none : opens_heading row ≡ false → NoNumber row

rows-plain : (those : List Row) → All NoNumber those → All Plain those
rows-plain those all k d h = record { none = λ plain. all k d h }

either : (P : Row → Type 0) (b : Bool) (one other : List Row) → All P one → All P other → All P (cond b one other)
either P true one other first second = first
either P false one other first second = second

either-tail : (b : Bool) (one other : List Row) → Tail one → Tail other → Tail (cond b one other)
either-tail true one other first second = first
either-tail false one other first second = second

single-bare : (lines : List LineState) (it : Spoken) → it.placed.block.number ≡ [] → All NoNumber (single_rows lines it.placed.first it.placed.block it.continued)
single-bare lines it none =
    let block = it.placed.block in
    let first = it.placed.first in
    let made = block_alone lines first block in
    let own = rows.block_rows lines first 0 sides.Alone block in
    let alone : All NoNumber made =
    shaped-bare (first_lead block.kind) 0 (with_number block own) (subst (All NoNumber) (sym (numbered-same block own none)) (lines-bare lines first 0 sides.Alone block.kind block.lines)) in
    either NoNumber (has_rows block.kind) _ []
    (either NoNumber (is_title block.kind) (map title_row made) (with_speakers lines first (it.continued ∷ []) made) (titles-bare made alone) (said-rows lines first (it.continued ∷ []) made alone))
    (All-nil NoNumber)

single-tail : (lines : List LineState) (it : Spoken) → Tail (single_rows lines it.placed.first it.placed.block it.continued)
single-tail lines it =
    let block = it.placed.block in
    let first = it.placed.first in
    let made = block_alone lines first block in
    let own = rows.block_rows lines first 0 sides.Alone block in
    let alone : Tail made = shaped-tail (first_lead block.kind) (with_number block own) (numbered-tail block own (lines-bare lines first 0 sides.Alone block.kind block.lines)) in
    either-tail (has_rows block.kind) _ []
    (either-tail (is_title block.kind) (map title_row made) (with_speakers lines first (it.continued ∷ []) made) (titles-tail made alone) (said-tail lines first (it.continued ∷ []) made alone))
    (All-nil NoNumber)

-- The first row opens a heading, and the others have no written number.
opened-plain : (those : List Row) → opens_heading (slice_index_or those 0 no_row) ≡ true → Tail those → All Plain those
opened-plain [] opens tail = All-nil Plain
opened-plain (row ∷ later) opens tail = All-cons Plain row later (record { none = λ plain. absurd (true≢false (sym opens ∙ plain)) }) (rows-plain later tail)

pub alone-plain : (lines : List LineState) (it : Spoken) → OneLined it.placed.block → Unnumbered it.placed.block → All Plain (laid_out lines (one_alone it)).rows
alone-plain lines it lined unnumbered = elim (cases_Bool (is_heading_block it.placed)) [
  | inl is ↦
      let begins = alone-begins lines it lined in
      opened-plain (laid_out lines (one_alone it)).rows (begins.first ∙ is) (single-tail lines it)
  | inr other ↦ rows-plain (laid_out lines (one_alone it)).rows (single-bare lines it (unnumbered.none other))
]

pub pair-plain : (lines : List LineState) (left right : Spoken) → All Plain (laid_out lines (two_together left right)).rows
pair-plain lines left right =
    let first = left.placed.first in
    let second = right.placed.first in
    let one = rows.block_rows lines first 0 sides.Left left.placed.block in
    let other = rows.block_rows lines second (second - first) sides.Right right.placed.block in
    rows-plain (laid_out lines (two_together left right)).rows
    (said-rows lines first (left.continued ∷ right.continued ∷ []) (blocks_beside lines first left.placed.block second right.placed.block)
    (shaped-bare 1 0 (joined_rows one other)
    (joined-bare one other (lines-bare lines first 0 sides.Left left.placed.block.kind left.placed.block.lines) (lines-bare lines second (second - first) sides.Right right.placed.block.kind right.placed.block.lines))))

-- ---- the cue of a speech

-- Whether its speaker goes on is told by how many cells the first row of a speech has.
abbrev pub TellsFixed : List Row → Type 0
TellsFixed [] = Unit {0}
TellsFixed (row ∷ later) = is_speech row.shape.kind ≡ true → list_any is_fixed row.cells ≡ nat_lt 1 (length row.cells)

-- One cell, which isn't fixed.
record OneCell (row : Row) : Type 0 where
  cell : Cell
  only : row.cells ≡ cell ∷ []
  free : cell.fixed ≡ false

abbrev FirstOne : List Row → Type 0
FirstOne [] = Unit {0}
FirstOne (row ∷ later) = OneCell row

from-one : (context : LineContext) (line : LineOf) (number : ℕ) (those : List WrappedRow) → All OneCell (line_rows_from context line number those)
from-one context line number [] = All-nil OneCell
from-one context line number (it ∷ later) = All-cons OneCell _ (line_rows_from context line (number + 1) later) (record { cell = _; only = refl; free = refl }) (from-one context line (number + 1) later)

lines-one : (lines : List LineState) (first shift : ℕ) (side : Side) (kind : Kind) (those : List LineOf) → All OneCell (flat_map (line_rows lines first shift side kind) those)
lines-one lines first shift side kind [] = All-nil OneCell
lines-one lines first shift side kind (line ∷ those) =
    let context = line_context lines first shift side kind line in
    All-append OneCell (line_rows lines first shift side kind line) (flat_map (line_rows lines first shift side kind) those)
    (from-one context line 0 (wrapped context.text line.runs (width_of side kind line.part))) (lines-one lines first shift side kind those)

first-one : (those : List Row) → All OneCell those → FirstOne those
first-one [] all = tt
first-one (row ∷ later) all = All-head OneCell row later all

shaped-one : (lead : ℕ) (those : List Row) → FirstOne those → FirstOne (shaped_rows lead 0 those)
shaped-one lead [] one = tt
shaped-one lead (row ∷ later) one = record { cell = one.cell; only = one.only; free = one.free }

one-tells : (those : List Row) → FirstOne those → TellsFixed those
one-tells [] one = tt
one-tells (row ∷ later) one = λ speech.
    ap (list_any is_fixed) one.only ∙ ap (λ b. b || false) one.free ∙ sym (ap (λ (cells : List Cell). nat_lt 1 (length cells)) one.only)

said-tells : (lines : List LineState) (first : ℕ) (those : List Row) → FirstOne those → TellsFixed (spoken_rows lines first (true ∷ []) those)
said-tells lines first [] one = tt
said-tells lines first (row ∷ later) one = λ speech. ap tells (ap (spoken_cells lines first (true ∷ [])) one.only) ∙ by (nat_le one.cell.column behind.column)
  where
    behind : Cell
    behind = continued_cell (line_state lines (first + one.cell.line)).text one.cell

    tells : List Cell → Bool
    tells cells = list_any is_fixed (in_column_order cells)

    by : (b : Bool) → list_any is_fixed (cond b (one.cell ∷ behind ∷ []) (behind ∷ one.cell ∷ [])) ≡ nat_lt 1 (length (in_column_order (spoken_cells lines first (true ∷ []) row.cells)))
    by b = first_part b ∙ sym (ap (λ (cells : List Cell). nat_lt 1 (length (in_column_order (spoken_cells lines first (true ∷ []) cells)))) one.only ∙ second_part (nat_le one.cell.column behind.column))
      where
        first_part : (b : Bool) → list_any is_fixed (cond b (one.cell ∷ behind ∷ []) (behind ∷ one.cell ∷ [])) ≡ true
        first_part true = ap (λ f. f || (true || false)) one.free
        first_part false = refl

        second_part : (b : Bool) → nat_lt 1 (length (cond b (one.cell ∷ behind ∷ []) (behind ∷ one.cell ∷ []))) ≡ true
        second_part true = refl
        second_part false = refl

speakers-tell : (lines : List LineState) (first : ℕ) (continued : Bool) (those : List Row) → FirstOne those → TellsFixed (with_speakers lines first (continued ∷ []) those)
speakers-tell lines first true those one = said-tells lines first those one
speakers-tell lines first false those one = one-tells those one

either-tells : (b : Bool) (one other : List Row) → TellsFixed one → TellsFixed other → TellsFixed (cond b one other)
either-tells true one other first second = first
either-tells false one other first second = second

titles-tell : (those : List Row) → TellsFixed (map title_row those)
titles-tell [] = tt
titles-tell (row ∷ later) = λ speech. absurd (true≢false (sym speech))

no-speech : (kind : RowKind) → is_heading kind ≡ true → is_speech kind ≡ false
no-speech row_kinds.Heading is = refl
no-speech row_kinds.Action is = refl
no-speech row_kinds.Cue is = absurd (true≢false (sym is))
no-speech row_kinds.Parenthetical is = absurd (true≢false (sym is))
no-speech row_kinds.Dialogue is = absurd (true≢false (sym is))
no-speech row_kinds.Sung is = absurd (true≢false (sym is))
no-speech row_kinds.Dual is = refl
no-speech row_kinds.Lyric is = refl
no-speech row_kinds.Transition is = refl
no-speech row_kinds.Centred is = refl

headings-tell : (those : List Row) → All (IsOf true) those → TellsFixed those
headings-tell [] all = tt
headings-tell (row ∷ later) all = λ speech. absurd (true≢false (sym speech ∙ no-speech row.shape.kind (All-head (IsOf true) row later all)))

-- Rows of a pair are of no speech by itself.
abbrev FirstMute : List Row → Type 0
FirstMute [] = Unit {0}
FirstMute (row ∷ later) = is_speech row.shape.kind ≡ false

mute-tells : (those : List Row) → FirstMute those → TellsFixed those
mute-tells [] mute = tt
mute-tells (row ∷ later) mute = λ speech. absurd (true≢false (sym speech ∙ mute))

halves-mute : (those : List Row) → FirstMute (map half_row those)
halves-mute [] = tt
halves-mute (row ∷ later) = refl

joined-mute : (left right : List Row) → FirstMute (joined_rows left right)
joined-mute [] right = halves-mute right
joined-mute (row ∷ left) [] = refl
joined-mute (row ∷ left) (it ∷ right) = refl

shaped-mute : (lead : ℕ) (those : List Row) → FirstMute those → FirstMute (shaped_rows lead 0 those)
shaped-mute lead [] mute = tt
shaped-mute lead (row ∷ later) mute = mute

said-mute : (lines : List LineState) (first : ℕ) (speakers : List Bool) (those : List Row) → FirstMute those → FirstMute (with_speakers lines first speakers those)
said-mute lines first speakers those mute = by (list_any (λ goes_on. goes_on) speakers)
  where
    spoken : (those : List Row) → FirstMute those → FirstMute (spoken_rows lines first speakers those)
    spoken [] mute = tt
    spoken (row ∷ later) mute = mute

    by : (b : Bool) → FirstMute (cond b (spoken_rows lines first speakers those) those)
    by true = spoken those mute
    by false = mute

pub alone-tells : (lines : List LineState) (it : Spoken) → OneLined it.placed.block → Unnumbered it.placed.block → TellsFixed (laid_out lines (one_alone it)).rows
alone-tells lines it lined unnumbered = elim (cases_Bool (is_heading_block it.placed)) [
  | inl is ↦ headings-tell (laid_out lines (one_alone it)).rows (subst (λ b. All (IsOf b) (laid_out lines (one_alone it)).rows) is (alone-begins lines it lined).all)
  | inr other ↦
      let block = it.placed.block in
      let first = it.placed.first in
      let made = block_alone lines first block in
      let own = rows.block_rows lines first 0 sides.Alone block in
      let one : FirstOne made =
      shaped-one (first_lead block.kind) (with_number block own) (subst FirstOne (sym (numbered-same block own (unnumbered.none other))) (first-one own (lines-one lines first 0 sides.Alone block.kind block.lines))) in
      either-tells (has_rows block.kind) _ []
      (either-tells (is_title block.kind) (map title_row made) (with_speakers lines first (it.continued ∷ []) made) (titles-tell made) (speakers-tell lines first it.continued made one)) tt
]

pub pair-tells : (lines : List LineState) (left right : Spoken) → TellsFixed (laid_out lines (two_together left right)).rows
pair-tells lines left right =
    let first = left.placed.first in
    let second = right.placed.first in
    let one = rows.block_rows lines first 0 sides.Left left.placed.block in
    let other = rows.block_rows lines second (second - first) sides.Right right.placed.block in
    mute-tells (laid_out lines (two_together left right)).rows
    (said-mute lines first (left.continued ∷ right.continued ∷ []) (blocks_beside lines first left.placed.block second right.placed.block)
    (shaped-mute 1 (joined_rows one other) (joined-mute one other)))

-- ---- rows with places in the text

pub placed-plain : (first : ℕ) (those : List Row) → All Plain those → All Plain (map (shifted_row first) those)
placed-plain first [] all = All-nil Plain
placed-plain first (row ∷ later) all =
    All-cons Plain _ (map (shifted_row first) later)
    (record { none = λ plain. record { cells = All-map Bare (shifted_cell first) row.cells ((All-head Plain row later all).none plain).cells } })
    (placed-plain first later (All-tail Plain row later all))

pub placed-tells : (first : ℕ) (those : List Row) → TellsFixed those → TellsFixed (map (shifted_row first) those)
placed-tells first [] tells = tt
placed-tells first (row ∷ later) tells = λ speech. any row.cells ∙ tells speech ∙ ap (nat_lt 1) (sym (length-map row.cells (shifted_cell first)))
  where
    any : (cells : List Cell) → list_any is_fixed (map (shifted_cell first) cells) ≡ list_any is_fixed cells
    any [] = refl
    any (cell ∷ cells) = ap (λ b. cell.fixed || b) (any cells)
