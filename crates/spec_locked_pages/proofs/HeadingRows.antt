-- Which elements open with a heading's row: those that are headings.
use Rattle.std.proofs.Common.{◌≡◌, ℕ, ◌+◌, ◌-◌, ◌<◌, ◌==◌, ◌&&◌, Bool, true, false, cond, List, [], ◌∷◌, ◌++◌, length, map, inl, inr, refl, sym, ap, ap₂, subst, ◌∙◌, arith}
use Rattle.std.specs.Prelude.{All, slice_index_or}
use Rattle.std.specs.List.{flat_map, list_any}
use Rattle.std.proofs.lemmas.Bool.{cases_Bool, true≢false}
use Rattle.std.proofs.lemmas.List.Elements.{All-nil, All-cons, All-head, All-tail, All-append}
use Rattle.spec_text.specs.Lines.{LineState}
use Rattle.spec_script.specs.declared.Kind.{Kind}
use Rattle.spec_script.specs.declared.Kind.TheVariants as kinds
use Rattle.spec_script.specs.declared.Part.{Part}
use Rattle.spec_script.specs.declared.Part.TheVariants as parts
use Rattle.spec_script.specs.BlockValues.{LineOf, BlockOf}
use Rattle.spec_script.proofs.RunSteps.{one_alone, two_together}
use Rattle.spec_pages.specs.declared.Side.{Side}
use Rattle.spec_pages.specs.declared.Side.TheVariants as sides
use Rattle.spec_pages.specs.Columns.{row_kind, width_of, first_lead, has_rows}
use Rattle.spec_pages.specs.Pages.{is_heading}
use Rattle.spec_pages.specs.Rows.{Row, LineContext, line_context, line_rows_from, line_rows, with_number, shaped_rows, half_row, joined_rows, title_row, is_title, spoken_rows, with_speakers, block_alone, blocks_beside, single_rows, finished_rows, dual_rows}
use Rattle.spec_pages.specs.Rows as rows
use Rattle.spec_pages.specs.Wrapping.{WrappedRow, wrapped}
use Rattle.spec_pages.proofs.WrapLaws.{wrapped-some}
use Rattle.spec_sheets.specs.Speakers.{Spoken}
use Rattle.spec_sheets.specs.Layout.{laid_out}
use Rattle.spec_sheets.specs.Shown.{opens_heading, no_row}
use Rattle.spec_state.specs.Headings.{is_heading_kind, is_heading_block}
use Rattle.spec_locked_pages.proofs.HeadingBlocks.{OneLined, IsTextLine}

-- Rows of headings, or rows of no heading.
abbrev pub IsOf : Bool → Row → Type 0
IsOf flag row = is_heading row.shape.kind ≡ flag

-- A list that opens a heading with its first row, or doesn't.
pub record Opens (flag : Bool) (those : List Row) : Type 0 where
  pub all : All (IsOf flag) those
  pub some : flag ≡ true → 0 < length those

-- A line's rows are of headings where its block is one, and it is no part of a speech or a title page.
kind-of : (kind : Kind) → is_heading (row_kind kind parts.Text) ≡ is_heading_kind kind
kind-of kinds.Heading = refl
kind-of kinds.Action = refl
kind-of kinds.Speech = refl
kind-of kinds.Lyric = refl
kind-of kinds.Transition = refl
kind-of kinds.Centred = refl
kind-of kinds.PageBreak = refl
kind-of kinds.Section = refl
kind-of kinds.Synopsis = refl
kind-of kinds.Title = refl

kind-other : (kind : Kind) (part : Part) → is_heading_kind kind ≡ false → is_heading (row_kind kind part) ≡ false
kind-other kind parts.Text is = kind-of kind ∙ is
kind-other kind parts.Cue is = refl
kind-other kind parts.Parenthetical is = refl
kind-other kind parts.Dialogue is = refl
kind-other kind parts.Sung is = refl
kind-other kind parts.Held is = refl
kind-other kind parts.TitleCentred is = refl
kind-other kind parts.TitleLeft is = refl

-- ---- the rows of lines

from-of : (flag : Bool) (context : LineContext) (line : LineOf) (number : ℕ) (those : List WrappedRow) → is_heading (row_kind context.kind line.part) ≡ flag
    → All (IsOf flag) (line_rows_from context line number those)
from-of flag context line number [] is = All-nil (IsOf flag)
from-of flag context line number (it ∷ later) is =
    All-cons (IsOf flag) _ (line_rows_from context line (number + 1) later) is (from-of flag context line (number + 1) later is)

from-count : (context : LineContext) (line : LineOf) (number : ℕ) (those : List WrappedRow) → 0 < length those → 0 < length (line_rows_from context line number those)
from-count context line number [] some = some
from-count context line number (it ∷ later) some = omega arith

lines-of : (flag : Bool) (lines : List LineState) (first shift : ℕ) (side : Side) (kind : Kind) (those : List LineOf) → All (λ (line : LineOf). is_heading (row_kind kind line.part) ≡ flag) those
    → All (IsOf flag) (flat_map (line_rows lines first shift side kind) those)
lines-of flag lines first shift side kind [] all = All-nil (IsOf flag)
lines-of flag lines first shift side kind (line ∷ those) all =
    let P : LineOf → Type 0 = λ (line : LineOf). is_heading (row_kind kind line.part) ≡ flag in
    let context = line_context lines first shift side kind line in
    All-append (IsOf flag) (line_rows lines first shift side kind line) (flat_map (line_rows lines first shift side kind) those)
    (from-of flag context line 0 (wrapped context.text line.runs (width_of side kind line.part)) (All-head P line those all))
    (lines-of flag lines first shift side kind those (All-tail P line those all))

-- The rows of a block that is no heading.
other-of : (lines : List LineState) (first shift : ℕ) (side : Side) (block : BlockOf) → is_heading_kind block.kind ≡ false → All (IsOf false) (rows.block_rows lines first shift side block)
other-of lines first shift side block is = lines-of false lines first shift side block.kind block.lines (λ k d h. kind-other block.kind _ is)

-- Those of a heading.
heading-of : (lines : List LineState) (first : ℕ) (kind : Kind) (those : List LineOf) → is_heading_kind kind ≡ true → IsTextLine those
    → Opens true (flat_map (line_rows lines first 0 sides.Alone kind) those)
heading-of lines first kind [] is one = absurd one
heading-of lines first kind (line ∷ []) is one =
    let context = line_context lines first 0 sides.Alone kind line in
    let wraps = wrapped context.text line.runs (width_of sides.Alone kind line.part) in
    let own = line_rows lines first 0 sides.Alone kind line in
    let count = from-count context line 0 wraps (wrapped-some context.text line.runs (width_of sides.Alone kind line.part)) in
    record {
      all = lines-of true lines first 0 sides.Alone kind (line ∷ [])
          (All-cons (λ (line : LineOf). is_heading (row_kind kind line.part) ≡ true) line [] (ap (λ part. is_heading (row_kind kind part)) one ∙ kind-of kind ∙ is) (All-nil _));
      some = λ h. more own [] count;
    }
  where
    more : (xs ys : List Row) → 0 < length xs → 0 < length (xs ++ ys)
    more [] ys some = absurd (omega (arith, some))
    more (x ∷ xs) ys some = omega arith
heading-of lines first kind (line ∷ next ∷ those) is one = absurd one

-- ---- what is made of them

numbered-of : (flag : Bool) (block : BlockOf) (those : List Row) → Opens flag those → Opens flag (with_number block those)
numbered-of flag block [] opens = opens
numbered-of flag block (row ∷ later) opens =
    record { all = All-cons (IsOf flag) _ later (All-head (IsOf flag) row later opens.all) (All-tail (IsOf flag) row later opens.all); some = λ h. omega arith }

shaped-of : (flag : Bool) (lead index : ℕ) (those : List Row) → All (IsOf flag) those → All (IsOf flag) (shaped_rows lead index those)
shaped-of flag lead index [] all = All-nil (IsOf flag)
shaped-of flag lead index (row ∷ later) all =
    All-cons (IsOf flag) _ (shaped_rows lead (index + 1) later) (All-head (IsOf flag) row later all) (shaped-of flag lead (index + 1) later (All-tail (IsOf flag) row later all))

halves-of : (those : List Row) → All (IsOf false) (map half_row those)
halves-of [] = All-nil (IsOf false)
halves-of (row ∷ later) = All-cons (IsOf false) (half_row row) (map half_row later) refl (halves-of later)

joined-of : (left right : List Row) → All (IsOf false) (joined_rows left right)
joined-of [] right = halves-of right
joined-of (row ∷ left) [] = All-cons (IsOf false) (half_row row) (joined_rows left []) refl (joined-of left [])
joined-of (row ∷ left) (other ∷ right) = All-cons (IsOf false) _ (joined_rows left right) refl (joined-of left right)

titles-of : (those : List Row) → All (IsOf false) (map title_row those)
titles-of [] = All-nil (IsOf false)
titles-of (row ∷ later) = All-cons (IsOf false) (title_row row) (map title_row later) refl (titles-of later)

said-of : (flag : Bool) (lines : List LineState) (first : ℕ) (speakers : List Bool) (those : List Row) → All (IsOf flag) those → All (IsOf flag) (with_speakers lines first speakers those)
said-of flag lines first speakers those all = by (list_any (λ goes_on. goes_on) speakers)
  where
    spoken : (those : List Row) → All (IsOf flag) those → All (IsOf flag) (spoken_rows lines first speakers those)
    spoken [] all = all
    spoken (row ∷ later) all = All-cons (IsOf flag) _ later (All-head (IsOf flag) row later all) (All-tail (IsOf flag) row later all)

    by : (b : Bool) → All (IsOf flag) (cond b (spoken_rows lines first speakers those) those)
    by true = spoken those all
    by false = all

-- What opens an element.
abbrev FirstIs : Bool → List Row → Type 0
FirstIs flag those = opens_heading (slice_index_or those 0 no_row) ≡ flag

shaped-first : (flag : Bool) (lead : ℕ) (those : List Row) → Opens flag those → FirstIs flag (shaped_rows lead 0 those)
shaped-first true lead [] opens = (let some = opens.some refl in absurd (omega (arith, some)))
shaped-first false lead [] opens = refl
shaped-first flag lead (row ∷ later) opens = ap (λ a. a && true) (All-head (IsOf flag) row later opens.all) ∙ and-true flag
  where
    and-true : (b : Bool) → (b && true) ≡ b
    and-true true = refl
    and-true false = refl

said-first : (flag : Bool) (lines : List LineState) (first : ℕ) (speakers : List Bool) (those : List Row) → FirstIs flag those → FirstIs flag (with_speakers lines first speakers those)
said-first flag lines first speakers [] is = by (list_any (λ goes_on. goes_on) speakers)
  where
    by : (b : Bool) → FirstIs flag (cond b [] [])
    by true = is
    by false = is
said-first flag lines first speakers (row ∷ later) is = by (list_any (λ goes_on. goes_on) speakers)
  where
    by : (b : Bool) → FirstIs flag (cond b (spoken_rows lines first speakers (row ∷ later)) (row ∷ later))
    by true = is
    by false = is

-- ---- elements

-- An element's rows are of headings or not, and so is the first.
pub record Begins (flag : Bool) (those : List Row) : Type 0 where
  pub all : All (IsOf flag) those
  pub first : opens_heading (slice_index_or those 0 no_row) ≡ flag

none-first : (those : List Row) → All (IsOf false) those → Begins false those
none-first [] all = record { all = all; first = refl }
none-first (row ∷ later) all = record { all = all; first = ap (λ a. a && (row.shape.index == 0)) (All-head (IsOf false) row later all) }

single-other : (lines : List LineState) (it : Spoken) → is_heading_block it.placed ≡ false → Begins false (single_rows lines it.placed.first it.placed.block it.continued)
single-other lines it is =
    let block = it.placed.block in
    let made = block_alone lines it.placed.first block in
    let own = rows.block_rows lines it.placed.first 0 sides.Alone block in
    let alone : All (IsOf false) made = shaped-of false (first_lead block.kind) 0 (with_number block own) (numbered-of false block own (record { all = other-of lines it.placed.first 0 sides.Alone block is; some = λ h. absurd (true≢false (sym h)) })).all in
    none-first (single_rows lines it.placed.first block it.continued)
    (by (has_rows block.kind) (finished_rows lines it.placed.first block it.continued)
    (either (is_title block.kind) (map title_row made) (with_speakers lines it.placed.first (it.continued ∷ []) made) (titles-of made) (said-of false lines it.placed.first (it.continued ∷ []) made alone)))
  where
    by : (b : Bool) (those : List Row) → All (IsOf false) those → All (IsOf false) (cond b those [])
    by true those all = all
    by false those all = All-nil (IsOf false)

    either : (b : Bool) (one other : List Row) → All (IsOf false) one → All (IsOf false) other → All (IsOf false) (cond b one other)
    either true one other first second = first
    either false one other first second = second

heading-kind : (kind : Kind) → is_heading_kind kind ≡ true → kind ≡ kinds.Heading
heading-kind kinds.Heading is = refl
heading-kind kinds.Action is = absurd (true≢false (sym is))
heading-kind kinds.Speech is = absurd (true≢false (sym is))
heading-kind kinds.Lyric is = absurd (true≢false (sym is))
heading-kind kinds.Transition is = absurd (true≢false (sym is))
heading-kind kinds.Centred is = absurd (true≢false (sym is))
heading-kind kinds.PageBreak is = absurd (true≢false (sym is))
heading-kind kinds.Section is = absurd (true≢false (sym is))
heading-kind kinds.Synopsis is = absurd (true≢false (sym is))
heading-kind kinds.Title is = absurd (true≢false (sym is))

single-heading : (lines : List LineState) (it : Spoken) → OneLined it.placed.block → is_heading_block it.placed ≡ true → Begins true (single_rows lines it.placed.first it.placed.block it.continued)
single-heading lines it lined is =
    let block = it.placed.block in
    let made = block_alone lines it.placed.first block in
    let own = rows.block_rows lines it.placed.first 0 sides.Alone block in
    let opens = numbered-of true block own (heading-of lines it.placed.first block.kind block.lines is (lined.line is)) in
    let kind = heading-kind block.kind is in
    let same : single_rows lines it.placed.first block it.continued ≡ with_speakers lines it.placed.first (it.continued ∷ []) made =
    ap₂ (λ (a b : Bool). cond a (cond b (map title_row made) (with_speakers lines it.placed.first (it.continued ∷ []) made)) []) (ap has_rows kind) (ap is_title kind) in
    subst (Begins true) (sym same) (record {
      all = said-of true lines it.placed.first (it.continued ∷ []) made (shaped-of true (first_lead block.kind) 0 (with_number block own) opens.all);
      first = said-first true lines it.placed.first (it.continued ∷ []) made (shaped-first true (first_lead block.kind) (with_number block own) opens);
    })

-- A block by itself opens with a heading's row just where it is a heading.
pub alone-begins : (lines : List LineState) (it : Spoken) → OneLined it.placed.block → Begins (is_heading_block it.placed) (laid_out lines (one_alone it)).rows
alone-begins lines it lined = elim (cases_Bool (is_heading_block it.placed)) [
  | inl is ↦ subst (λ b. Begins b (laid_out lines (one_alone it)).rows) (sym is) (single-heading lines it lined is)
  | inr other ↦ subst (λ b. Begins b (laid_out lines (one_alone it)).rows) (sym other) (single-other lines it other)
]

-- A pair doesn't.
pub pair-begins : (lines : List LineState) (left right : Spoken) → Begins false (laid_out lines (two_together left right)).rows
pair-begins lines left right =
    let one = rows.block_rows lines left.placed.first 0 sides.Left left.placed.block in
    let other = rows.block_rows lines right.placed.first (right.placed.first - left.placed.first) sides.Right right.placed.block in
    none-first (dual_rows lines left.placed.first left.placed.block left.continued right.placed.first right.placed.block right.continued)
    (said-of false lines left.placed.first (left.continued ∷ right.continued ∷ []) (blocks_beside lines left.placed.first left.placed.block right.placed.first right.placed.block)
    (shaped-of false 1 0 (joined_rows one other) (joined-of one other)))
