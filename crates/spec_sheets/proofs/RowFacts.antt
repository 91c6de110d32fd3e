-- Numbers and marks of the rows of a text.
use Rattle.std.proofs.Common.{ℕ, ◌+◌, ◌-◌, ◌≤◌, Bool, true, false, cond, None, List, [], ◌∷◌, map, length, get_or, inl, inr, sym, subst, arith}
use Rattle.std.specs.Prelude.{All}
use Rattle.std.specs.List.{flat_map, list_any}
use Rattle.std.proofs.lemmas.Bool.{cases_lt}
use Rattle.std.proofs.lemmas.List.{get_or_past, length-map}
use Rattle.std.proofs.lemmas.List.Elements.{All-nil, All-cons, All-head, All-tail, All-append}
use Rattle.spec_text.specs.Lines.{LineState, TextState, IsText, line_texts}
use Rattle.spec_script.specs.declared.Kind.{Kind}
use Rattle.spec_script.specs.BlockValues.{LineOf, BlockOf}
use Rattle.spec_script.specs.BlockParts.{LineLies}
use Rattle.spec_script.specs.Stanzas.{blocks_of}
use Rattle.spec_script.proofs.RunSteps.{one_alone, two_together}
use Rattle.spec_pages.specs.declared.Side.{Side}
use Rattle.spec_pages.specs.declared.Side.TheVariants as sides
use Rattle.spec_pages.specs.Columns.{width_of, first_lead, has_rows}
use Rattle.spec_pages.specs.Rows.{Row, LineContext, line_state, line_context, line_row, line_rows_from, line_rows, numbered_cells, with_number, half_row, joined_row, joined_rows, shaped_row, shaped_rows, in_column_order, spoken_cells, spoken_rows, with_speakers, is_title, title_row, block_alone, single_rows, dual_rows, shifted_row}
use Rattle.spec_pages.specs.Rows as rows
use Rattle.spec_pages.specs.Wrapping.{WrappedRow, wrapped}
use Rattle.spec_pages.proofs.WrapLaws.{length-wrapped-le}
use Rattle.spec_sheets.specs.Cells.{text_at}
use Rattle.spec_sheets.specs.Speakers.{Spoken, text_elements}
use Rattle.spec_sheets.specs.Layout.{is_title_element, placed_in, layout_of}
use Rattle.spec_sheets.proofs.ElementPlaces.{Stands, Steps, blocks_of-stand, spoken_elements-rise}
use Rattle.spec_sheets.proofs.LaidRows.{element_rows, body_rows, layout-body}
use Rattle.spec_sheets.proofs.RowLaws.{AreTexts, IsText-texts, state-text}
use Rattle.spec_pages.proofs.CellLaws.{All-flat_map}

-- A row has a number below 4,096 and a mark up to a round.
pub record LowRow (round : ℕ) (it : Row) : Type 0 where
  pub row : it.row ≤ 4095
  pub low : it.mark ≤ round

-- What is asked of a text: its marks are low.
pub record LowText (round : ℕ) (lines : List LineState) : Type 0 where
  pub texts : AreTexts (line_texts lines)
  pub marks : All (λ (line : LineState). line.mark ≤ round) lines

state-mark : (round : ℕ) (lines : List LineState) (place : ℕ) → LowText round lines → (line_state lines place).mark ≤ round
state-mark round lines place low = elim (cases_lt place (length lines)) [
  | inl inside ↦ low.marks place (record { id = 0; mark = 0; text = [] }) inside
  | inr past ↦ subst (λ (line : LineState). line.mark ≤ round) (sym (get_or_past lines place (record { id = 0; mark = 0; text = [] }) past)) (omega arith)
]

rows-from : (round : ℕ) (context : LineContext) (line : LineOf) (number : ℕ) (wrapped_rows : List WrappedRow) → context.mark ≤ round → number + length wrapped_rows ≤ 4096
    → All (LowRow round) (line_rows_from context line number wrapped_rows)
rows-from round context line number [] low few = All-nil (LowRow round)
rows-from round context line number (row ∷ later) low few =
    All-cons (LowRow round) (line_row context line number row) (line_rows_from context line (number + 1) later)
    (record { row = omega (arith, few); low = low }) (rows-from round context line (number + 1) later low (omega (arith, few)))

-- Steps that leave number and mark.
numbered-low : (round : ℕ) (block : BlockOf) (made : List Row) → All (LowRow round) made → All (LowRow round) (with_number block made)
numbered-low round block [] all = all
numbered-low round block (row ∷ later) all =
    let here = All-head (LowRow round) row later all in
    All-cons (LowRow round) (record row { cells = numbered_cells block row.cells }) later (record { row = here.row; low = here.low }) (All-tail (LowRow round) row later all)

shaped-low : (round lead index : ℕ) (made : List Row) → All (LowRow round) made → All (LowRow round) (shaped_rows lead index made)
shaped-low round lead index [] all = All-nil (LowRow round)
shaped-low round lead index (row ∷ later) all =
    let here = All-head (LowRow round) row later all in
    All-cons (LowRow round) (shaped_row lead index (length later) row) (shaped_rows lead (index + 1) later) (record { row = here.row; low = here.low })
    (shaped-low round lead (index + 1) later (All-tail (LowRow round) row later all))

halves-low : (round : ℕ) (made : List Row) → All (LowRow round) made → All (LowRow round) (map half_row made)
halves-low round [] all = all
halves-low round (row ∷ later) all =
    let here = All-head (LowRow round) row later all in
    All-cons (LowRow round) (half_row row) (map half_row later) (record { row = here.row; low = here.low }) (halves-low round later (All-tail (LowRow round) row later all))

joined-low : (round : ℕ) (left right : List Row) → All (LowRow round) left → All (LowRow round) right → All (LowRow round) (joined_rows left right)
joined-low round [] right one other = halves-low round right other
joined-low round (row ∷ left) [] one other =
    let here = All-head (LowRow round) row left one in
    All-cons (LowRow round) (half_row row) (joined_rows left []) (record { row = here.row; low = here.low }) (joined-low round left [] (All-tail (LowRow round) row left one) other)
joined-low round (row ∷ left) (next ∷ right) one other =
    let here = All-head (LowRow round) row left one in
    let there = All-head (LowRow round) next right other in
    let a = here.low in
    let b = there.low in
    All-cons (LowRow round) (joined_row row next) (joined_rows left right) (record { row = here.row; low = omega (arith, a, b) })
    (joined-low round left right (All-tail (LowRow round) row left one) (All-tail (LowRow round) next right other))

titles-low : (round : ℕ) (made : List Row) → All (LowRow round) made → All (LowRow round) (map title_row made)
titles-low round [] all = all
titles-low round (row ∷ later) all =
    let here = All-head (LowRow round) row later all in
    All-cons (LowRow round) (title_row row) (map title_row later) (record { row = here.row; low = here.low }) (titles-low round later (All-tail (LowRow round) row later all))

low-if : (round : ℕ) (t : Bool) (one other : List Row) → All (LowRow round) one → All (LowRow round) other → All (LowRow round) (cond t one other)
low-if round true one other a b = a
low-if round false one other a b = b

speakers-low : (round : ℕ) (lines : List LineState) (first : ℕ) (speakers : List Bool) (made : List Row) → All (LowRow round) made → All (LowRow round) (with_speakers lines first speakers made)
speakers-low round lines first speakers made all = low-if round (list_any (λ goes_on. goes_on) speakers) (spoken_rows lines first speakers made) made (spoken made all) all
  where
    spoken : (them : List Row) → All (LowRow round) them → All (LowRow round) (spoken_rows lines first speakers them)
    spoken [] low = low
    spoken (row ∷ later) low =
        let here = All-head (LowRow round) row later low in
        All-cons (LowRow round) (record row { cells = in_column_order (spoken_cells lines first speakers row.cells) }) later (record { row = here.row; low = here.low }) (All-tail (LowRow round) row later low)

shifted-low : (round first : ℕ) (made : List Row) → All (LowRow round) made → All (LowRow round) (map (shifted_row first) made)
shifted-low round first [] all = all
shifted-low round first (row ∷ later) all =
    let here = All-head (LowRow round) row later all in
    All-cons (LowRow round) (shifted_row first row) (map (shifted_row first) later) (record { row = here.row; low = here.low }) (shifted-low round first later (All-tail (LowRow round) row later all))

module _ (round : ℕ) (lines : List LineState) (low : LowText round lines) where
  line-low : (base shift : ℕ) (side : Side) (kind : Kind) (line : LineOf) → LineLies (line_texts lines) base line → All (LowRow round) (line_rows lines base shift side kind line)
  line-low base shift side kind line lies =
      let texts = line_texts lines in
      let are = low.texts in
      let place = base + line.offset in
      let text = (line_state lines place).text in
      let width = width_of side kind line.part in
      let wraps = length-wrapped-le (text_at texts place) line.runs width (are.utf8 place [] lies.place) lies.runs in
      let short = are.short place [] lies.place in
      let size = length-map lines (λ (line : LineState). line.text) in
      let same = state-text lines place (omega (arith, lies.place, size)) in
      let few : length (wrapped text line.runs width) ≤ 4096 = subst (λ (it : List ℕ). length (wrapped it line.runs width) ≤ 4096) same (omega (arith, wraps, short)) in
      rows-from round (line_context lines base shift side kind line) line 0 (wrapped text line.runs width) (state-mark round lines place low) (omega (arith, few))

  block-low : (base shift : ℕ) (side : Side) (block : BlockOf) → All (LineLies (line_texts lines) base) block.lines → All (LowRow round) (rows.block_rows lines base shift side block)
  block-low base shift side block lies =
      All-flat_map (LowRow round) (line_rows lines base shift side block.kind) block.lines (λ k d h. line-low base shift side block.kind (get_or block.lines k d) (lies k d h))

  single-low : (it : Spoken) → Stands (line_texts lines) it.placed → All (LowRow round) (element_rows lines (one_alone it))
  single-low it stands =
      let block = it.placed.block in
      let first = it.placed.first in
      let made : All (LowRow round) (block_alone lines first block) =
      shaped-low round (first_lead block.kind) 0 _ (numbered-low round block _ (block-low first 0 sides.Alone block (stands.lies).lines)) in
      shifted-low round first (single_rows lines first block it.continued)
      (low-if round (has_rows block.kind) _ [] (low-if round (is_title block.kind) (map title_row (block_alone lines first block)) _ (titles-low round _ made) (speakers-low round lines first (it.continued ∷ []) _ made)) (All-nil (LowRow round)))

  pair-low : (left right : Spoken) → Stands (line_texts lines) left.placed → Stands (line_texts lines) right.placed → All (LowRow round) (element_rows lines (two_together left right))
  pair-low left right one other =
      let first = left.placed.first in
      let second = right.placed.first in
      shifted-low round first (dual_rows lines first left.placed.block left.continued second right.placed.block right.continued)
      (speakers-low round lines first (left.continued ∷ right.continued ∷ []) _
      (shaped-low round 1 0 _ (joined-low round _ _ (block-low first 0 sides.Left left.placed.block (one.lies).lines) (block-low second (second - first) sides.Right right.placed.block (other.lies).lines))))

  low-steps : Steps (line_texts lines) (λ from to elements. All (LowRow round) (flat_map (body_rows lines) elements))
  low-steps = record {
    none = λ from to order. All-nil (LowRow round);
    single = λ from to it others stands order behind.
        All-append (LowRow round) (body_rows lines (one_alone it)) (flat_map (body_rows lines) others)
        (low-if round (is_title_element (one_alone it)) [] (element_rows lines (one_alone it)) (All-nil (LowRow round)) (single-low it stands)) behind;
    double = λ from to left right others l r dual places order apart behind.
        All-append (LowRow round) (body_rows lines (two_together left right)) (flat_map (body_rows lines) others)
        (low-if round (is_title_element (two_together left right)) [] (element_rows lines (two_together left right)) (All-nil (LowRow round)) (pair-low left right l r)) behind;
  }

-- The body rows of a text have low numbers and marks.
pub layout_of-low : (speakers : Bool) (text : TextState) (round : ℕ) → IsText text → All (λ (line : LineState). line.mark ≤ round) text.lines
    → All (LowRow round) (placed_in (layout_of speakers text.lines).body)
layout_of-low speakers text round is marks =
    let texts = line_texts text.lines in
    let are = IsText-texts text is in
    let low : LowText round text.lines = record { texts = are; marks = marks } in
    subst (All (LowRow round)) (sym (layout-body text.lines (text_elements speakers text.lines)))
    (spoken_elements-rise speakers text.lines (λ from to elements. All (LowRow round) (flat_map (body_rows text.lines) elements)) (low-steps round text.lines low) None 0 (length texts) 0 (blocks_of texts)
    (blocks_of-stand texts are.utf8 are.few))
