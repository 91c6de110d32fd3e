-- A text of printable bytes has few rows.
use Rattle.std.proofs.Common.{◌≡◌, ℕ, zero, suc, ◌+◌, ◌-◌, ◌*◌, ◌<◌, ◌≤◌, Bool, true, false, cond, None, List, [], ◌∷◌, length, map, refl, ap, subst, arith, length-append, lit≤}
use Rattle.std.specs.Prelude.{All, sum_by}
use Rattle.std.specs.List.{flat_map, list_any, list_all}
use Rattle.std.proofs.lemmas.List.{length-map}
use Rattle.std.proofs.lemmas.List.Elements.{All-head, All-tail}
use Rattle.std.proofs.lemmas.List.Sums.{sum_by-cons}
use Rattle.spec_text.specs.Lines.{LineState, TextState, IsText, line_texts}
use Rattle.spec_script.specs.declared.Kind.{Kind}
use Rattle.spec_script.specs.declared.Kind.TheVariants as kinds
use Rattle.spec_script.specs.declared.Part.{Part}
use Rattle.spec_script.specs.declared.Part.TheVariants as parts
use Rattle.spec_script.specs.LongestRuns.{Group}
use Rattle.spec_script.specs.BlockValues.{LineOf, BlockOf}
use Rattle.spec_script.specs.BlockParts.{Rise, LineLies, line_from, line_to}
use Rattle.spec_script.specs.Stanzas.{PlacedBlock, blocks_of}
use Rattle.spec_script.proofs.RunSteps.{one_alone, two_together}
use Rattle.spec_pages.specs.declared.Side.{Side}
use Rattle.spec_pages.specs.declared.Side.TheVariants as sides
use Rattle.spec_pages.specs.Columns.{text_width, own_width, width_of, first_lead, has_rows}
use Rattle.spec_pages.specs.Rows.{LineContext, Row, line_state, line_context, line_rows_from, line_rows, with_number, half_row, joined_rows, shaped_rows, is_title, title_row, spoken_rows, with_speakers, block_alone, blocks_beside}
use Rattle.spec_pages.specs.Rows as rows
use Rattle.spec_pages.specs.Wrapping.{WrappedRow, wrapped}
use Rattle.spec_pages.specs.Clusters.{is_printable}
use Rattle.spec_sample.proofs.WrapFew.{byte_weights, wrapped-few}
use Rattle.spec_sheets.specs.Cells.{text_at}
use Rattle.spec_sheets.specs.Speakers.{Spoken, spoken_elements}
use Rattle.spec_sheets.specs.Layout.{is_title_element, laid_out, layout_of, placed_in}
use Rattle.spec_sheets.proofs.ElementPlaces.{placed_from, placed_to, Stands, Steps, blocks_of-stand, spoken_elements-rise}
use Rattle.spec_sheets.proofs.LaidRows.{element_rows, title_rows, body_rows, layout-body, length-element_rows}
use Rattle.spec_sheets.proofs.RowLaws.{state-text, IsText-texts}

-- A line of printable bytes.
pub record IsPrintable (text : List ℕ) : Type 0 where
  pub printable : list_all is_printable text ≡ true

-- What a line weighs: it has no more rows than times 24 in that.
abbrev pub line_weight : List ℕ → ℕ
line_weight text = 24 + byte_weights text

-- What the lines before a place weigh.
abbrev most_before : List (List ℕ) → ℕ → ℕ
most_before [] place = 0
most_before (text ∷ texts) zero = 0
most_before (text ∷ texts) (suc place) = line_weight text + most_before texts place

most_before-order : (texts : List (List ℕ)) (one other : ℕ) → one ≤ other → most_before texts one ≤ most_before texts other
most_before-order [] one other order = omega arith
most_before-order (text ∷ texts) zero other order = omega arith
most_before-order (text ∷ texts) (suc one) zero order = absurd (omega (arith, order))
most_before-order (text ∷ texts) (suc one) (suc other) order = let behind = most_before-order texts one other (omega (arith, order)) in omega (arith, behind)

most_before-next : (texts : List (List ℕ)) (place : ℕ) → place < length texts → most_before texts place + line_weight (text_at texts place) ≤ most_before texts (suc place)
most_before-next [] place inside = absurd (omega (arith, inside))
most_before-next (text ∷ texts) zero inside = omega arith
most_before-next (text ∷ texts) (suc place) inside = let behind = most_before-next texts place (omega (arith, inside)) in omega (arith, behind)

most_before-all : (texts : List (List ℕ)) (place : ℕ) → most_before texts place ≤ sum_by line_weight texts
most_before-all [] place = omega arith
most_before-all (text ∷ texts) zero = omega arith
most_before-all (text ∷ texts) (suc place) =
    let behind = most_before-all texts place in
    let size = sum_by-cons line_weight text texts in
    omega (arith, behind, size)

-- Rows are 24 columns wide or more.
text-wide : (kind : Kind) → 24 ≤ text_width kind
text-wide kinds.Lyric = lit≤ tt
text-wide _ = lit≤ tt

own-wide : (kind : Kind) (part : Part) → 24 ≤ own_width kind part
own-wide kind parts.Text = text-wide kind
own-wide kind parts.Cue = lit≤ tt
own-wide kind parts.Parenthetical = lit≤ tt
own-wide kind parts.Dialogue = lit≤ tt
own-wide kind parts.Sung = lit≤ tt
own-wide kind parts.Held = lit≤ tt
own-wide kind parts.TitleCentred = lit≤ tt
own-wide kind parts.TitleLeft = lit≤ tt

side-wide : (side : Side) (kind : Kind) (part : Part) → 24 ≤ width_of side kind part
side-wide sides.Alone kind part = own-wide kind part
side-wide sides.Left kind part = lit≤ tt
side-wide sides.Right kind part = lit≤ tt

-- The rows of a line.
pub length-line_rows_from : (context : LineContext) (line : LineOf) (number : ℕ) (wrapped_rows : List WrappedRow) → length (line_rows_from context line number wrapped_rows) ≡ length wrapped_rows
length-line_rows_from context line number [] = refl
length-line_rows_from context line number (row ∷ later) = ap suc (length-line_rows_from context line (number + 1) later)

line_rows-few : (lines : List LineState) (base shift : ℕ) (side : Side) (kind : Kind) (line : LineOf) → All IsPrintable (line_texts lines) → LineLies (line_texts lines) base line
    → 24 * length (line_rows lines base shift side kind line) + most_before (line_texts lines) (base + line_from line) ≤ most_before (line_texts lines) (base + line_to line)
line_rows-few lines base shift side kind line plain lies =
    let texts = line_texts lines in
    let place = base + line.offset in
    let state = line_state lines place in
    let width = width_of side kind line.part in
    let size = length-line_rows_from (line_context lines base shift side kind line) line 0 (wrapped state.text line.runs width) in
    let wraps = subst (λ (text : List ℕ). 24 * length (wrapped text line.runs width) ≤ line_weight (text_at texts place)) (state-text lines place (omega (arith, lies.place, length-map lines (λ (line : LineState). line.text))))
    (wrapped-few (text_at texts place) line.runs width (side-wide side kind line.part) (plain place [] lies.place).printable lies.runs) in
    let next = most_before-next texts place lies.place in
    let is : suc place ≡ base + line_to line = omega arith in
    let same = ap (most_before texts) is in
    omega (arith, size, wraps, next, same)

-- The rows of lines from a place of their stanza to another.
lines-few : (lines : List LineState) (base shift : ℕ) (side : Side) (kind : Kind) (low high : ℕ) (those : List LineOf) → All IsPrintable (line_texts lines) → All (LineLies (line_texts lines) base) those
    → Rise line_from line_to low high those
    → 24 * length (flat_map (line_rows lines base shift side kind) those) + most_before (line_texts lines) (base + low) ≤ most_before (line_texts lines) (base + high)
lines-few lines base shift side kind low high [] plain lie rise =
    let few = most_before-order (line_texts lines) (base + low) (base + high) (omega (arith, rise)) in
    omega (arith, few)
lines-few lines base shift side kind low high (line ∷ those) plain lie rise =
    let texts = line_texts lines in
    let lies = All-head (LineLies texts base) line those lie in
    let before = most_before-order texts (base + low) (base + line_from line) (omega (arith, rise.0)) in
    let here = line_rows-few lines base shift side kind line plain lies in
    let behind = lines-few lines base shift side kind (line_to line) high those plain (All-tail (LineLies texts base) line those lie) rise.2 in
    let size = length-append (line_rows lines base shift side kind line) (flat_map (line_rows lines base shift side kind) those) in
    omega (arith, before, here, behind, size)

-- The rows of a block before they are shaped.
block_rows-few : (lines : List LineState) (shift : ℕ) (side : Side) (placed : PlacedBlock) → All IsPrintable (line_texts lines) → Stands (line_texts lines) placed
    → 24 * length (rows.block_rows lines placed.first shift side placed.block) + most_before (line_texts lines) (placed_from placed) ≤ most_before (line_texts lines) (placed_to placed)
block_rows-few lines shift side placed plain stands =
    lines-few lines placed.first shift side placed.block.kind placed.block.first (placed.block.last + 1) placed.block.lines plain stands.lies.lines stands.lines

pub length-shaped : (lead index : ℕ) (line_rows : List Row) → length (shaped_rows lead index line_rows) ≡ length line_rows
length-shaped lead index [] = refl
length-shaped lead index (row ∷ later) = ap suc (length-shaped lead (index + 1) later)

pub length-with_number : (block : BlockOf) (line_rows : List Row) → length (with_number block line_rows) ≡ length line_rows
length-with_number block [] = refl
length-with_number block (row ∷ later) = refl

pub length-spoken : (lines : List LineState) (first : ℕ) (speakers : List Bool) (made : List Row) → length (spoken_rows lines first speakers made) ≡ length made
length-spoken lines first speakers [] = refl
length-spoken lines first speakers (row ∷ later) = refl

length-if : (t : Bool) (one other : List Row) (most : ℕ) → length one ≤ most → length other ≤ most → length (cond t one other) ≤ most
length-if true one other most a b = a
length-if false one other most a b = b

length-speakers : (lines : List LineState) (first : ℕ) (speakers : List Bool) (made : List Row) → length (with_speakers lines first speakers made) ≤ length made
length-speakers lines first speakers made =
    let size = length-spoken lines first speakers made in
    length-if (list_any (λ goes_on. goes_on) speakers) (spoken_rows lines first speakers made) made (length made) (omega (arith, size)) (omega arith)

-- The rows of a block by itself.
single-few : (lines : List LineState) (it : Spoken) → All IsPrintable (line_texts lines) → Stands (line_texts lines) it.placed
    → 24 * length (laid_out lines (one_alone it)).rows + most_before (line_texts lines) (placed_from it.placed) ≤ most_before (line_texts lines) (placed_to it.placed)
single-few lines it plain stands =
    let first = it.placed.first in
    let block = it.placed.block in
    let made = rows.block_rows lines first 0 sides.Alone block in
    let own = block_alone lines first block in
    let few = block_rows-few lines 0 sides.Alone it.placed plain stands in
    let shaped = length-shaped (first_lead block.kind) 0 (with_number block made) in
    let numbered = length-with_number block made in
    let titles = length-map own title_row in
    let spoken = length-speakers lines first (it.continued ∷ []) own in
    let all = length-if (has_rows block.kind) (cond (is_title block.kind) (map title_row own) (with_speakers lines first (it.continued ∷ []) own)) [] (length own)
    (length-if (is_title block.kind) (map title_row own) (with_speakers lines first (it.continued ∷ []) own) (length own) (omega (arith, titles)) spoken) (omega arith) in
    omega (arith, few, shaped, numbered, all)

-- The rows of both halves of dual dialogue.
length-joined : (left right : List Row) → length (joined_rows left right) ≤ length left + length right
length-joined [] right = let size = length-map right half_row in omega (arith, size)
length-joined (row ∷ left) [] = let later = length-joined left [] in omega (arith, later)
length-joined (row ∷ left) (other ∷ right) = let later = length-joined left right in omega (arith, later)

pair-few : (lines : List LineState) (left right : Spoken) → All IsPrintable (line_texts lines) → Stands (line_texts lines) left.placed → Stands (line_texts lines) right.placed
    → placed_to left.placed ≤ placed_from right.placed
    → 24 * length (laid_out lines (two_together left right)).rows + most_before (line_texts lines) (placed_from left.placed) ≤ most_before (line_texts lines) (placed_to right.placed)
pair-few lines left right plain l r order =
    let first = left.placed.first in
    let second_first = right.placed.first in
    let shift = second_first - first in
    let left_rows = rows.block_rows lines first 0 sides.Left left.placed.block in
    let right_rows = rows.block_rows lines second_first shift sides.Right right.placed.block in
    let here = block_rows-few lines 0 sides.Left left.placed plain l in
    let there = block_rows-few lines shift sides.Right right.placed plain r in
    let between = most_before-order (line_texts lines) (placed_to left.placed) (placed_from right.placed) order in
    let shaped = length-shaped 1 0 (joined_rows left_rows right_rows) in
    let joined = length-joined left_rows right_rows in
    let spoken = length-speakers lines first (left.continued ∷ right.continued ∷ []) (blocks_beside lines first left.placed.block second_first right.placed.block) in
    omega (arith, here, there, between, shaped, joined, spoken)

-- By whether an element is a title page: its rows are of the title page or of the body.
length-parts : (t : Bool) (made : List Row) → length (cond t made []) + length (cond t [] made) ≡ length made
length-parts true made = omega arith
length-parts false made = omega arith

-- The rows of elements between two places of the text.
abbrev AreFew : List LineState → ℕ → ℕ → List (Group Spoken) → Type 0
AreFew lines low high elements =
    24 * (length (flat_map (title_rows lines) elements) + length (flat_map (body_rows lines) elements)) + most_before (line_texts lines) low ≤ most_before (line_texts lines) high

-- The rows of an element, and those behind it.
next-few : (lines : List LineState) (low from to high : ℕ) (element : Group Spoken) (others : List (Group Spoken)) → low ≤ from
    → 24 * length (laid_out lines element).rows + most_before (line_texts lines) from ≤ most_before (line_texts lines) to → AreFew lines to high others → AreFew lines low high (element ∷ others)
next-few lines low from to high element others order here behind =
    let before = most_before-order (line_texts lines) low from order in
    let own = length-element_rows lines element in
    let parts = length-parts (is_title_element element) (element_rows lines element) in
    let titles = length-append (title_rows lines element) (flat_map (title_rows lines) others) in
    let bodies = length-append (body_rows lines element) (flat_map (body_rows lines) others) in
    omega (arith, before, own, here, behind, parts, titles, bodies)

few-steps : (lines : List LineState) → All IsPrintable (line_texts lines) → Steps (line_texts lines) (AreFew lines)
few-steps lines plain = record {
  none = λ low high order. let few = most_before-order (line_texts lines) low high order in omega (arith, few);
  single = λ low high it others stands order behind. next-few lines low (placed_from it.placed) (placed_to it.placed) high (one_alone it) others order (single-few lines it plain stands) behind;
  double = λ low high left right others l r dual places order apart behind.
      next-few lines low (placed_from left.placed) (placed_to right.placed) high (two_together left right) others order (pair-few lines left right plain l r apart) behind;
}

-- The rows of a text's body.
pub body-few : (speakers : Bool) (text : TextState) → IsText text → All IsPrintable (line_texts text.lines)
    → 24 * length (placed_in (layout_of speakers text.lines).body) ≤ sum_by line_weight (line_texts text.lines)
body-few speakers text is plain =
    let lines = text.lines in
    let texts = line_texts lines in
    let are = IsText-texts text is in
    let elements = spoken_elements speakers lines None (blocks_of texts) in
    let few = spoken_elements-rise speakers lines (AreFew lines) (few-steps lines plain) None 0 (length texts) 0 (blocks_of texts) (blocks_of-stand texts are.utf8 are.few) in
    let bodies = ap length (layout-body lines elements) in
    let all = most_before-all texts (length texts) in
    omega (arith, few, bodies, all)
