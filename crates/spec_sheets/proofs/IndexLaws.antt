-- The rows of an element know their places in it, and are all of a speech by itself, or none is.
use Rattle.std.proofs.Common.{◌≡◌, ℕ, zero, suc, ◌+◌, ◌-◌, ◌<◌, Bool, true, false, cond, List, [], ◌∷◌, length, map, get_or, refl, sym, ap, subst, ◌∙◌, arith}
use Rattle.std.specs.Prelude.{All}
use Rattle.std.specs.List.{flat_map, list_any}
use Rattle.std.proofs.lemmas.List.{get_or-map, length-map}
use Rattle.std.proofs.lemmas.List.Elements.{All-nil, All-cons, All-head, All-tail, All-append, All-map}
use Rattle.spec_text.specs.Lines.{LineState}
use Rattle.spec_script.specs.declared.Kind.{Kind}
use Rattle.spec_script.specs.declared.Kind.TheVariants as kinds
use Rattle.spec_script.specs.declared.Part.{Part}
use Rattle.spec_script.specs.declared.Part.TheVariants as parts
use Rattle.spec_script.specs.BlockValues.{LineOf, BlockOf}
use Rattle.spec_script.proofs.SpeechParts.{is_speech_part, IsSpoken, IsUniform}
use Rattle.spec_pages.specs.declared.Side.{Side}
use Rattle.spec_pages.specs.declared.Side.TheVariants as sides
use Rattle.spec_pages.specs.Columns.{row_kind, first_lead, has_rows, width_of}
use Rattle.spec_pages.specs.Pages.{is_speech}
use Rattle.spec_pages.specs.Rows.{Row, LineContext, ElementOf, line_context, line_rows_from, line_rows, with_number, half_row, joined_rows, shaped_row, shaped_rows, is_title, title_row, spoken_rows, with_speakers, block_alone, blocks_beside, single_rows, dual_rows, shifted_row, placed_rows}
use Rattle.spec_pages.specs.Rows as rows
use Rattle.spec_pages.specs.Wrapping.{WrappedRow, wrapped}
use Rattle.spec_sheets.specs.Layout.{KnowsPlace, AreIndexed}

-- Rows are numbered on from the index of the first.
shaped-places : (lead index : ℕ) (line_rows : List Row) (k : ℕ) (d : Row) → k < length (shaped_rows lead index line_rows)
    → KnowsPlace (index + length line_rows) (index + k) (get_or (shaped_rows lead index line_rows) k d)
shaped-places lead index [] k d h = absurd (omega arith)
shaped-places lead index (row ∷ later) zero d h = record { index = omega arith; rest = omega arith }
shaped-places lead index (row ∷ later) (suc k) d h =
    let behind = shaped-places lead (index + 1) later k d (omega arith) in
    record { index = omega (arith, behind.index); rest = omega (arith, behind.rest) }

length-shaped : (lead index : ℕ) (line_rows : List Row) → length (shaped_rows lead index line_rows) ≡ length line_rows
length-shaped lead index [] = refl
length-shaped lead index (row ∷ later) = ap suc (length-shaped lead (index + 1) later)

shaped-indexed : (lead : ℕ) (line_rows : List Row) → AreIndexed (shaped_rows lead 0 line_rows)
shaped-indexed lead line_rows k d h =
    let is = shaped-places lead 0 line_rows k d h in
    let size = length-shaped lead 0 line_rows in
    record { index = omega (arith, is.index); rest = omega (arith, is.rest, size) }

-- A speaker who goes on changes no shape.
spoken-indexed : (lines : List LineState) (first : ℕ) (speakers : List Bool) (those : List Row) → AreIndexed those → AreIndexed (spoken_rows lines first speakers those)
spoken-indexed lines first speakers [] all k d h = all k d h
spoken-indexed lines first speakers (row ∷ later) all zero d h = let is = all zero d h in record { index = is.index; rest = is.rest }
spoken-indexed lines first speakers (row ∷ later) all (suc k) d h = all (suc k) d h

indexed-if : (t : Bool) (one other : List Row) → AreIndexed one → AreIndexed other → AreIndexed (cond t one other)
indexed-if true one other a b = a
indexed-if false one other a b = b

none-indexed : AreIndexed []
none-indexed k d h = absurd (omega arith)

speakers-indexed : (lines : List LineState) (first : ℕ) (speakers : List Bool) (those : List Row) → AreIndexed those → AreIndexed (with_speakers lines first speakers those)
speakers-indexed lines first speakers those all =
    indexed-if (list_any (λ goes_on. goes_on) speakers) (spoken_rows lines first speakers those) those (spoken-indexed lines first speakers those all) all

-- The rows of a block that is no title page.
pub single_rows-indexed : (lines : List LineState) (first : ℕ) (block : BlockOf) (continued : Bool) → is_title block.kind ≡ false → AreIndexed (single_rows lines first block continued)
single_rows-indexed lines first block continued body =
    let own = block_alone lines first block in
    let spoken = with_speakers lines first (continued ∷ []) own in
    indexed-if (has_rows block.kind) (cond (is_title block.kind) (map title_row own) spoken) []
    (subst (λ t. AreIndexed (cond t (map title_row own) spoken)) (sym body)
    (speakers-indexed lines first (continued ∷ []) own (shaped-indexed (first_lead block.kind) (with_number block (rows.block_rows lines first 0 sides.Alone block)))))
    none-indexed

pub dual_rows-indexed : (lines : List LineState) (first : ℕ) (left : BlockOf) (continued : Bool) (second_first : ℕ) (right : BlockOf) (second_continued : Bool)
    → AreIndexed (dual_rows lines first left continued second_first right second_continued)
dual_rows-indexed lines first left continued second_first right second_continued =
    speakers-indexed lines first (continued ∷ second_continued ∷ []) (blocks_beside lines first left second_first right)
    (shaped-indexed 1 (joined_rows (rows.block_rows lines first 0 sides.Left left) (rows.block_rows lines second_first (second_first - first) sides.Right right)))

-- A row keeps its index where it is placed in the text.
pub placed_rows-indexed : (element : ElementOf) → AreIndexed element.rows → AreIndexed (placed_rows element)
placed_rows-indexed element all k d h =
    let size = length-map element.rows (shifted_row element.first) in
    let inside : k < length element.rows = omega (arith, size) in
    let is = all k d inside in
    let same = get_or-map (shifted_row element.first) element.rows k d d inside in
    let index = ap (λ (row : Row). row.shape.index) same in
    let rest = ap (λ (row : Row). row.shape.rest) same in
    record { index = index ∙ is.index; rest = omega (arith, rest, is.rest, size) }

-- The rows of an element are all of a speech by itself, or none is.
abbrev RowSpeaks : Bool → Row → Type 0
RowSpeaks speech row = is_speech row.shape.kind ≡ speech

-- Whether a row is one of a speech is seen of its part.
part-kind : (kind : Kind) (part : Part) → is_speech (row_kind kind part) ≡ is_speech_part part
part-kind kind parts.Cue = refl
part-kind kind parts.Parenthetical = refl
part-kind kind parts.Dialogue = refl
part-kind kind parts.Sung = refl
part-kind kind parts.Held = refl
part-kind kind parts.TitleCentred = refl
part-kind kind parts.TitleLeft = refl
part-kind kinds.Heading parts.Text = refl
part-kind kinds.Action parts.Text = refl
part-kind kinds.Speech parts.Text = refl
part-kind kinds.Lyric parts.Text = refl
part-kind kinds.Transition parts.Text = refl
part-kind kinds.Centred parts.Text = refl
part-kind kinds.PageBreak parts.Text = refl
part-kind kinds.Section parts.Text = refl
part-kind kinds.Synopsis parts.Text = refl
part-kind kinds.Title parts.Text = refl

line-speaks : (speech : Bool) (context : LineContext) (line : LineOf) (number : ℕ) (those : List WrappedRow) → IsSpoken speech line → All (RowSpeaks speech) (line_rows_from context line number those)
line-speaks speech context line number [] is = All-nil (RowSpeaks speech)
line-speaks speech context line number (it ∷ later) is =
    All-cons (RowSpeaks speech) _ (line_rows_from context line (number + 1) later) (part-kind context.kind line.part ∙ is) (line-speaks speech context line (number + 1) later is)

lines-speak : (speech : Bool) (lines : List LineState) (first shift : ℕ) (side : Side) (kind : Kind) (those : List LineOf) → All (IsSpoken speech) those
    → All (RowSpeaks speech) (flat_map (line_rows lines first shift side kind) those)
lines-speak speech lines first shift side kind [] all = All-nil (RowSpeaks speech)
lines-speak speech lines first shift side kind (line ∷ those) all =
    let context = line_context lines first shift side kind line in
    All-append (RowSpeaks speech) (line_rows lines first shift side kind line) (flat_map (line_rows lines first shift side kind) those)
    (line-speaks speech context line 0 (wrapped context.text line.runs (width_of side kind line.part)) (All-head (IsSpoken speech) line those all))
    (lines-speak speech lines first shift side kind those (All-tail (IsSpoken speech) line those all))

numbered-speak : (speech : Bool) (block : BlockOf) (those : List Row) → All (RowSpeaks speech) those → All (RowSpeaks speech) (with_number block those)
numbered-speak speech block [] all = all
numbered-speak speech block (row ∷ later) all =
    All-cons (RowSpeaks speech) _ later (All-head (RowSpeaks speech) row later all) (All-tail (RowSpeaks speech) row later all)

halves-speak : (those : List Row) → All (RowSpeaks false) (map half_row those)
halves-speak [] = All-nil (RowSpeaks false)
halves-speak (row ∷ later) = All-cons (RowSpeaks false) (half_row row) (map half_row later) refl (halves-speak later)

joined-speak : (left right : List Row) → All (RowSpeaks false) (joined_rows left right)
joined-speak [] right = halves-speak right
joined-speak (row ∷ left) [] = All-cons (RowSpeaks false) (half_row row) (joined_rows left []) refl (joined-speak left [])
joined-speak (row ∷ left) (other ∷ right) = All-cons (RowSpeaks false) _ (joined_rows left right) refl (joined-speak left right)

shaped-speak : (speech : Bool) (lead index : ℕ) (those : List Row) → All (RowSpeaks speech) those → All (RowSpeaks speech) (shaped_rows lead index those)
shaped-speak speech lead index [] all = All-nil (RowSpeaks speech)
shaped-speak speech lead index (row ∷ later) all =
    All-cons (RowSpeaks speech) (shaped_row lead index (length later) row) (shaped_rows lead (index + 1) later) (All-head (RowSpeaks speech) row later all)
    (shaped-speak speech lead (index + 1) later (All-tail (RowSpeaks speech) row later all))

spoken-speak : (lines : List LineState) (first : ℕ) (speakers : List Bool) (speech : Bool) (those : List Row) → All (RowSpeaks speech) those → All (RowSpeaks speech) (spoken_rows lines first speakers those)
spoken-speak lines first speakers speech [] all = all
spoken-speak lines first speakers speech (row ∷ later) all =
    All-cons (RowSpeaks speech) _ later (All-head (RowSpeaks speech) row later all) (All-tail (RowSpeaks speech) row later all)

speak-if : (speech t : Bool) (one other : List Row) → All (RowSpeaks speech) one → All (RowSpeaks speech) other → All (RowSpeaks speech) (cond t one other)
speak-if speech true one other a b = a
speak-if speech false one other a b = b

speakers-speak : (lines : List LineState) (first : ℕ) (speakers : List Bool) (speech : Bool) (those : List Row) → All (RowSpeaks speech) those → All (RowSpeaks speech) (with_speakers lines first speakers those)
speakers-speak lines first speakers speech those all =
    speak-if speech (list_any (λ goes_on. goes_on) speakers) (spoken_rows lines first speakers those) those (spoken-speak lines first speakers speech those all) all

-- The rows of an element that is no title page: they know their places, and are all of a speech by itself, or none is.
pub record AreOfElement (those : List Row) : Type 0 where
  pub indexed : AreIndexed those
  pub speech : Bool
  pub speaks : All (λ (row : Row). is_speech row.shape.kind ≡ speech) those

pub single_rows-element : (lines : List LineState) (first : ℕ) (block : BlockOf) (continued : Bool) → is_title block.kind ≡ false → IsUniform block → AreOfElement (single_rows lines first block continued)
single_rows-element lines first block continued body is =
    let own = block_alone lines first block in
    let made = rows.block_rows lines first 0 sides.Alone block in
    let spoken = with_speakers lines first (continued ∷ []) own in
    record {
      indexed = single_rows-indexed lines first block continued body;
      speech = is.speech;
      speaks =
          speak-if is.speech (has_rows block.kind) (cond (is_title block.kind) (map title_row own) spoken) []
          (subst (λ t. All (RowSpeaks is.speech) (cond t (map title_row own) spoken)) (sym body)
          (speakers-speak lines first (continued ∷ []) is.speech own
          (shaped-speak is.speech (first_lead block.kind) 0 (with_number block made)
          (numbered-speak is.speech block made (lines-speak is.speech lines first 0 sides.Alone block.kind block.lines is.lines)))))
          (All-nil (RowSpeaks is.speech));
    }

pub dual_rows-element : (lines : List LineState) (first : ℕ) (left : BlockOf) (continued : Bool) (second_first : ℕ) (right : BlockOf) (second_continued : Bool)
    → AreOfElement (dual_rows lines first left continued second_first right second_continued)
dual_rows-element lines first left continued second_first right second_continued =
    let one = rows.block_rows lines first 0 sides.Left left in
    let other = rows.block_rows lines second_first (second_first - first) sides.Right right in
    record {
      indexed = dual_rows-indexed lines first left continued second_first right second_continued;
      speech = false;
      speaks =
          speakers-speak lines first (continued ∷ second_continued ∷ []) false (blocks_beside lines first left second_first right)
          (shaped-speak false 1 0 (joined_rows one other) (joined-speak one other));
    }

pub placed_rows-element : (element : ElementOf) → AreOfElement element.rows → AreOfElement (placed_rows element)
placed_rows-element element is =
    record { indexed = placed_rows-indexed element is.indexed; speech = is.speech; speaks = All-map (RowSpeaks is.speech) (shifted_row element.first) element.rows is.speaks }
