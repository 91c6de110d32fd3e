-- The rows that elements begin with tell headings and speeches.
use Rattle.std.proofs.Common.{◌≡◌, ℕ, ◌-◌, ◌<◌, ◌&&◌, Bool, true, false, not, cond, Option, List, [], ◌∷◌, ◌++◌, length, map, refl, sym, ap, subst, ◌∙◌, arith}
use Rattle.std.specs.Prelude.{All}
use Rattle.std.specs.List.{flat_map, list_any}
use Rattle.std.proofs.lemmas.Bool.{true≢false}
use Rattle.std.proofs.lemmas.List.Elements.{All-nil, All-cons, All-head, All-tail}
use Rattle.spec_text.specs.Lines.{LineState, line_texts}
use Rattle.spec_script.specs.declared.Kind.{Kind}
use Rattle.spec_script.specs.declared.Kind.TheVariants as kinds
use Rattle.spec_script.specs.LongestRuns.{Group}
use Rattle.spec_script.specs.BlockValues.{LineOf, BlockOf}
use Rattle.spec_script.specs.Left.{trimmed}
use Rattle.spec_script.specs.Letters.{begins}
use Rattle.spec_script.specs.Forms.{is_forced_heading, is_centred}
use Rattle.spec_script.specs.Divisions.{listed_kind}
use Rattle.spec_script.specs.Stanzas.{PlacedBlock, blocks_of}
use Rattle.spec_script.specs.Elements.{is_speech_kind, is_dual}
use Rattle.spec_script.proofs.EachBlock.{OfEachForm, blocks-each}
use Rattle.spec_script.proofs.ElementLaws.{dual-speech}
use Rattle.spec_script.proofs.RunSteps.{one_alone, two_together}
use Rattle.spec_pages.specs.declared.RowKind.{RowKind}
use Rattle.spec_pages.specs.declared.RowKind.TheVariants as row_kinds
use Rattle.spec_pages.specs.declared.Side.{Side}
use Rattle.spec_pages.specs.declared.Side.TheVariants as sides
use Rattle.spec_pages.specs.Columns.{row_kind, text_row_kind, width_of, first_lead, has_rows}
use Rattle.spec_pages.specs.Pages.{is_heading}
use Rattle.spec_pages.specs.Rows.{Row, LineContext, line_context, line_rows_from, line_rows, with_number, shaped_rows, joined_rows, title_row, is_title, spoken_rows, with_speakers, block_alone, single_rows, dual_rows, shifted_row}
use Rattle.spec_pages.specs.Rows as rows
use Rattle.spec_pages.specs.Wrapping.{WrappedRow, wrapped}
use Rattle.spec_pages.proofs.WrapLaws.{wrapped-some}
use Rattle.spec_sheets.specs.Speakers.{Spoken, named_block, settled, speaker_after, spoken_elements}
use Rattle.spec_sheets.specs.Layout.{AreIndexed, laid_out, kind_of}
use Rattle.spec_sheets.proofs.IndexLaws.{single_rows-indexed, dual_rows-indexed, placed_rows-indexed}
use Rattle.spec_sheets.proofs.LaidRows.{element_rows, body_rows}
use Rattle.spec_sheets.proofs.SpokenLaws.{spoken_alone, spoken_pair, spoken_elements-alone, spoken_elements-pair}
use Rattle.spec_state.specs.Headings.{is_heading_kind}
use Rattle.spec_cast.specs.Places.{opens_speech}

-- ---- lines of blocks

-- A test passes the first row of a line.
abbrev pub line_passes : (RowKind → Bool) → Kind → List LineOf → Bool
line_passes test kind [] = false
line_passes test kind (line ∷ lines) = test (row_kind kind line.part)

-- A test of rows passes the first row of a block just where another passes the block's kind.
abbrev pub BeginsAs : (RowKind → Bool) → (Kind → Bool) → BlockOf → Type 0
BeginsAs test kind block = is_title block.kind ≡ false → line_passes test block.kind block.lines ≡ kind block.kind

-- Lines of one kind are no speech, and one of them is a heading by its kind.
listed-speech : (text : List ℕ) → is_forced_heading text ≡ false → opens_speech (text_row_kind (listed_kind text)) ≡ is_speech_kind (listed_kind text)
listed-speech text plain =
    ap (λ b. opens_speech (text_row_kind (kind b (begins 33 text) (is_centred text) (begins 62 text) (begins 126 text)))) plain
    ∙ by (begins 33 text) (is_centred text) (begins 62 text) (begins 126 text)
    ∙ sym (ap (λ b. is_speech_kind (kind b (begins 33 text) (is_centred text) (begins 62 text) (begins 126 text))) plain)
  where
    kind : (f a b c d : Bool) → Kind
    kind f a b c d = cond f kinds.Heading (cond a kinds.Action (cond b kinds.Centred (cond c kinds.Transition (cond d kinds.Lyric kinds.Action))))

    by : (a b c d : Bool) → opens_speech (text_row_kind (kind false a b c d)) ≡ is_speech_kind (kind false a b c d)
    by true b c d = refl
    by false true c d = refl
    by false false true d = refl
    by false false false true = refl
    by false false false false = refl

kind-heading : (kind : Kind) → is_heading (text_row_kind kind) ≡ is_heading_kind kind
kind-heading kinds.Heading = refl
kind-heading kinds.Action = refl
kind-heading kinds.Speech = refl
kind-heading kinds.Lyric = refl
kind-heading kinds.Transition = refl
kind-heading kinds.Centred = refl
kind-heading kinds.PageBreak = refl
kind-heading kinds.Section = refl
kind-heading kinds.Synopsis = refl
kind-heading kinds.Title = refl

speech-forms : OfEachForm (BeginsAs opens_speech is_speech_kind)
speech-forms = record {
  heading = λ line body. refl;
  numbered = λ line body. refl;
  listed = λ group plain body. listed-speech (trimmed group.first) plain;
  page_break = λ line body. refl;
  synopsis = λ line body. refl;
  section = λ line body. refl;
  transition = λ line body. refl;
  title = λ line more body. absurd (true≢false body);
  speech = λ line more body. refl;
}

heading-forms : OfEachForm (BeginsAs is_heading is_heading_kind)
heading-forms = record {
  heading = λ line body. refl;
  numbered = λ line body. refl;
  listed = λ group plain body. kind-heading (listed_kind (trimmed group.first));
  page_break = λ line body. refl;
  synopsis = λ line body. refl;
  section = λ line body. refl;
  transition = λ line body. refl;
  title = λ line more body. absurd (true≢false body);
  speech = λ line more body. refl;
}

-- What is asked of two such tests, and of a block: it begins as they tell, and so does a speech.
pub record Tells (test : RowKind → Bool) (kind : Kind → Bool) : Type 0 where
  pub dual : test row_kinds.Dual ≡ kind kinds.Speech
  pub title : (it : Kind) → is_title it ≡ true → kind it ≡ false
  pub hidden : (it : Kind) → has_rows it ≡ false → kind it ≡ false

pub record Begins (test : RowKind → Bool) (kind : Kind → Bool) (placed : PlacedBlock) : Type 0 where
  pub own : BeginsAs test kind placed.block
  pub speech : BeginsAs opens_speech is_speech_kind placed.block

pub speech-tells : Tells opens_speech is_speech_kind
speech-tells = record { dual = refl; title = title; hidden = hidden }
  where
    title : (it : Kind) → is_title it ≡ true → is_speech_kind it ≡ false
    title kinds.Speech is = cc
    title kinds.Heading is = refl
    title kinds.Action is = refl
    title kinds.Lyric is = refl
    title kinds.Transition is = refl
    title kinds.Centred is = refl
    title kinds.PageBreak is = refl
    title kinds.Section is = refl
    title kinds.Synopsis is = refl
    title kinds.Title is = refl

    hidden : (it : Kind) → has_rows it ≡ false → is_speech_kind it ≡ false
    hidden kinds.Speech is = cc
    hidden kinds.Heading is = refl
    hidden kinds.Action is = refl
    hidden kinds.Lyric is = refl
    hidden kinds.Transition is = refl
    hidden kinds.Centred is = refl
    hidden kinds.PageBreak is = refl
    hidden kinds.Section is = refl
    hidden kinds.Synopsis is = refl
    hidden kinds.Title is = refl

pub heading-tells : Tells is_heading is_heading_kind
heading-tells = record { dual = refl; title = title; hidden = hidden }
  where
    title : (it : Kind) → is_title it ≡ true → is_heading_kind it ≡ false
    title kinds.Heading is = cc
    title kinds.Speech is = refl
    title kinds.Action is = refl
    title kinds.Lyric is = refl
    title kinds.Transition is = refl
    title kinds.Centred is = refl
    title kinds.PageBreak is = refl
    title kinds.Section is = refl
    title kinds.Synopsis is = refl
    title kinds.Title is = refl

    hidden : (it : Kind) → has_rows it ≡ false → is_heading_kind it ≡ false
    hidden kinds.Heading is = cc
    hidden kinds.Speech is = refl
    hidden kinds.Action is = refl
    hidden kinds.Lyric is = refl
    hidden kinds.Transition is = refl
    hidden kinds.Centred is = refl
    hidden kinds.PageBreak is = refl
    hidden kinds.Section is = refl
    hidden kinds.Synopsis is = refl
    hidden kinds.Title is = refl

-- Each block of a text is such a one.
pub blocks-speech : (texts : List (List ℕ)) → All (Begins opens_speech is_speech_kind) (blocks_of texts)
blocks-speech texts =
    let all = blocks-each (BeginsAs opens_speech is_speech_kind) speech-forms texts in
    λ k d h. record { own = all k d h; speech = all k d h }

pub blocks-heading : (texts : List (List ℕ)) → All (Begins is_heading is_heading_kind) (blocks_of texts)
blocks-heading texts =
    let all = blocks-each (BeginsAs is_heading is_heading_kind) heading-forms texts in
    let speech = blocks-each (BeginsAs opens_speech is_speech_kind) speech-forms texts in
    λ k d h. record { own = all k d h; speech = speech k d h }

-- ---- rows

-- A test passes the first row.
abbrev pub row_passes : (RowKind → Bool) → List Row → Bool
row_passes test [] = false
row_passes test (row ∷ later) = test row.shape.kind

rows-some : (test : RowKind → Bool) (those : List Row) → row_passes test those ≡ true → 0 < length those
rows-some test [] passes = cc
rows-some test (row ∷ later) passes = omega arith

line-first : (test : RowKind → Bool) (context : LineContext) (line : LineOf) (wraps : List WrappedRow) (others : List Row) → 0 < length wraps
    → row_passes test (line_rows_from context line 0 wraps ++ others) ≡ test (row_kind context.kind line.part)
line-first test context line [] others some = absurd (omega (arith, some))
line-first test context line (it ∷ later) others some = refl

lines-first : (test : RowKind → Bool) (lines : List LineState) (first shift : ℕ) (side : Side) (kind : Kind) (those : List LineOf)
    → row_passes test (flat_map (line_rows lines first shift side kind) those) ≡ line_passes test kind those
lines-first test lines first shift side kind [] = refl
lines-first test lines first shift side kind (line ∷ those) =
    let context = line_context lines first shift side kind line in
    line-first test context line (wrapped context.text line.runs (width_of side kind line.part)) (flat_map (line_rows lines first shift side kind) those)
    (wrapped-some context.text line.runs (width_of side kind line.part))

number-first : (test : RowKind → Bool) (block : BlockOf) (those : List Row) → row_passes test (with_number block those) ≡ row_passes test those
number-first test block [] = refl
number-first test block (row ∷ later) = refl

shaped-first : (test : RowKind → Bool) (lead index : ℕ) (those : List Row) → row_passes test (shaped_rows lead index those) ≡ row_passes test those
shaped-first test lead index [] = refl
shaped-first test lead index (row ∷ later) = refl

spoken-first : (test : RowKind → Bool) (lines : List LineState) (first : ℕ) (speakers : List Bool) (those : List Row) → row_passes test (with_speakers lines first speakers those) ≡ row_passes test those
spoken-first test lines first speakers [] = by (list_any (λ goes_on. goes_on) speakers)
  where
    by : (b : Bool) → row_passes test (cond b [] []) ≡ false
    by true = refl
    by false = refl
spoken-first test lines first speakers (row ∷ later) = by (list_any (λ goes_on. goes_on) speakers)
  where
    by : (b : Bool) → row_passes test (cond b (spoken_rows lines first speakers (row ∷ later)) (row ∷ later)) ≡ test row.shape.kind
    by true = refl
    by false = refl

placed-first : (test : RowKind → Bool) (first : ℕ) (those : List Row) → row_passes test (map (shifted_row first) those) ≡ row_passes test those
placed-first test first [] = refl
placed-first test first (row ∷ later) = refl

single-first : (test : RowKind → Bool) (kind : Kind → Bool) → Tells test kind → (lines : List LineState) (first : ℕ) (block : BlockOf) (continued : Bool) → is_title block.kind ≡ false
    → BeginsAs test kind block → row_passes test (single_rows lines first block continued) ≡ kind block.kind
single-first test kind tells lines first block continued body begins = by (has_rows block.kind) (is_title block.kind) (tells.hidden block.kind) body
  where
    own : List Row
    own = block_alone lines first block

    by : (h t : Bool) → (h ≡ false → kind block.kind ≡ false) → t ≡ false
        → row_passes test (cond h (cond t (map title_row own) (with_speakers lines first (continued ∷ []) own)) []) ≡ kind block.kind
    by true false hidden is =
        let made = rows.block_rows lines first 0 sides.Alone block in
        spoken-first test lines first (continued ∷ []) own ∙ shaped-first test (first_lead block.kind) 0 (with_number block made) ∙ number-first test block made
        ∙ lines-first test lines first 0 sides.Alone block.kind block.lines ∙ begins body
    by true true hidden is = cc
    by false t hidden is = sym (hidden refl)

joined-first : (test : RowKind → Bool) (left right : List Row) → 0 < length left → row_passes test (joined_rows left right) ≡ test row_kinds.Dual
joined-first test [] right some = absurd (omega (arith, some))
joined-first test (row ∷ left) [] some = refl
joined-first test (row ∷ left) (other ∷ right) some = refl

dual-first : (test : RowKind → Bool) (lines : List LineState) (left right : Spoken) → is_speech_kind left.placed.block.kind ≡ true → is_title left.placed.block.kind ≡ false
    → BeginsAs opens_speech is_speech_kind left.placed.block
    → row_passes test (dual_rows lines left.placed.first left.placed.block left.continued right.placed.first right.placed.block right.continued) ≡ test row_kinds.Dual
dual-first test lines left right speech body begins =
    let one = rows.block_rows lines left.placed.first 0 sides.Left left.placed.block in
    let other = rows.block_rows lines right.placed.first (right.placed.first - left.placed.first) sides.Right right.placed.block in
    let some = rows-some opens_speech one (lines-first opens_speech lines left.placed.first 0 sides.Left left.placed.block.kind left.placed.block.lines ∙ begins body ∙ speech) in
    spoken-first test lines left.placed.first (left.continued ∷ right.continued ∷ []) (shaped_rows 1 0 (joined_rows one other))
    ∙ shaped-first test 1 0 (joined_rows one other) ∙ joined-first test one other some

-- ---- elements

-- Rows of the body that know their places in their element, the first of which passes or not.
pub record Opens (test : RowKind → Bool) (flag : Bool) (those : List Row) : Type 0 where
  pub indexed : AreIndexed those
  pub first : row_passes test those ≡ flag

-- An element's rows in the body open as its kind tells.
abbrev pub ElementOpens : (RowKind → Bool) → (Kind → Bool) → List LineState → Group Spoken → Type 0
ElementOpens test kind lines element = Opens test (kind (kind_of element)) (body_rows lines element)

none-indexed : AreIndexed []
none-indexed k d h = absurd (omega (arith, h))

alone-opens : (test : RowKind → Bool) (kind : Kind → Bool) → Tells test kind → (lines : List LineState) (it : Spoken) → Begins test kind it.placed → ElementOpens test kind lines (one_alone it)
alone-opens test kind tells lines it begins = by (is_title it.placed.block.kind) refl
  where
    by : (t : Bool) → is_title it.placed.block.kind ≡ t → Opens test (kind it.placed.block.kind) (cond t [] (element_rows lines (one_alone it)))
    by true is = record { indexed = none-indexed; first = sym (tells.title it.placed.block.kind is) }
    by false is = record {
      indexed = placed_rows-indexed (laid_out lines (one_alone it)) (single_rows-indexed lines it.placed.first it.placed.block it.continued is);
      first =
          placed-first test it.placed.first (single_rows lines it.placed.first it.placed.block it.continued)
          ∙ single-first test kind tells lines it.placed.first it.placed.block it.continued is begins.own;
    }

pair-opens : (test : RowKind → Bool) (kind : Kind → Bool) → Tells test kind → (lines : List LineState) (left right : Spoken) → is_dual left.placed right.placed ≡ true → Begins test kind left.placed
    → ElementOpens test kind lines (two_together left right)
pair-opens test kind tells lines left right dual begins =
    let is = dual-speech left.placed right.placed dual in
    let body : is_title left.placed.block.kind ≡ false = ap is_title is in
    subst (λ t. Opens test (kind left.placed.block.kind) (cond t [] (element_rows lines (two_together left right)))) (sym body) (record {
      indexed = placed_rows-indexed (laid_out lines (two_together left right))
          (dual_rows-indexed lines left.placed.first left.placed.block left.continued right.placed.first right.placed.block right.continued);
      first =
          placed-first test left.placed.first (dual_rows lines left.placed.first left.placed.block left.continued right.placed.first right.placed.block right.continued)
          ∙ dual-first test lines left right (ap is_speech_kind is) body begins.speech ∙ tells.dual ∙ sym (ap kind is);
    })

-- The second of a pair is a speech, and no heading.
pub dual-second : (left right : PlacedBlock) → is_dual left right ≡ true → is_speech_kind right.block.kind ≡ true
dual-second left right dual = by (is_speech_kind left.block.kind) (not left.block.caret) (is_speech_kind right.block.kind) right.block.caret dual
  where
    by : (a b c d : Bool) → (a && b && c && d) ≡ true → c ≡ true
    by a b true d is = refl
    by true true false d is = cc
    by true false false d is = cc
    by false b false d is = cc

pub dual-other : (left right : PlacedBlock) → is_dual left right ≡ true → is_heading_kind right.block.kind ≡ false
dual-other left right dual = by right.block.kind (dual-second left right dual)
  where
    by : (kind : Kind) → is_speech_kind kind ≡ true → is_heading_kind kind ≡ false
    by kinds.Heading is = cc
    by kinds.Speech is = refl
    by kinds.Action is = refl
    by kinds.Lyric is = refl
    by kinds.Transition is = refl
    by kinds.Centred is = refl
    by kinds.PageBreak is = refl
    by kinds.Section is = refl
    by kinds.Synopsis is = refl
    by kinds.Title is = refl

-- What holds of the elements of blocks, by whether the first two are dual dialogue.
pub elements-step : (P : List (Group Spoken) → Type 0) (speakers : Bool) (lines : List LineState) (last : Option (List ℕ)) (block next : PlacedBlock) (blocks : List PlacedBlock)
    → let behind = speaker_after (line_texts lines) last block in (t : Bool) → is_dual block next ≡ t
    → (is_dual block next ≡ false → P (spoken_alone speakers lines last block ∷ spoken_elements speakers lines behind (next ∷ blocks)))
    → (is_dual block next ≡ true → P (spoken_pair speakers lines last block next ∷ spoken_elements speakers lines (speaker_after (line_texts lines) behind next) blocks))
    → P (spoken_elements speakers lines last (block ∷ next ∷ blocks))
elements-step P speakers lines last block next blocks true dual apart both = subst P (sym (spoken_elements-pair speakers lines last block next blocks dual)) (both dual)
elements-step P speakers lines last block next blocks false other apart both = subst P (sym (spoken_elements-alone speakers lines last block next blocks other)) (apart other)

-- The elements of blocks that begin as the tests tell.
pub elements-open : (test : RowKind → Bool) (kind : Kind → Bool) → Tells test kind → (speakers : Bool) (lines : List LineState) (last : Option (List ℕ)) (blocks : List PlacedBlock)
    → All (Begins test kind) blocks → All (ElementOpens test kind lines) (spoken_elements speakers lines last blocks)
elements-open test kind tells speakers lines last [] all = All-nil (ElementOpens test kind lines)
elements-open test kind tells speakers lines last (block ∷ []) all =
    All-cons (ElementOpens test kind lines) (spoken_alone speakers lines last block) [] (alone-opens test kind tells lines (spoken_alone speakers lines last block).first (All-head (Begins test kind) block [] all)) (All-nil (ElementOpens test kind lines))
elements-open test kind tells speakers lines last (block ∷ next ∷ blocks) all =
    let here = All-head (Begins test kind) block (next ∷ blocks) all in
    let behind = All-tail (Begins test kind) block (next ∷ blocks) all in
    let after = speaker_after (line_texts lines) last block in
    elements-step (All (ElementOpens test kind lines)) speakers lines last block next blocks (is_dual block next) refl
    (λ apart. All-cons (ElementOpens test kind lines) (spoken_alone speakers lines last block) (spoken_elements speakers lines after (next ∷ blocks)) (alone-opens test kind tells lines (spoken_alone speakers lines last block).first here)
    (elements-open test kind tells speakers lines after (next ∷ blocks) behind))
    (λ dual. All-cons (ElementOpens test kind lines) (spoken_pair speakers lines last block next) (spoken_elements speakers lines (speaker_after (line_texts lines) after next) blocks)
    (pair-opens test kind tells lines (spoken_pair speakers lines last block next).first (settled lines sides.Right (named_block speakers (line_texts lines) after next)) dual here)
    (elements-open test kind tells speakers lines (speaker_after (line_texts lines) after next) blocks (All-tail (Begins test kind) next blocks behind)))
