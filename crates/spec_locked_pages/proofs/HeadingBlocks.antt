-- A heading is a block of one line.
use Rattle.std.proofs.Common.{◌≡◌, ℕ, Bool, true, false, cond, List, [], ◌∷◌, refl, sym, ap, ◌∙◌}
use Rattle.std.specs.Prelude.{All, drop}
use Rattle.std.proofs.lemmas.Bool.{true≢false}
use Rattle.spec_script.specs.LongestRuns.{longest_runs}
use Rattle.spec_script.specs.BlockValues.{LineOf, BlockOf}
use Rattle.spec_script.specs.Left.{trimmed, inner, plain_line, block_of, text_block}
use Rattle.spec_script.specs.Trim.{trim_all}
use Rattle.spec_script.specs.Letters.{begins}
use Rattle.spec_script.specs.Forms.{is_forced_heading, is_centred}
use Rattle.spec_script.specs.TitlePages.{one_key, title_of}
use Rattle.spec_script.specs.Headings.{heading_skip, number_len, numbered_heading}
use Rattle.spec_script.specs.Speeches.{speech_of}
use Rattle.spec_script.specs.Divisions.{section_of, listed_kind}
use Rattle.spec_script.specs.Stanzas.{PlacedBlock, blocks_of}
use Rattle.spec_state.specs.Headings.{is_heading_kind}
use Rattle.spec_script.proofs.EachBlock.{OfEachForm, Placed, listed_block, blocks-each}
use Rattle.spec_script.specs.declared.Kind.TheVariants as kinds
use Rattle.spec_script.specs.declared.Part.TheVariants as parts

-- One line, of text.
abbrev pub IsTextLine : List LineOf → Type 0
IsTextLine [] = ⊥
IsTextLine (line ∷ []) = line.part ≡ parts.Text
IsTextLine (line ∷ next ∷ lines) = ⊥

-- If the block is a heading, it begins and ends with one line.
pub record OneLined (block : BlockOf) : Type 0 where
  pub last : is_heading_kind block.kind ≡ true → block.last ≡ block.first
  pub line : is_heading_kind block.kind ≡ true → IsTextLine block.lines

no-heading : (block : BlockOf) → is_heading_kind block.kind ≡ false → OneLined block
no-heading block other = record { last = λ h. absurd (true≢false (sym h ∙ other)); line = λ h. absurd (true≢false (sym h ∙ other)) }

single-line : (block : BlockOf) → block.last ≡ block.first → IsTextLine block.lines → OneLined block
single-line block same line = record { last = λ h. same; line = λ h. line }

-- A line that is no forced heading is none in a part of several.
listed-other : (text : List ℕ) → is_forced_heading text ≡ false → is_heading_kind (listed_kind text) ≡ false
listed-other text plain =
    ap (λ b. is_heading_kind (cond b kinds.Heading (cond (begins 33 text) kinds.Action (cond (is_centred text) kinds.Centred (cond (begins 62 text) kinds.Transition (cond (begins 126 text) kinds.Lyric kinds.Action)))))) plain
    ∙ by (begins 33 text) (is_centred text) (begins 62 text) (begins 126 text)
  where
    by : (a b c d : Bool) → is_heading_kind (cond a kinds.Action (cond b kinds.Centred (cond c kinds.Transition (cond d kinds.Lyric kinds.Action)))) ≡ false
    by true b c d = refl
    by false true c d = refl
    by false false true d = refl
    by false false false true = refl
    by false false false false = refl

each-lined : OfEachForm OneLined
each-lined = record {
  heading = λ line. single-line (text_block kinds.Heading line (inner line (heading_skip line) 0)) refl refl;
  numbered = λ line. single-line (numbered_heading line (number_len (drop (heading_skip line) (trimmed line)))) refl refl;
  listed = λ group plain. no-heading (listed_block group) (listed-other (trimmed group.first) plain);
  page_break = λ line. no-heading (block_of kinds.PageBreak line []) refl;
  synopsis = λ line. no-heading (block_of kinds.Synopsis line (plain_line line parts.Text (inner line 1 0) ∷ [])) refl;
  section = λ line. no-heading (section_of line) refl;
  transition = λ line. no-heading (text_block kinds.Transition line (trim_all line.text)) refl;
  title = λ line more. no-heading (title_of line more (longest_runs one_key (line ∷ more))) refl;
  speech = λ line more. no-heading (speech_of line more) refl;
}

-- The same of placed blocks.
abbrev pub PlacedLined : PlacedBlock → Type 0
PlacedLined = Placed OneLined

pub blocks-lined : (texts : List (List ℕ)) → All PlacedLined (blocks_of texts)
blocks-lined texts = blocks-each OneLined each-lined texts
