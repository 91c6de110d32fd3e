-- The blocks of a text have no written number, unless they are headings.
use Rattle.std.proofs.Common.{◌≡◌, ℕ, true, false, List, [], ◌∷◌, refl, sym, ◌∙◌}
use Rattle.std.specs.Prelude.{All, drop}
use Rattle.std.proofs.lemmas.Bool.{true≢false}
use Rattle.spec_script.specs.LongestRuns.{longest_runs}
use Rattle.spec_script.specs.BlockValues.{BlockOf}
use Rattle.spec_script.specs.Left.{trimmed, inner, plain_line, block_of, text_block}
use Rattle.spec_script.specs.Trim.{trim_all}
use Rattle.spec_script.specs.TitlePages.{one_key, title_of}
use Rattle.spec_script.specs.Headings.{heading_skip, number_len, numbered_heading}
use Rattle.spec_script.specs.Speeches.{speech_of}
use Rattle.spec_script.specs.Divisions.{section_of}
use Rattle.spec_script.specs.Stanzas.{PlacedBlock, blocks_of}
use Rattle.spec_state.specs.Headings.{is_heading_kind}
use Rattle.spec_script.proofs.EachBlock.{OfEachForm, Placed, listed_block, blocks-each}
use Rattle.spec_script.specs.declared.Kind.TheVariants as kinds
use Rattle.spec_script.specs.declared.Part.TheVariants as parts

-- Only a heading has a written number.
pub record Unnumbered (block : BlockOf) : Type 0 where
  pub none : is_heading_kind block.kind ≡ false → block.number ≡ []

no-heading : (block : BlockOf) → block.number ≡ [] → Unnumbered block
no-heading block none = record { none = λ other. none }

of-heading : (block : BlockOf) → is_heading_kind block.kind ≡ true → Unnumbered block
of-heading block is = record { none = λ other. absurd (true≢false (sym is ∙ other)) }

each-plain : OfEachForm Unnumbered
each-plain = record {
  heading = λ line. of-heading (text_block kinds.Heading line (inner line (heading_skip line) 0)) refl;
  numbered = λ line. of-heading (numbered_heading line (number_len (drop (heading_skip line) (trimmed line)))) refl;
  listed = λ group plain. no-heading (listed_block group) refl;
  page_break = λ line. no-heading (block_of kinds.PageBreak line []) refl;
  synopsis = λ line. no-heading (block_of kinds.Synopsis line (plain_line line parts.Text (inner line 1 0) ∷ [])) refl;
  section = λ line. no-heading (section_of line) refl;
  transition = λ line. no-heading (text_block kinds.Transition line (trim_all line.text)) refl;
  title = λ line more. no-heading (title_of line more (longest_runs one_key (line ∷ more))) refl;
  speech = λ line more. no-heading (speech_of line more) refl;
}

-- The same of placed blocks.
abbrev pub PlacedPlain : PlacedBlock → Type 0
PlacedPlain = Placed Unnumbered

pub blocks-plain : (texts : List (List ℕ)) → All PlacedPlain (blocks_of texts)
blocks-plain texts = blocks-each Unnumbered each-plain texts
