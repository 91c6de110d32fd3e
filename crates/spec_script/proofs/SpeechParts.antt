-- The lines of a block are all parts of a speech, or none of them is.
use Rattle.std.proofs.Common.{◌≡◌, ℕ, Bool, true, false, cond, List, [], ◌∷◌, map, refl}
use Rattle.std.specs.Prelude.{All, drop}
use Rattle.std.specs.List.{flat_map}
use Rattle.std.proofs.lemmas.List.Elements.{All-nil, All-cons, All-head, All-tail, All-append}
use Rattle.spec_script.specs.declared.Kind.TheVariants as kinds
use Rattle.spec_script.specs.declared.Part.{Part}
use Rattle.spec_script.specs.declared.Part.TheVariants as parts
use Rattle.spec_script.specs.LongestRuns.{Group, members, longest_runs}
use Rattle.spec_script.specs.BlockValues.{LineOf, BlockOf}
use Rattle.spec_script.specs.Left.{Left, trimmed, inner, line_of, plain_line, block_of, text_block}
use Rattle.spec_script.specs.Trim.{trim_all}
use Rattle.spec_script.specs.Letters.{begins}
use Rattle.spec_script.specs.Forms.{is_parenthetical}
use Rattle.spec_script.specs.Title.{opens_centred}
use Rattle.spec_script.specs.TitlePages.{one_key, title_part, value_line, value_of, values_of, opened, title_lines, title_of}
use Rattle.spec_script.specs.Headings.{heading_skip, number_len, numbered_heading}
use Rattle.spec_script.specs.Speeches.{cue_line, spoken, speech_of}
use Rattle.spec_script.specs.Divisions.{section_of, listed_line}
use Rattle.spec_script.specs.Stanzas.{PlacedBlock, blocks_of}
use Rattle.spec_script.proofs.EachBlock.{OfEachForm, Placed, listed_block, blocks-each}

-- The part is one of a speech.
abbrev pub is_speech_part : Part → Bool
is_speech_part parts.Cue = true
is_speech_part parts.Parenthetical = true
is_speech_part parts.Dialogue = true
is_speech_part parts.Sung = true
is_speech_part parts.Held = true
is_speech_part _ = false

-- Whether a line is one of a speech.
abbrev pub IsSpoken : Bool → LineOf → Type 0
IsSpoken speech line = is_speech_part line.part ≡ speech

-- All lines of a block are, or none is.
pub record IsUniform (block : BlockOf) : Type 0 where
  pub speech : Bool
  pub lines : All (IsSpoken speech) block.lines

abbrev Silent : List LineOf → Type 0
Silent lines = All (IsSpoken false) lines

quiet : (block : BlockOf) → Silent block.lines → IsUniform block
quiet block lines = record { speech = false; lines = lines }

one-line : (speech : Bool) (line : LineOf) → IsSpoken speech line → All (IsSpoken speech) (line ∷ [])
one-line speech line h = All-cons (IsSpoken speech) line [] h (All-nil (IsSpoken speech))

-- A title page's lines.
value-silent : (centred : Bool) (line : Left) → Silent (value_of centred line)
value-silent centred line = by _ centred
  where
    by : (b centred : Bool) → Silent (cond b (value_line line (title_part centred) ∷ []) [])
    by true true = one-line false (value_line line parts.TitleCentred) refl
    by true false = one-line false (value_line line parts.TitleLeft) refl
    by false centred = All-nil (IsSpoken false)

values-silent : (centred : Bool) (lines : List Left) → Silent (flat_map (value_of centred) lines)
values-silent centred [] = All-nil (IsSpoken false)
values-silent centred (line ∷ lines) =
    All-append (IsSpoken false) (value_of centred line) (flat_map (value_of centred) lines) (value-silent centred line) (values-silent centred lines)

opened-silent : (lines : List LineOf) → Silent lines → Silent (opened lines)
opened-silent [] all = all
opened-silent (line ∷ lines) all =
    All-cons (IsSpoken false) (record line { opens = true }) lines (All-head (IsSpoken false) line lines all) (All-tail (IsSpoken false) line lines all)

later-silent : (keys : List (Group Left)) → Silent (flat_map opened (map values_of keys))
later-silent [] = All-nil (IsSpoken false)
later-silent (key ∷ keys) =
    All-append (IsSpoken false) (opened (values_of key)) (flat_map opened (map values_of keys))
    (opened-silent (values_of key) (values-silent (opens_centred key.first.text) (members key))) (later-silent keys)

titles-silent : (keys : List (Group Left)) → Silent (title_lines (map values_of keys))
titles-silent [] = All-nil (IsSpoken false)
titles-silent (key ∷ keys) = first (values_of key) (values-silent (opens_centred key.first.text) (members key)) (titles-silent keys)
  where
    first : (lines : List LineOf) → Silent lines → Silent (title_lines (map values_of keys)) → Silent (title_lines (lines ∷ map values_of keys))
    first [] all rest = rest
    first (line ∷ lines) all rest = All-append (IsSpoken false) (line ∷ lines) (flat_map opened (map values_of keys)) all (later-silent keys)

-- A speech's lines.
line-spoken : (line : Left) → IsSpoken true (spoken line)
line-spoken line = by line.held (is_parenthetical (trimmed line)) (begins 126 (trimmed line))
  where
    by : (held brackets sung : Bool) → IsSpoken true (cond held (line_of line parts.Held (record { from = 0; to = 0 }))
        (cond brackets (line_of line parts.Parenthetical (trim_all line.text)) (cond sung (line_of line parts.Sung (inner line 1 0)) (line_of line parts.Dialogue (trim_all line.text)))))
    by true brackets sung = refl
    by false true sung = refl
    by false false true = refl
    by false false false = refl

speech-spoken : (line : Left) (more : List Left) → IsUniform (speech_of line more)
speech-spoken line more = record { speech = true; lines = All-cons (IsSpoken true) (cue_line line) (map spoken more) refl (each more) }
  where
    each : (lines : List Left) → All (IsSpoken true) (map spoken lines)
    each [] = All-nil (IsSpoken true)
    each (l ∷ ls) = All-cons (IsSpoken true) (spoken l) (map spoken ls) (line-spoken l) (each ls)

-- The other blocks' lines.
listed-silent : (lines : List Left) → Silent (map listed_line lines)
listed-silent [] = All-nil (IsSpoken false)
listed-silent (line ∷ lines) = All-cons (IsSpoken false) (listed_line line) (map listed_line lines) refl (listed-silent lines)

each-uniform : OfEachForm IsUniform
each-uniform = record {
  heading = λ line. quiet (text_block kinds.Heading line (inner line (heading_skip line) 0)) (one-line false _ refl);
  numbered = λ line. quiet (numbered_heading line (number_len (drop (heading_skip line) (trimmed line)))) (one-line false _ refl);
  listed = λ group plain. quiet (listed_block group) (listed-silent (members group));
  page_break = λ line. quiet (block_of kinds.PageBreak line []) (All-nil (IsSpoken false));
  synopsis = λ line. quiet (block_of kinds.Synopsis line (plain_line line parts.Text (inner line 1 0) ∷ [])) (one-line false _ refl);
  section = λ line. quiet (section_of line) (one-line false _ refl);
  transition = λ line. quiet (text_block kinds.Transition line (trim_all line.text)) (one-line false _ refl);
  title = λ line more. quiet (title_of line more (longest_runs one_key (line ∷ more))) (titles-silent (longest_runs one_key (line ∷ more)));
  speech = λ line more. speech-spoken line more;
}

-- The same of placed blocks.
abbrev pub PlacedUniform : PlacedBlock → Type 0
PlacedUniform = Placed IsUniform

pub blocks-uniform : (texts : List (List ℕ)) → All PlacedUniform (blocks_of texts)
blocks-uniform texts = blocks-each IsUniform each-uniform texts
