-- A speech is the only block of its stanza, and so is a block with a caret.
use Rattle.std.proofs.Common.{◌≡◌, ◌⊎◌, ℕ, ◌≤◌, Bool, true, false, cond, not, ◌&&◌, ◌==◌, List, [], ◌∷◌, length, map, drop, inl, inr, refl, ap, arith, All}
use Rattle.std.proofs.lemmas.List.Elements.{All-nil, All-cons, All-head, All-tail, All-append}
use Rattle.spec_script.specs.declared.Kind.TheVariants as kinds
use Rattle.spec_script.specs.declared.Part.TheVariants as parts
use Rattle.spec_script.specs.LongestRuns.{Group, members, longest_runs}
use Rattle.spec_script.specs.BlockValues.{BlockOf, StanzaOf}
use Rattle.spec_script.specs.Left.{Left, left_lines, trimmed, inner, plain_line, block_of, text_block}
use Rattle.spec_script.specs.Letters.{begins}
use Rattle.spec_script.specs.Trim.{trim_all}
use Rattle.spec_script.specs.Forms.{is_centred, is_natural_heading, is_natural_transition, is_forced_heading, is_page_break, is_synopsis}
use Rattle.spec_script.specs.Title.{title_opens}
use Rattle.spec_script.specs.TitlePages.{one_key, title_of}
use Rattle.spec_script.specs.Headings.{heading_skip, number_len, numbered_heading, heading_of}
use Rattle.spec_script.specs.Speeches.{is_speech, speech_of}
use Rattle.spec_script.specs.Divisions.{ends_part, section_of, ending_blocks, listed_kind, one_block, group_block, run_blocks, part_blocks, piece_blocks, one_part, pieces_blocks}
use Rattle.spec_script.specs.Blocks.{left_blocks}
use Rattle.spec_script.specs.Elements.{is_speech_kind}
use Rattle.spec_script.specs.Stanzas.{Kept, one_stanza, cleaned_lines, stanza_of, stanzas_in, lines_from, stanzas_of}
use Rattle.spec_edit.specs.RelaidStanzas.{first_apart, last_apart}

-- A block that is no speech and has no caret.
pub record IsQuiet (block : BlockOf) : Type 0 where
  pub kind : is_speech_kind block.kind ≡ false
  pub caret : block.caret ≡ false

-- Of the blocks of a stanza one is a speech only if it is the only one.
abbrev pub SpeaksAlone : List BlockOf → Type 0
SpeaksAlone blocks = (length blocks ≤ 1) ⊎ All IsQuiet blocks

abbrev pub StanzaSpeaksAlone : StanzaOf → Type 0
StanzaSpeaksAlone stanza = SpeaksAlone stanza.blocks

quiet-one : (block : BlockOf) → IsQuiet block → All IsQuiet (block ∷ [])
quiet-one block it = All-cons IsQuiet block [] it (All-nil IsQuiet)

-- By a test.
if-quiet : (b : Bool) (xs ys : List BlockOf) → All IsQuiet xs → All IsQuiet ys → All IsQuiet (cond b xs ys)
if-quiet true xs ys one other = one
if-quiet false xs ys one other = other

if-block : (b : Bool) (x y : BlockOf) → IsQuiet x → IsQuiet y → IsQuiet (cond b x y)
if-block true x y one other = one
if-block false x y one other = other

-- Blocks that are no speeches.
heading-quiet : (line : Left) → IsQuiet (heading_of line)
heading-quiet line =
    let n = number_len (drop (heading_skip line) (trimmed line)) in
    if-block (n == 0) (text_block kinds.Heading line (inner line (heading_skip line) 0)) (numbered_heading line n) (record { kind = refl; caret = refl }) (record { kind = refl; caret = refl })

listed-quiet : (text : List ℕ) → is_speech_kind (listed_kind text) ≡ false
listed-quiet text = by (is_forced_heading text) (begins 33 text) (is_centred text) (begins 62 text) (begins 126 text)
  where
    by : (a b c d e : Bool) → is_speech_kind (cond a kinds.Heading (cond b kinds.Action (cond c kinds.Centred (cond d kinds.Transition (cond e kinds.Lyric kinds.Action))))) ≡ false
    by true b c d e = refl
    by false true c d e = refl
    by false false true d e = refl
    by false false false true e = refl
    by false false false false true = refl
    by false false false false false = refl

group-quiet : (group : Group Left) → IsQuiet (group_block group)
group-quiet group =
    if-block (is_forced_heading (trimmed group.first)) (heading_of group.first) _ (heading-quiet group.first) (record { kind = listed-quiet (trimmed group.first); caret = refl })

groups-quiet : (groups : List (Group Left)) → All IsQuiet (map group_block groups)
groups-quiet [] = All-nil IsQuiet
groups-quiet (group ∷ groups) = All-cons IsQuiet (group_block group) (map group_block groups) (group-quiet group) (groups-quiet groups)

ending-quiet : (line : Left) → All IsQuiet (ending_blocks line)
ending-quiet line =
    if-quiet line.held [] _ (All-nil IsQuiet)
    (if-quiet (is_page_break (trimmed line)) (block_of kinds.PageBreak line [] ∷ []) _ (quiet-one (block_of kinds.PageBreak line []) (record { kind = refl; caret = refl }))
    (if-quiet (is_synopsis (trimmed line)) _ (section_of line ∷ []) (quiet-one (block_of kinds.Synopsis line (plain_line line parts.Text (inner line 1 0) ∷ [])) (record { kind = refl; caret = refl }))
    (quiet-one (section_of line) (record { kind = refl; caret = refl }))))

part-quiet : (line : Left) (more : List Left) → All IsQuiet (part_blocks line more)
part-quiet line [] =
    if-quiet (is_natural_heading (trimmed line)) (heading_of line ∷ []) _ (quiet-one (heading_of line) (heading-quiet line))
    (if-quiet (is_natural_transition line.text) (text_block kinds.Transition line (trim_all line.text) ∷ []) (run_blocks (line ∷ []))
    (quiet-one (text_block kinds.Transition line (trim_all line.text)) (record { kind = refl; caret = refl })) (groups-quiet (longest_runs one_block (line ∷ []))))
part-quiet line (next ∷ more) = groups-quiet (longest_runs one_block (line ∷ next ∷ more))

pieces-quiet : (groups : List (Group Left)) → All IsQuiet (pieces_blocks groups)
pieces-quiet [] = All-nil IsQuiet
pieces-quiet (group ∷ groups) =
    All-append IsQuiet (piece_blocks group) (pieces_blocks groups)
    (if-quiet (ends_part group.first) (ending_blocks group.first) (part_blocks group.first group.more) (ending-quiet group.first) (part-quiet group.first group.more)) (pieces-quiet groups)

left-alone : (first : Bool) (lines : List Left) → SpeaksAlone (left_blocks first lines)
left-alone first [] = inl (omega arith)
left-alone first (line ∷ more) = by (first && title_opens line.text) (is_speech line more)
  where
    by : (title speech : Bool) → SpeaksAlone (cond title (title_of line more (longest_runs one_key (line ∷ more)) ∷ []) (cond speech (speech_of line more ∷ []) (pieces_blocks (longest_runs one_part (line ∷ more)))))
    by true speech = inl (omega arith)
    by false true = inl (omega arith)
    by false false = inr (pieces-quiet (longest_runs one_part (line ∷ more)))

groups-alone : (first : Bool) (groups : List (Group Kept)) → All StanzaSpeaksAlone (stanzas_in first groups)
groups-alone first [] = All-nil StanzaSpeaksAlone
groups-alone first (group ∷ groups) =
    All-cons StanzaSpeaksAlone (stanza_of first (members group)) (stanzas_in false groups) (left-alone first (left_lines (cleaned_lines (members group)))) (groups-alone false groups)

pub stanzas-alone : (texts : List (List ℕ)) → All StanzaSpeaksAlone (stanzas_of texts)
stanzas-alone texts = groups-alone true (longest_runs one_stanza (lines_from texts 0))

-- Blocks of which the first has a caret are one, and so are those of which the last is a speech without one.
not-true : (b : Bool) → b ≡ false → not b ≡ true
not-true b is = ap not is

quiet-last : (block : BlockOf) (blocks : List BlockOf) → All IsQuiet (block ∷ blocks) → last_apart (block ∷ blocks) ≡ true
quiet-last block [] all = ap (λ b. not (b && not block.caret)) (All-head IsQuiet block [] all).kind
quiet-last block (next ∷ blocks) all = quiet-last next blocks (All-tail IsQuiet block (next ∷ blocks) all)

pub one-caret : (blocks : List BlockOf) → SpeaksAlone blocks → (first_apart blocks ≡ true → ⊥) → length blocks ≤ 1
one-caret [] alone first = omega arith
one-caret (block ∷ blocks) (inl few) first = few
one-caret (block ∷ blocks) (inr all) first = absurd (first (not-true block.caret (All-head IsQuiet block blocks all).caret))

pub one-left : (blocks : List BlockOf) → SpeaksAlone blocks → (last_apart blocks ≡ true → ⊥) → length blocks ≤ 1
one-left [] alone last = omega arith
one-left (block ∷ blocks) (inl few) last = few
one-left (block ∷ blocks) (inr all) last = absurd (last (quiet-last block blocks all))

-- There is none of which both hold.
either-apart : (speech caret : Bool) → (not caret ≡ true → ⊥) → (not (speech && not caret) ≡ true → ⊥) → ⊥
either-apart speech false first last = first refl
either-apart true true first last = last refl
either-apart false true first last = last refl

pub none-inside : (blocks : List BlockOf) → SpeaksAlone blocks → (first_apart blocks ≡ true → ⊥) → (last_apart blocks ≡ true → ⊥) → length blocks ≤ 0
none-inside [] alone first last = omega arith
none-inside (block ∷ []) alone first last = absurd (either-apart (is_speech_kind block.kind) block.caret first last)
none-inside (block ∷ next ∷ blocks) (inl few) first last = absurd (omega (arith, few))
none-inside (block ∷ next ∷ blocks) (inr all) first last = absurd (last (quiet-last block (next ∷ blocks) all))
