-- What holds of the blocks of each form holds of all blocks of a text.
use Rattle.std.proofs.Common.{◌≡◌, ℕ, ◌+◌, Bool, true, false, cond, ◌&&◌, List, [], ◌∷◌, map, inl, inr, sym, ap, subst}
use Rattle.std.specs.Prelude.{All, drop}
use Rattle.std.proofs.lemmas.Bool.{cases_Bool}
use Rattle.std.proofs.lemmas.List.Elements.{All-nil, All-cons, All-head, All-tail, All-append}
use Rattle.spec_script.specs.declared.Kind.TheVariants as kinds
use Rattle.spec_script.specs.declared.Part.TheVariants as parts
use Rattle.spec_script.specs.LongestRuns.{Group, members, longest_runs}
use Rattle.spec_script.specs.BlockValues.{BlockOf}
use Rattle.spec_script.specs.Left.{Left, left_lines, trimmed, inner, plain_line, last_place, block_of, text_block}
use Rattle.spec_script.specs.Trim.{trim_all}
use Rattle.spec_script.specs.Forms.{is_natural_heading, is_natural_transition, is_forced_heading, is_page_break, is_synopsis}
use Rattle.spec_script.specs.Title.{title_opens}
use Rattle.spec_script.specs.TitlePages.{one_key, title_of}
use Rattle.spec_script.specs.Headings.{heading_skip, number_len, numbered_heading, heading_of}
use Rattle.spec_script.specs.Speeches.{is_speech, speech_of}
use Rattle.spec_script.specs.Divisions.{ends_part, section_of, ending_blocks, listed_kind, one_block, listed_line, group_block, run_blocks, part_blocks, piece_blocks, one_part, pieces_blocks}
use Rattle.spec_script.specs.Blocks.{left_blocks}
use Rattle.spec_script.specs.Stanzas.{Kept, PlacedBlock, one_stanza, cleaned_lines, stanza_of, stanzas_in, blocks_from, lines_from, blocks_of}
use Rattle.spec_script.specs.Elements.{placed_at}

-- The block of lines of one kind, the first of which is no forced heading.
abbrev pub listed_block : Group Left → BlockOf
listed_block group = record (block_of (listed_kind (trimmed group.first)) group.first (map listed_line (members group))) {
  last = last_place group.first group.more;
}

-- It holds of the block of each form.
pub record OfEachForm (P : BlockOf → Type 0) : Type 0 where
  pub heading : (line : Left) → P (text_block kinds.Heading line (inner line (heading_skip line) 0))
  pub numbered : (line : Left) → P (numbered_heading line (number_len (drop (heading_skip line) (trimmed line))))
  pub listed : (group : Group Left) → is_forced_heading (trimmed group.first) ≡ false → P (listed_block group)
  pub page_break : (line : Left) → P (block_of kinds.PageBreak line [])
  pub synopsis : (line : Left) → P (block_of kinds.Synopsis line (plain_line line parts.Text (inner line 1 0) ∷ []))
  pub section : (line : Left) → P (section_of line)
  pub transition : (line : Left) → P (text_block kinds.Transition line (trim_all line.text))
  pub title : (line : Left) (more : List Left) → P (title_of line more (longest_runs one_key (line ∷ more)))
  pub speech : (line : Left) (more : List Left) → P (speech_of line more)

one : (P : BlockOf → Type 0) (block : BlockOf) → P block → All P (block ∷ [])
one P block h = All-cons P block [] h (All-nil P)

-- By a test.
if-blocks : (P : BlockOf → Type 0) (b : Bool) (xs ys : List BlockOf) → All P xs → All P ys → All P (cond b xs ys)
if-blocks P true xs ys x y = x
if-blocks P false xs ys x y = y

if-block : (P : BlockOf → Type 0) (b : Bool) (x y : BlockOf) → P x → P y → P (cond b x y)
if-block P true x y h other = h
if-block P false x y h other = other

heading-each : (P : BlockOf → Type 0) → OfEachForm P → (line : Left) → P (heading_of line)
heading-each P of line =
    let n = number_len (drop (heading_skip line) (trimmed line)) in
    if-block P _ (text_block kinds.Heading line (inner line (heading_skip line) 0)) (numbered_heading line n) (of.heading line) (of.numbered line)

group-each : (P : BlockOf → Type 0) → OfEachForm P → (group : Group Left) → P (group_block group)
group-each P of group = elim (cases_Bool (is_forced_heading (trimmed group.first))) [
  | inl is ↦ subst P (sym (ap (λ b. cond b (heading_of group.first) (listed_block group)) is)) (heading-each P of group.first)
  | inr not ↦ subst P (sym (ap (λ b. cond b (heading_of group.first) (listed_block group)) not)) (of.listed group not)
]

groups-each : (P : BlockOf → Type 0) → OfEachForm P → (groups : List (Group Left)) → All P (map group_block groups)
groups-each P of [] = All-nil P
groups-each P of (group ∷ groups) = All-cons P (group_block group) (map group_block groups) (group-each P of group) (groups-each P of groups)

ending-each : (P : BlockOf → Type 0) → OfEachForm P → (line : Left) → All P (ending_blocks line)
ending-each P of line =
    if-blocks P line.held [] _ (All-nil P)
    (if-blocks P (is_page_break (trimmed line)) (block_of kinds.PageBreak line [] ∷ []) _ (one P _ (of.page_break line))
    (if-blocks P (is_synopsis (trimmed line)) _ (section_of line ∷ []) (one P _ (of.synopsis line)) (one P (section_of line) (of.section line))))

part-each : (P : BlockOf → Type 0) → OfEachForm P → (line : Left) (more : List Left) → All P (part_blocks line more)
part-each P of line [] =
    if-blocks P (is_natural_heading (trimmed line)) (heading_of line ∷ []) _ (one P (heading_of line) (heading-each P of line))
    (if-blocks P (is_natural_transition line.text) (text_block kinds.Transition line (trim_all line.text) ∷ []) (run_blocks (line ∷ []))
    (one P _ (of.transition line)) (groups-each P of (longest_runs one_block (line ∷ []))))
part-each P of line (next ∷ more) = groups-each P of (longest_runs one_block (line ∷ next ∷ more))

pieces-each : (P : BlockOf → Type 0) → OfEachForm P → (groups : List (Group Left)) → All P (pieces_blocks groups)
pieces-each P of [] = All-nil P
pieces-each P of (group ∷ groups) =
    All-append P (piece_blocks group) (pieces_blocks groups)
    (if-blocks P (ends_part group.first) (ending_blocks group.first) (part_blocks group.first group.more) (ending-each P of group.first) (part-each P of group.first group.more))
    (pieces-each P of groups)

left-each : (P : BlockOf → Type 0) → OfEachForm P → (first : Bool) (lines : List Left) → All P (left_blocks first lines)
left-each P of first [] = All-nil P
left-each P of first (line ∷ more) =
    if-blocks P (first && title_opens line.text) (title_of line more (longest_runs one_key (line ∷ more)) ∷ []) _ (one P _ (of.title line more))
    (if-blocks P (is_speech line more) (speech_of line more ∷ []) (pieces_blocks (longest_runs one_part (line ∷ more)))
    (one P (speech_of line more) (of.speech line more)) (pieces-each P of (longest_runs one_part (line ∷ more))))

-- The same of placed blocks.
abbrev pub Placed : (BlockOf → Type 0) → PlacedBlock → Type 0
Placed P placed = P placed.block

placed-each : (P : BlockOf → Type 0) (place : ℕ) (blocks : List BlockOf) → All P blocks → All (Placed P) (map (placed_at place) blocks)
placed-each P place [] all = All-nil (Placed P)
placed-each P place (block ∷ blocks) all =
    All-cons (Placed P) (placed_at place block) (map (placed_at place) blocks) (All-head P block blocks all) (placed-each P place blocks (All-tail P block blocks all))

groups-placed : (P : BlockOf → Type 0) → OfEachForm P → (first : Bool) (place : ℕ) (groups : List (Group Kept)) → All (Placed P) (blocks_from place (stanzas_in first groups))
groups-placed P of first place [] = All-nil (Placed P)
groups-placed P of first place (group ∷ groups) =
    let stanza = stanza_of first (members group) in
    All-append (Placed P) (map (placed_at place) stanza.blocks) (blocks_from (place + stanza.lines) (stanzas_in false groups))
    (placed-each P place stanza.blocks (left-each P of first (left_lines (cleaned_lines (members group))))) (groups-placed P of false (place + stanza.lines) groups)

pub blocks-each : (P : BlockOf → Type 0) → OfEachForm P → (texts : List (List ℕ)) → All (Placed P) (blocks_of texts)
blocks-each P of texts = groups-placed P of true 0 (longest_runs one_stanza (lines_from texts 0))
