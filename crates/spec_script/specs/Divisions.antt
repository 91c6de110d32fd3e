-- Stanzas that are neither title pages nor speeches: parts, and the lines that end them (docs/RULES.md, "Blocks").
use Rattle.std.specs.Prelude.{◌≡◌, ◌==◌, ℕ, ◌+◌, Bool, true, false, not, ◌&&◌, ◌||◌, MatchBool, List, [], ◌∷◌, ◌++◌, map, if◌then◌else◌}
use Rattle.std.specs.List.{prefix_len}
use Rattle.spec_script.specs.declared.Kind.{Kind}
use Rattle.spec_script.specs.declared.Kind.TheVariants as kinds
use Rattle.spec_script.specs.declared.Part.TheVariants as parts
use Rattle.spec_script.specs.declared.Cut.{Cut}
use Rattle.spec_script.specs.Trim.{trim_all}
use Rattle.spec_script.specs.Letters.{begins}
use Rattle.spec_script.specs.Forms.{is_natural_heading, is_forced_heading, is_natural_transition, is_page_break, is_synopsis, is_section, is_centred}
use Rattle.spec_script.specs.LongestRuns.{Group, members, AreRuns, longest_runs}
use Rattle.spec_script.specs.BlockValues.{LineOf, BlockOf}
use Rattle.spec_script.specs.Left.{Left, trimmed, inner, line_of, plain_line, last_place, block_of, text_block}
use Rattle.spec_script.specs.Headings.{heading_of}

-- The line ends a part: it is held, a page break, a synopsis or a section.
abbrev pub ends_part : Left → Bool
ends_part line = line.held || is_page_break (trimmed line) || is_synopsis (trimmed line) || is_section (trimmed line)

-- How many `#` a text begins with.
abbrev pub section_depth : List ℕ → ℕ
section_depth text = prefix_len (λ b. b == 35) text

-- A section: what follows its `#`.
abbrev pub section_of : Left → BlockOf
section_of line = record (block_of kinds.Section line (plain_line line parts.Text (inner line (section_depth (trimmed line)) 0) ∷ [])) {
  depth = section_depth (trimmed line);
}

-- The block of a line that ends a part, if it is one: a held line is none.
abbrev pub ending_blocks : Left → List BlockOf
ending_blocks line =
    if line.held then []
    else (if is_page_break (trimmed line) then block_of kinds.PageBreak line [] ∷ []
    else (if is_synopsis (trimmed line) then block_of kinds.Synopsis line (plain_line line parts.Text (inner line 1 0) ∷ []) ∷ []
    else section_of line ∷ []))

-- What a line of a part is, by the first form that fits its trimmed text.
abbrev pub listed_kind : List ℕ → Kind
listed_kind text =
    if is_forced_heading text then kinds.Heading
    else (if begins 33 text then kinds.Action
    else (if is_centred text then kinds.Centred
    else (if begins 62 text then kinds.Transition
    else (if begins 126 text then kinds.Lyric
    else kinds.Action))))

-- An action line's text: all without the spaces at its end, or what follows the `!` that forces it.
abbrev pub action_cut : Left → Cut
action_cut line = record {
  from = if begins 33 (trimmed line) then (trim_all line.text).from + 1 else 0;
  to = (trim_all line.text).to;
}

-- How many bytes mark a line of that kind, at least.
abbrev pub mark_len : Kind → ℕ
mark_len kinds.Action = 0
mark_len kinds.Centred = 2
mark_len _ = 1

-- The text of a line of that kind, without its marks.
abbrev pub cut_as : Left → Kind → Cut
cut_as line kinds.Action = action_cut line
cut_as line kinds.Centred = inner line 1 1
cut_as line _ = inner line 1 0

-- The text of a line by its own form.
abbrev pub listed_cut : Left → Cut
listed_cut line = cut_as line (listed_kind (trimmed line))

-- Neighbours of these kinds are one block.
abbrev pub goes_on : Kind → Kind → Bool
goes_on kinds.Action kinds.Action = true
goes_on kinds.Lyric kinds.Lyric = true
goes_on kinds.Centred kinds.Centred = true
goes_on _ _ = false

-- Two neighbours are in one block.
abbrev pub one_block : Left → Left → Bool
one_block a b = goes_on (listed_kind (trimmed a)) (listed_kind (trimmed b))

-- The text of a line of a block of several.
abbrev pub listed_line : Left → LineOf
listed_line line = line_of line parts.Text (listed_cut line)

-- The block of a longest run of lines of one kind.
abbrev pub group_block : Group Left → BlockOf
group_block group =
    if is_forced_heading (trimmed group.first) then heading_of group.first
    else record (block_of (listed_kind (trimmed group.first)) group.first (map listed_line (members group))) {
      last = last_place group.first group.more;
    }

-- The lines' longest runs of one kind are the blocks.
pub record InRuns (lines : List Left) (blocks : List BlockOf) : Type 0 where
  pub groups : List (Group Left)
  pub runs : AreRuns one_block lines groups
  pub made : blocks ≡ map group_block groups

-- The blocks of a part: a line alone goes by the natural forms first, and otherwise the longest runs of one kind are the blocks.
abbrev pub IsPart : Left → List Left → List BlockOf → Type 0
IsPart line [] blocks =
    MatchBool (is_natural_heading (trimmed line)) (blocks ≡ heading_of line ∷ [])
    (MatchBool (is_natural_transition line.text) (blocks ≡ text_block kinds.Transition line (trim_all line.text) ∷ [])
    (InRuns (line ∷ []) blocks))
IsPart line (next ∷ more) blocks = InRuns (line ∷ next ∷ more) blocks

-- The blocks of a part, or of a line that ends one.
abbrev pub IsPiece : Group Left → List BlockOf → Type 0
IsPiece group blocks =
    MatchBool (ends_part group.first) (blocks ≡ ending_blocks group.first) (IsPart group.first group.more blocks)

-- The blocks of the pieces, one piece after the other.
abbrev pub ArePieces : List (Group Left) → List BlockOf → Type 0
ArePieces [] blocks = blocks ≡ []
ArePieces (group ∷ groups) blocks =
    (here : List BlockOf) × (rest : List BlockOf) × IsPiece group here × ArePieces groups rest × (blocks ≡ here ++ rest)

-- Two neighbours are in one part; so each line that ends a part is a piece of its own.
abbrev pub one_part : Left → Left → Bool
one_part a b = not (ends_part a) && not (ends_part b)

-- The lines are cut into parts and the lines that end them.
pub record IsDivision (lines : List Left) (blocks : List BlockOf) : Type 0 where
  pub pieces : List (Group Left)
  pub runs : AreRuns one_part lines pieces
  pub made : ArePieces pieces blocks

-- The blocks of longest runs of one kind.
abbrev pub run_blocks : List Left → List BlockOf
run_blocks lines = map group_block (longest_runs one_block lines)

-- The blocks of a part.
abbrev pub part_blocks : Left → List Left → List BlockOf
part_blocks line [] =
    if is_natural_heading (trimmed line) then heading_of line ∷ []
    else (if is_natural_transition line.text then text_block kinds.Transition line (trim_all line.text) ∷ []
    else run_blocks (line ∷ []))
part_blocks line (next ∷ more) = run_blocks (line ∷ next ∷ more)

-- The blocks of a part, or of a line that ends one.
abbrev pub piece_blocks : Group Left → List BlockOf
piece_blocks group =
    if ends_part group.first then ending_blocks group.first else part_blocks group.first group.more

-- The blocks of the pieces.
abbrev pub pieces_blocks : List (Group Left) → List BlockOf
pieces_blocks [] = []
pieces_blocks (group ∷ groups) = piece_blocks group ++ pieces_blocks groups
