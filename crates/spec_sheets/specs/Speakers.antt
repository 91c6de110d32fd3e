-- Which speakers go on (docs/RULES.md, "Elements").
use Rattle.std.specs.Prelude.{ℕ, ◌+◌, Bool, false, ◌&&◌, not, ◌==◌, if◌then◌else◌, List, [], ◌∷◌, length, map, nat_eq, Option, Some, None}
use Rattle.std.specs.List.{flat_map, before_first, ends_with}
use Rattle.std.specs.Str.{bytes_eq}
use Rattle.spec_text.specs.Lines.{LineState, line_texts}
use Rattle.spec_script.specs.declared.Kind.{Kind}
use Rattle.spec_script.specs.declared.Kind.TheVariants as kinds
use Rattle.spec_script.specs.declared.Run.{Run}
use Rattle.spec_script.specs.Letters.{ends}
use Rattle.spec_script.specs.Trim.{trim}
use Rattle.spec_script.specs.LongestRuns.{Group, longest_runs, last_of}
use Rattle.spec_script.specs.BlockValues.{LineOf}
use Rattle.spec_script.specs.Stanzas.{PlacedBlock, blocks_of}
use Rattle.spec_script.specs.Elements.{is_speech_kind, is_dual}
use Rattle.spec_pages.specs.declared.Side.{Side}
use Rattle.spec_pages.specs.declared.Side.TheVariants as sides
use Rattle.spec_pages.specs.Columns.{width_of}
use Rattle.spec_pages.specs.Wrapping.{WrappedRow, wrapped}
use Rattle.spec_sheets.specs.Cells.{slice_of, text_at, continued}

-- What runs of a text show.
abbrev pub shown_text : List ℕ → List Run → List ℕ
shown_text text runs = flat_map (slice_of text) runs

-- The text of a line of a block whose stanza begins at a place, and what is visible of it.
abbrev pub block_text : List (List ℕ) → ℕ → LineOf → List ℕ
block_text texts first line = text_at texts (first + line.offset)

abbrev pub visible_text : List (List ℕ) → ℕ → LineOf → List ℕ
visible_text texts first line = shown_text (block_text texts first line) line.runs

-- The visible text of the first of a block's lines, which is a speech's cue.
abbrev pub first_text : List (List ℕ) → ℕ → List LineOf → List ℕ
first_text texts first [] = []
first_text texts first (line ∷ lines) = visible_text texts first line

abbrev pub cue_text : List (List ℕ) → PlacedBlock → List ℕ
cue_text texts placed = first_text texts placed.first placed.block.lines

-- The name of a speech by its cue: one that ends in `)` is cut before its first `(`, and trimmed.
abbrev pub name_in : List ℕ → List ℕ
name_in cue = if ends 41 cue then trim (before_first (λ b. b == 40) cue) else cue

-- The last speaker behind a block of this kind: none behind a heading, and this name behind a speech.
abbrev pub speaker_by : Kind → List ℕ → Option (List ℕ) → Option (List ℕ)
speaker_by kinds.Heading name last = None
speaker_by kinds.Speech name last = Some name
speaker_by _ name last = last

abbrev pub speaker_after : List (List ℕ) → Option (List ℕ) → PlacedBlock → Option (List ℕ)
speaker_after texts last placed = speaker_by placed.block.kind (name_in (cue_text texts placed)) last

-- The name isn't empty, and it is that of the last speaker.
abbrev pub is_last_speaker : Option (List ℕ) → List ℕ → Bool
is_last_speaker None name = false
is_last_speaker (Some last) name = not (length name == 0) && bytes_eq last name

-- A block, and whether its speaker goes on.
pub record Spoken : Type 0 where
  pub placed : PlacedBlock
  pub continued : Bool

-- A block with whether its speaker goes on, as far as names tell, behind a last speaker.
abbrev pub named_block : Bool → List (List ℕ) → Option (List ℕ) → PlacedBlock → Spoken
named_block speakers texts last placed =
    record { placed = placed; continued = speakers && is_speech_kind placed.block.kind && is_last_speaker last (name_in (cue_text texts placed)) }

-- The blocks of a text with whether their speakers go on, as far as names tell, behind a last speaker.
abbrev pub named_from : Bool → List (List ℕ) → Option (List ℕ) → List PlacedBlock → List Spoken
named_from speakers texts last [] = []
named_from speakers texts last (placed ∷ blocks) = named_block speakers texts last placed ∷ named_from speakers texts (speaker_after texts last placed) blocks

-- The last of a line's rows shows a text that ends in `(CONT'D)`.
abbrev pub last_row_continued : List ℕ → List WrappedRow → Bool
last_row_continued text [] = false
last_row_continued text (row ∷ later) = ends_with nat_eq (shown_text text (last_of row later).runs) continued

-- The same of the first of a block's lines, at its side.
abbrev pub first_line_continued : List (List ℕ) → Side → PlacedBlock → List LineOf → Bool
first_line_continued texts side placed [] = false
first_line_continued texts side placed (cue ∷ later) =
    last_row_continued (block_text texts placed.first cue) (wrapped (block_text texts placed.first cue) cue.runs (width_of side placed.block.kind cue.part))

-- The last row of a speech's cue, at its side, ends in `(CONT'D)`.
abbrev pub cue_ends_continued : List (List ℕ) → Side → PlacedBlock → Bool
cue_ends_continued texts side placed = first_line_continued texts side placed placed.block.lines

-- A cue that ends so by the writer's own hand takes no other.
abbrev pub settled : List LineState → Side → Spoken → Spoken
settled lines side it = record { placed = it.placed; continued = it.continued && not (cue_ends_continued (line_texts lines) side it.placed) }

-- Neighbouring blocks are dual dialogue.
abbrev pub is_pair : Spoken → Spoken → Bool
is_pair left right = is_dual left.placed right.placed

-- The side of the first block of an element, by those beside it.
abbrev pub first_side : List Spoken → Side
first_side [] = sides.Alone
first_side (right ∷ others) = sides.Left

abbrev pub settled_element : List LineState → Group Spoken → Group Spoken
settled_element lines element = record { first = settled lines (first_side element.more) element.first; more = map (settled lines sides.Right) element.more }

-- The elements of blocks behind a last speaker, each block with whether its speaker goes on.
abbrev pub spoken_elements : Bool → List LineState → Option (List ℕ) → List PlacedBlock → List (Group Spoken)
spoken_elements speakers lines last blocks = map (settled_element lines) (longest_runs is_pair (named_from speakers (line_texts lines) last blocks))

-- The elements of a text.
abbrev pub text_elements : Bool → List LineState → List (Group Spoken)
text_elements speakers lines = spoken_elements speakers lines None (blocks_of (line_texts lines))
