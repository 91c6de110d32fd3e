-- The stanzas of a text (docs/RULES.md, "Stanzas").
use Rattle.std.specs.Prelude.{◌≡◌, ◌==◌, ℕ, ◌+◌, ◌-◌, ◌<◌, ◌≤◌, Bool, true, false, not, ◌⊎◌, List, [], ◌∷◌, ◌++◌, Some, length, map, take, drop, slice_get}
use Rattle.spec_text.specs.Parts.{SpanOf}
use Rattle.spec_script.specs.declared.Sort.{Sort}
use Rattle.spec_script.specs.declared.Sort.TheVariants as sorts
use Rattle.spec_script.specs.Marked.{Covered}
use Rattle.spec_script.specs.Spans.{runs_left, bytes_left, text_in, cut_spans}
use Rattle.spec_script.specs.Boneyards.{yards, sort_of}
use Rattle.spec_script.specs.Notes.{notes, sort_without}
use Rattle.spec_script.specs.LongestRuns.{Group, members, longest_runs, run_len}
use Rattle.spec_script.specs.Visible.{line_runs}
use Rattle.spec_script.specs.BlockValues.{BlockOf, StanzaOf}
use Rattle.spec_script.specs.Left.{Cleaned}
use Rattle.spec_script.specs.Blocks.{IsStanza, stanza_blocks}

-- A line outside the boneyards of its text: the line, its kept parts, and its sort.
pub record Kept : Type 0 where
  pub line : List ℕ
  pub spans : List SpanOf
  pub sort : Sort

-- The kept parts and the sort of a line of which the boneyards cover so much.
abbrev pub kept_line : List ℕ → Covered → Kept
kept_line line yard =
    record { line = line; spans = runs_left 0 0 yard.gone; sort = sort_of line yard.began yard.gone }

-- Each line with what the boneyards cover of it.
abbrev pub kept_each : List (List ℕ) → List Covered → List Kept
kept_each [] covered = []
kept_each (line ∷ lines) [] = []
kept_each (line ∷ lines) (yard ∷ covered) = kept_line line yard ∷ kept_each lines covered

-- The lines of a text outside its boneyards.
abbrev pub kept_lines : List (List ℕ) → List Kept
kept_lines texts = kept_each texts (yards texts)

-- The line is empty.
abbrev pub is_empty : Sort → Bool
is_empty sorts.Empty = true
is_empty _ = false

-- The next line is in the same stanza: an empty line is the last of its stanza.
abbrev pub one_stanza : Kept → Kept → Bool
one_stanza a b = not (is_empty a.sort)

-- The sort of a line.
abbrev pub sort_at : Kept → Sort
sort_at line = line.sort

-- A fresh point is place 0, or the place directly after an empty line.
abbrev pub IsFresh : List (List ℕ) → ℕ → Type 0
IsFresh texts place = (place ≡ 0) ⊎ (slice_get (map sort_at (kept_lines texts)) (place - 1) ≡ Some sorts.Empty)

-- The lines from a place on.
abbrev pub lines_from : List (List ℕ) → ℕ → List Kept
lines_from texts first = drop first (kept_lines texts)

-- The lines of the stanza that begins at a place: those to before the next fresh point, or to the end.
abbrev pub stanza_lines : List (List ℕ) → ℕ → List Kept
stanza_lines texts first = take (run_len one_stanza (lines_from texts first)) (lines_from texts first)

-- The kept text of a line.
abbrev pub kept_text : Kept → List ℕ
kept_text line = text_in line.line line.spans

-- A line without the notes that these flags of its kept text tell.
abbrev pub cleaned_line : Kept → List Bool → Cleaned
cleaned_line line noted = record {
  sort = sort_without line.sort (kept_text line) noted;
  line = line.line;
  text = bytes_left (kept_text line) noted;
  spans = cut_spans line.spans noted;
  runs = line_runs line.line (cut_spans line.spans noted);
}

-- Each line without its notes.
abbrev pub cleaned_each : List Kept → List (List Bool) → List Cleaned
cleaned_each [] noted = []
cleaned_each (line ∷ lines) [] = []
cleaned_each (line ∷ lines) (flags ∷ noted) = cleaned_line line flags ∷ cleaned_each lines noted

-- The lines of a stanza without its notes.
abbrev pub cleaned_lines : List Kept → List Cleaned
cleaned_lines lines = cleaned_each lines (notes (map kept_text lines))

-- The cleaned lines of the stanza that begins at a place.
abbrev pub cleaned_at : List (List ℕ) → ℕ → List Cleaned
cleaned_at texts first = cleaned_lines (stanza_lines texts first)

-- The stanza of these lines, which may be the first of its text.
abbrev pub stanza_of : Bool → List Kept → StanzaOf
stanza_of first lines = record { lines = length lines; blocks = stanza_blocks first (cleaned_lines lines) }

-- The stanza that begins at a place.
abbrev pub stanza_at : List (List ℕ) → ℕ → StanzaOf
stanza_at texts first = stanza_of (first == 0) (stanza_lines texts first)

-- The stanza has the lines and the blocks of the one that begins at a place.
pub record IsStanzaAt (texts : List (List ℕ)) (first : ℕ) (stanza : StanzaOf) : Type 0 where
  pub lines : stanza.lines ≡ length (stanza_lines texts first)
  pub blocks : IsStanza (first == 0) (cleaned_at texts first) stanza.blocks

-- The stanzas that these runs of lines are, the first of which may be the first of its text.
abbrev pub stanzas_in : Bool → List (Group Kept) → List StanzaOf
stanzas_in first [] = []
stanzas_in first (group ∷ groups) = stanza_of first (members group) ∷ stanzas_in false groups

-- The stanzas of a text from a fresh point on: the pieces between fresh points.
abbrev pub stanzas_from : List (List ℕ) → ℕ → List StanzaOf
stanzas_from texts first = stanzas_in (first == 0) (longest_runs one_stanza (lines_from texts first))

-- The stanzas of a text.
abbrev pub stanzas_of : List (List ℕ) → List StanzaOf
stanzas_of texts = stanzas_from texts 0

-- Behind the stanza that begins at a place the text ends, or the next stanza begins.
pub record LeadsOn (texts : List (List ℕ)) (first : ℕ) (stanza : StanzaOf) : Type 0 where
  pub some : 0 < stanza.lines
  pub within : first + stanza.lines ≤ length texts
  pub fresh : first + stanza.lines < length texts → IsFresh texts (first + stanza.lines)
  pub rest : stanzas_from texts first ≡ stanza ∷ stanzas_from texts (first + stanza.lines)

-- A block, and the place of the first line of its stanza.
pub record PlacedBlock : Type 0 where
  pub first : ℕ
  pub block : BlockOf

-- The blocks of stanzas, the first of which begins at a place.
abbrev pub blocks_from : ℕ → List StanzaOf → List PlacedBlock
blocks_from first [] = []
blocks_from first (stanza ∷ stanzas) =
    map (λ b. record { first = first; block = b }) stanza.blocks ++ blocks_from (first + stanza.lines) stanzas

-- The blocks of a text: those of its stanzas in order.
abbrev pub blocks_of : List (List ℕ) → List PlacedBlock
blocks_of texts = blocks_from 0 (stanzas_of texts)
