-- The lines of a stanza that blocks are made of, and parts of their texts (docs/RULES.md, "Stanzas" and "Blocks").
use Rattle.std.specs.Prelude.{ℕ, ◌+◌, ◌-◌, Bool, true, false, List, [], ◌∷◌, drop}
use Rattle.std.specs.List.{prefix_len}
use Rattle.spec_text.specs.Parts.{SpanOf}
use Rattle.spec_script.specs.declared.Sort.{Sort}
use Rattle.spec_script.specs.declared.Sort.TheVariants as sorts
use Rattle.spec_script.specs.declared.Kind.{Kind}
use Rattle.spec_script.specs.declared.Part.{Part}
use Rattle.spec_script.specs.declared.Part.TheVariants as parts
use Rattle.spec_script.specs.declared.Run.{Run}
use Rattle.spec_script.specs.declared.Cut.{Cut}
use Rattle.spec_script.specs.Trim.{trim, trim_all, trim_cut}
use Rattle.spec_script.specs.LongestRuns.{last_of}
use Rattle.spec_script.specs.Visible.{plain_runs, window, clip_spans, clip_runs}
use Rattle.spec_script.specs.BlockValues.{LineOf, BlockOf}

-- A line without boneyards and notes: its sort, the line as it is written, its text, the parts of the line that the text is
-- made of, and its runs.
pub record Cleaned : Type 0 where
  pub sort : Sort
  pub line : List ℕ
  pub text : List ℕ
  pub spans : List SpanOf
  pub runs : List Run

-- A line that blocks are made of, with its place in the stanza.
pub record Left : Type 0 where
  pub place : ℕ
  pub held : Bool
  pub line : List ℕ
  pub text : List ℕ
  pub spans : List SpanOf
  pub runs : List Run

-- The line as one that is left.
abbrev pub left_line : ℕ → Bool → Cleaned → Left
left_line place held line =
    record { place = place; held = held; line = line.line; text = line.text; spans = line.spans; runs = line.runs }

-- The line, if it is left, before the others: empty and absent lines are passed over.
abbrev pub left_before : ℕ → Sort → Cleaned → List Left → List Left
left_before place sorts.Empty line rest = rest
left_before place sorts.Absent line rest = rest
left_before place sorts.Held line rest = left_line place true line ∷ rest
left_before place sorts.Plain line rest = left_line place false line ∷ rest

-- The lines that are left, where the first line stands at the given place.
abbrev pub left_from : ℕ → List Cleaned → List Left
left_from place [] = []
left_from place (line ∷ lines) = left_before place line.sort line (left_from (place + 1) lines)

-- Lines from the first on that isn't held.
abbrev pub from_unheld : List Left → List Left
from_unheld lines = drop (prefix_len (λ (line : Left). line.held) lines) lines

-- The lines of a stanza that blocks are made of: held lines at its start are passed over too.
abbrev pub left_lines : List Cleaned → List Left
left_lines lines = from_unheld (left_from 0 lines)

-- The line's text, trimmed.
abbrev pub trimmed : Left → List ℕ
trimmed line = trim line.text

-- From so many bytes behind the beginning of the trimmed text to so many before its end, trimmed.
abbrev pub inner : Left → ℕ → ℕ → Cut
inner line skip spare =
    trim_cut line.text (record { from = (trim_all line.text).from + skip; to = (trim_all line.text).to - spare })

-- A line of a block with the runs of a part of its text.
abbrev pub line_of : Left → Part → Cut → LineOf
line_of line part cut =
    record { offset = line.place; part = part; opens = false; runs = clip_runs (window line.spans cut) line.runs }

-- The same without emphasis.
abbrev pub plain_line : Left → Part → Cut → LineOf
plain_line line part cut = record (line_of line part cut) {
  runs = plain_runs (clip_spans (window line.spans cut) line.spans);
}

-- The place of the last line.
abbrev pub last_place : Left → List Left → ℕ
last_place line more = (λ (l : Left). l.place) (last_of line more)

-- A block of one line.
abbrev pub block_of : Kind → Left → List LineOf → BlockOf
block_of kind line lines = record {
  kind = kind;
  first = line.place;
  last = line.place;
  depth = 0;
  caret = false;
  number = [];
  lines = lines;
}

-- A block of one line with a part of its text.
abbrev pub text_block : Kind → Left → Cut → BlockOf
text_block kind line cut = block_of kind line (line_of line parts.Text cut ∷ [])
