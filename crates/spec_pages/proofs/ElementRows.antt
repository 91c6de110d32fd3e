-- Telling elements and their rows (docs/RULES.md, "Elements").
use Rattle.std.proofs.Common.{◌≡◌, ℕ, Bool, true, false, List, [], ◌∷◌, length, map, refl}
use Rattle.std.specs.Prelude.{codes, replicate, encode_utf8_all}
use Rattle.unicode_segmentation.proofs.Computing.{unicode_segmentation}
use Rattle.unicode_width.proofs.Computing.{unicode_width}
use Rattle.spec_text.specs.Lines.{LineState}
use Rattle.spec_script.specs.declared.Kind.TheVariants as kinds
use Rattle.spec_script.specs.declared.Part.{Part}
use Rattle.spec_script.specs.declared.Part.TheVariants as parts
use Rattle.spec_script.specs.declared.Run.{Run}
use Rattle.spec_script.specs.BlockValues.{LineOf, BlockOf}
use Rattle.spec_pages.specs.declared.RowKind.TheVariants as rows
use Rattle.spec_pages.specs.declared.Shape.{Shape}
use Rattle.spec_pages.specs.Rows.{Cell, Row, single_rows, dual_rows}
use Rattle.spec_pages.specs.Wrapping.{rows_of}

-- Lines of a text that no round changed.
abbrev lines_of : List (List ℕ) → List LineState
lines_of texts = map (λ text. record { id = 0; mark = 0; text = text }) texts

abbrev run : ℕ → ℕ → Run
run from to = record { from = from; to = to; style = 0 }

-- A line of a block, from its first byte up to another.
abbrev line_to : Part → ℕ → ℕ → LineOf
line_to part offset to = record { offset = offset; part = part; opens = false; runs = run 0 to ∷ [] }

-- A speech of a cue with so many bytes and one letter.
abbrev speech : ℕ → BlockOf
speech size = record {
  kind = kinds.Speech;
  first = 0;
  last = 1;
  depth = 0;
  caret = false;
  number = [];
  lines = line_to parts.Cue 0 size ∷ line_to parts.Dialogue 1 1 ∷ [];
}

-- Where the cells of rows begin, and which of them are fixed.
abbrev told : List Row → List (List (ℕ × Bool))
told made = map (λ (row : Row). map (λ (cell : Cell). (cell.column, cell.fixed)) row.cells) made

-- The rows of a speech with this cue.
abbrev alone : List ℕ → Bool → List (List (ℕ × Bool))
alone cue continued = told (single_rows (lines_of (cue ∷ codes "x" ∷ [])) 0 (speech (length cue)) continued)

-- The rows of a speech with this cue and one of B beside it.
abbrev beside : List ℕ → Bool → Bool → List (List (ℕ × Bool))
beside cue continued second_continued =
    told (dual_rows (lines_of (cue ∷ codes "x" ∷ [] ∷ codes "B ^" ∷ codes "y" ∷ [])) 0 (speech (length cue)) continued 3 (speech 1) second_continued)

abbrev cell : ℕ → ℕ × Bool
cell column = (column, false)

abbrev continued_at : ℕ → ℕ × Bool
continued_at column = (column, true)

-- Forty U+1100 are one cluster of eighty columns.
abbrev wide : List ℕ
wide = encode_utf8_all (replicate 40 0x1100)

abbrev letters_28 : List ℕ
letters_28 = replicate 28 65

-- `(CONT'D)` stands one column past the cue, where its speaker goes on.
pub new_speaker : alone (codes "ANNA (V.O.)") false ≡ (cell 37 ∷ []) ∷ (cell 25 ∷ []) ∷ []
unfolding unicode_segmentation unicode_width rows_of
new_speaker = refl

pub same_speaker : alone (codes "ANNA (V.O.)") true ≡ (cell 37 ∷ continued_at 49 ∷ []) ∷ (cell 25 ∷ []) ∷ []
unfolding unicode_segmentation unicode_width rows_of
same_speaker = refl

-- It stands in the first row of a cue.
pub long_cue : alone (codes "ABCDEFGHIJKLMNOPQRSTUVWXYZ ABCDEFGHIJKLM") true ≡ (cell 37 ∷ continued_at 64 ∷ []) ∷ (cell 37 ∷ []) ∷ (cell 25 ∷ []) ∷ []
unfolding unicode_segmentation unicode_width rows_of
long_cue = refl

pub wide_cue : alone wide true ≡ (cell 37 ∷ continued_at 118 ∷ []) ∷ (cell 25 ∷ []) ∷ []
unfolding unicode_segmentation unicode_width rows_of
wide_cue = refl

-- In either half and in both.
pub left_speaker : beside (codes "A") true false ≡ (cell 15 ∷ continued_at 17 ∷ cell 47 ∷ []) ∷ (cell 15 ∷ cell 47 ∷ []) ∷ []
unfolding unicode_segmentation unicode_width rows_of
left_speaker = refl

pub right_speaker : beside (codes "A") false true ≡ (cell 15 ∷ cell 47 ∷ continued_at 49 ∷ []) ∷ (cell 15 ∷ cell 47 ∷ []) ∷ []
unfolding unicode_segmentation unicode_width rows_of
right_speaker = refl

pub both_speakers : beside (codes "A") true true ≡ (cell 15 ∷ continued_at 17 ∷ cell 47 ∷ continued_at 49 ∷ []) ∷ (cell 15 ∷ cell 47 ∷ []) ∷ []
unfolding unicode_segmentation unicode_width rows_of
both_speakers = refl

-- One that begins before the right half stands before its cue, and one that begins behind that stands behind it.
pub left_runs_past : beside letters_28 true false ≡ (cell 15 ∷ continued_at 44 ∷ cell 47 ∷ []) ∷ (cell 15 ∷ cell 47 ∷ []) ∷ []
unfolding unicode_segmentation unicode_width rows_of
left_runs_past = refl

pub left_stands_past : beside wide true true ≡ (cell 15 ∷ cell 47 ∷ continued_at 49 ∷ continued_at 96 ∷ []) ∷ (cell 15 ∷ cell 47 ∷ []) ∷ []
unfolding unicode_segmentation unicode_width rows_of
left_stands_past = refl

-- A heading's written number stands before and behind it, and is told.
abbrev heading : BlockOf
heading = record {
  kind = kinds.Heading;
  first = 0;
  last = 0;
  depth = 0;
  caret = false;
  number = (8, 9) ∷ [];
  lines = line_to parts.Text 0 6 ∷ [];
}

abbrev heading_cell : ℕ → List Run → Bool → Cell
heading_cell column runs number = record { column = column; line = 0; runs = runs; fixed = false; number = number }

pub numbered_heading : single_rows (lines_of (codes "INT. A #1#" ∷ [])) 0 heading false
    ≡ record {
      line = 0;
      row = 0;
      mark = 0;
      shape = record { lead = 2; kind = rows.Heading; index = 0; rest = 0; sentence_end = false };
      cells = heading_cell 7 (run 8 9 ∷ []) true ∷ heading_cell 15 (run 0 6 ∷ []) false ∷ heading_cell 76 (run 8 9 ∷ []) true ∷ [];
    } ∷ []
unfolding unicode_segmentation unicode_width rows_of
numbered_heading = refl

-- Each row of a title page is the middle of one element to page ends; a later key has a lead.
abbrev title : BlockOf
title = record {
  kind = kinds.Title;
  first = 0;
  last = 2;
  depth = 0;
  caret = false;
  number = [];
  lines = line_to parts.TitleCentred 0 1 ∷ record { offset = 1; part = parts.TitleLeft; opens = true; runs = run 0 1 ∷ [] } ∷ line_to parts.TitleLeft 2 1 ∷ [];
}

abbrev title_rows : List Row
title_rows = single_rows (lines_of (codes "a" ∷ codes "b." ∷ codes "c" ∷ [])) 0 title true

abbrev title_shape : ℕ → Shape
title_shape lead = record { lead = lead; kind = rows.Action; index = 1; rest = 0; sentence_end = false }

pub title_columns : told title_rows ≡ (cell 44 ∷ []) ∷ (cell 15 ∷ []) ∷ (cell 15 ∷ []) ∷ []
unfolding unicode_segmentation unicode_width rows_of
title_columns = refl

pub title_shapes : map (λ (row : Row). row.shape) title_rows ≡ title_shape 1 ∷ title_shape 1 ∷ title_shape 0 ∷ []
unfolding unicode_segmentation unicode_width rows_of
title_shapes = refl
