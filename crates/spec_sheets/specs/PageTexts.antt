-- Where the texts on a page come from (docs/RULES.md, "Sheets").
use Rattle.std.specs.Prelude.{◌≡◌, ℕ, ◌<◌, ◌⊎◌, All, Contains, List, [], ◌∷◌, length, codes}
use Rattle.spec_text.specs.Parts.{Lies}
use Rattle.spec_script.specs.declared.Run.{Run}
use Rattle.spec_script.specs.Runs.{span_of}
use Rattle.spec_labels.specs.Labels.{LabelOf}
use Rattle.spec_sheets.specs.Cells.{ShownText, slice, label, ShownPart, ShownCell, text_at, slice_of, continued}
use Rattle.spec_sheets.specs.RowBytes.{ShownRow}

-- The bytes are a part of one of these lines, cut between characters.
pub record IsPartOfLine (texts : List (List ℕ)) (bytes : List ℕ) : Type 0 where
  pub line : ℕ
  pub run : Run
  pub there : line < length texts
  pub lies : Lies (text_at texts line) (span_of run)
  pub is : bytes ≡ slice_of (text_at texts line) run

-- The texts that stand in no line.
abbrev pub fixed_texts : List (List ℕ)
fixed_texts = codes "(MORE)" ∷ continued ∷ codes "OMITTED" ∷ []

-- A part of a line, a fixed text, or one of the labels.
abbrev pub IsGiven : List (List ℕ) → List LabelOf → ShownText → Type 0
IsGiven texts labels (slice bytes) = IsPartOfLine texts bytes ⊎ Contains fixed_texts bytes
IsGiven texts labels (label it) = Contains labels it

-- Each part of a cell is given, and so is each of a row.
pub record CellGiven (texts : List (List ℕ)) (labels : List LabelOf) (cell : ShownCell) : Type 0 where
  pub parts : All (λ (part : ShownPart). IsGiven texts labels part.text) cell.parts

pub record RowGiven (texts : List (List ℕ)) (labels : List LabelOf) (row : ShownRow) : Type 0 where
  pub cells : All (CellGiven texts labels) row.cells
