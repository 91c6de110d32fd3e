-- What is asked of rows, in lists of its own beside the elements (docs/RULES.md, "Elements").
use Rattle.std.specs.Prelude.{◌≡◌, ℕ, ◌+◌, ◌<◌, List, [], ◌++◌, length, map, slice_range, All}
use Rattle.spec_text.specs.Lines.{LineState}
use Rattle.spec_pages.specs.declared.Shape.{Shape}
use Rattle.spec_pages.specs.Rows.{Row, ElementOf, placed_rows}
use Rattle.spec_labels.specs.declared.RowKey.{RowKey}
use Rattle.spec_sheets.specs.Shown.{row_key}
use Rattle.sp_gap.specs.Runs.{exchanged}

-- What page ends see of each row, its mark, and its key.
pub record FactsOf : Type 0 where
  pub shapes : List Shape
  pub marks : List ℕ
  pub keys : List RowKey

-- The same, and for how many rows there is room without taking memory.
pub record RowFactsOf : Type 0 where
  pub facts : FactsOf
  pub room : ℕ

-- Each row has all three.
pub record AreInStep (facts : FactsOf) : Type 0 where
  pub marks : length facts.marks ≡ length facts.shapes
  pub keys : length facts.keys ≡ length facts.shapes

abbrev pub no_facts : FactsOf
no_facts = record { shapes = []; marks = []; keys = [] }

-- What is asked of the rows of an element of these lines.
abbrev pub facts_of : List LineState → ElementOf → FactsOf
facts_of lines element = record {
  shapes = map (λ (row : Row). row.shape) (placed_rows element);
  marks = map (λ (row : Row). row.mark) (placed_rows element);
  keys = map (row_key lines) (placed_rows element);
}

-- Each row of an element stands on one of these lines.
abbrev pub StandsOn : List LineState → ElementOf → Type 0
StandsOn lines element = All (λ (row : Row). element.first + row.line < length lines) element.rows

-- What is asked of rows, and of others behind them.
abbrev pub both_facts : FactsOf → FactsOf → FactsOf
both_facts facts others = record {
  shapes = facts.shapes ++ others.shapes;
  marks = facts.marks ++ others.marks;
  keys = facts.keys ++ others.keys;
}

-- What is asked of the rows from one place to before another.
abbrev pub facts_between : FactsOf → ℕ → ℕ → FactsOf
facts_between facts from to = record {
  shapes = slice_range facts.shapes from to;
  marks = slice_range facts.marks from to;
  keys = slice_range facts.keys from to;
}

-- Others stand in their place.
abbrev pub with_facts : FactsOf → ℕ → ℕ → FactsOf → FactsOf
with_facts facts from to others = record {
  shapes = exchanged facts.shapes from to others.shapes;
  marks = exchanged facts.marks from to others.marks;
  keys = exchanged facts.keys from to others.keys;
}
