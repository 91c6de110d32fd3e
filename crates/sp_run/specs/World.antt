-- The world of a run, which its words change (docs/RULES.md, "The program").
use Rattle.std.specs.Prelude.{ℕ}
use Rattle.spec_session.specs.Runs.{Counts, counts_of}
use Rattle.sp_kit.specs.Files.{ShelfState}
use Rattle.sp_kit.specs.Outside.{SourceState, SinkState}
use Rattle.sp_run.specs.Unopened.{Outside, outside}

-- What a run is lent, what can be told of it, and what its steps counted.
pub record World (I O F S : Type 0) : Type 0 where
  pub input : I
  pub output : O
  pub shelf : F
  pub steps : S
  pub told : Outside
  pub counts : Counts

-- The world of a source, a sink, a shelf and steps, by what can be told of each.
abbrev pub world : {I O F S : Type 0} → (I → SourceState) → (O → SinkState) → (F → ShelfState) → (S → ℕ) → (S → ℕ) → I → O → F → S → World I O F S
world source sink files reads fills input output shelf steps = record {
  input = input;
  output = output;
  shelf = shelf;
  steps = steps;
  told = outside (source input) (sink output) (files shelf);
  counts = counts_of (reads steps) (fills steps);
}
