-- The runs of a row.
use Rattle.std.specs.Prelude.{List, [], ◌∷◌}
use Rattle.spec_script.specs.declared.Run.{Run}
use Rattle.sp_measure.specs.declared.row_runs.RowRuns.{RowRuns}
use Rattle.sp_measure.specs.declared.row_runs.RowRuns.TheVariants as kinds

-- The runs, in order.
abbrev pub row_runs : RowRuns → List Run
row_runs kinds.Nothing = []
row_runs (kinds.One run) = run ∷ []
row_runs (kinds.Many runs) = runs.items
