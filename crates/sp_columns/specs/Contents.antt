-- What a cell shows of its line.
use Rattle.std.specs.Prelude.{Bool, true, false, List, [], ◌∷◌}
use Rattle.spec_script.specs.declared.Run.{Run}
use Rattle.sp_columns.specs.declared.values.Content.{Content}
use Rattle.sp_columns.specs.declared.values.Content.TheVariants as contents

-- The parts of its line that it shows.
abbrev pub runs_in : Content → List Run
runs_in contents.Nothing = []
runs_in (contents.Part run) = run ∷ []
runs_in (contents.Parts runs) = runs.value.items
runs_in (contents.Number runs) = runs.value.items
runs_in contents.Continued = []

-- Whether it shows `(CONT'D)`.
abbrev pub is_fixed : Content → Bool
is_fixed contents.Continued = true
is_fixed _ = false

-- Whether it shows a written number.
abbrev pub is_number : Content → Bool
is_number (contents.Number runs) = true
is_number _ = false
