-- Runs that are parts of a text lie in it.
use Rattle.std.proofs.Common.{ℕ, zero, suc, ◌<◌, List, [], ◌∷◌, length, map, get_or, arith}
use Rattle.spec_text.specs.Parts.{Parts, Lies}
use Rattle.spec_script.specs.declared.Run.{Run}
use Rattle.spec_script.specs.Runs.{span_of}

-- The run at a place lies in the text.
pub run-lies : (text : List ℕ) (at : ℕ) (runs : List Run) (i : ℕ) (other : Run) → Parts text at (map span_of runs) → i < length runs → Lies text (span_of (get_or runs i other))
run-lies text at [] i other parts inside = absurd (omega (arith, inside))
run-lies text at (run ∷ runs) zero other parts inside = parts.1
run-lies text at (run ∷ runs) (suc i) other parts inside = run-lies text run.to runs i other parts.2 (omega (arith, inside))
