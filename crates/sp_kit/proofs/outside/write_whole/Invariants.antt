use Rattle.std.proofs.Common.{◌≡◌, List, ℕ, ◌++◌, length}
use Rattle.std.specs.Io.KnownBytes.{Appends}
use Rattle.sp_kit.proofs.outside.write_whole.Given as goal

-- Some bytes are done: the sink took them, and no fault was counted.
abbrev pub invariant-loop-rest : goal.invariant-loop-rest
invariant-loop-rest g l =
    (done : List ℕ) × (l.piece ≡ done ++ l.rest) × Appends (g.O.Sink.state l.fn.sink).taken (g.O.Sink.state l.sink).taken done
    × ((g.O.Sink.state l.sink).faults ≡ (g.O.Sink.state l.fn.sink).faults)

abbrev pub decreases-loop-rest : goal.decreases-loop-rest
decreases-loop-rest g l = length l.rest
