use Rattle.std.proofs.Common.{◌≡◌, List, ℕ, ◌++◌, length}
use Rattle.std.specs.Prelude.{Ok}
use Rattle.std.specs.List.{flat_map}
use Rattle.sp_kit.specs.declared.outside.Failed.{Failed}
use Rattle.sp_kit.specs.Outside.{Writes}
use Rattle.sp_print.specs.Writing.{line_written}
use Rattle.sp_print.proofs.sheet.write_slots.Given as goal

-- Some bytes are written, and those of the rows that are left are the rest.
abbrev pub invariant-loop-row : goal.invariant-loop-row
invariant-loop-row g l =
    (done : List ℕ) × (done ++ flat_map (line_written g.P.PartWriter.written) l.slots ≡ flat_map (line_written g.P.PartWriter.written) l.fn.slots)
    × Writes {T = Unit {0}} {E = Failed} (g.O.Sink.state l.fn.sink) (g.O.Sink.state l.sink) done (Ok tt)

abbrev pub decreases-loop-row : goal.decreases-loop-row
decreases-loop-row g l = length l.slots
