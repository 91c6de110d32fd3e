use Rattle.std.proofs.Common.{◌≡◌, ◌++◌, map, take, drop}
use Rattle.sp_gap.specs.Moves.{shifted}
use Rattle.sp_gap.proofs.places.shift.Given as goal

abbrev pub invariant-loop-place : goal.invariant-loop-place
invariant-loop-place l = l.places ≡ map (shifted l.less l.more) (take l.place-index l.initial.places) ++ drop l.place-index l.initial.places
