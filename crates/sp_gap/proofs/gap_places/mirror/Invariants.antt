use Rattle.std.proofs.Common.{◌≡◌, ◌++◌, map, take, drop}
use Rattle.sp_gap.specs.Gaps.{mirrored}
use Rattle.sp_gap.proofs.gap_places.mirror.Given as goal

abbrev pub invariant-loop-place : goal.invariant-loop-place
invariant-loop-place l = l.places ≡ map (mirrored l.end) (take l.place-index l.initial.places) ++ drop l.place-index l.initial.places
