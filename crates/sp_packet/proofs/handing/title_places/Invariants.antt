use Rattle.std.proofs.Common.{◌≡◌, ◌-◌, ◌++◌, true, replicate}
use Rattle.spec_packet.specs.StatePackets.{places_from}
use Rattle.sp_packet.proofs.handing.title_places.Given as goal

abbrev pub invariant-loop-place : goal.invariant-loop-place
invariant-loop-place l = l.places.items ++ places_from l.place (replicate (l.titles - l.place) true) ≡ places_from 0 (replicate l.titles true)
