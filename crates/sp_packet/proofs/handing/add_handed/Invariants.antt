use Rattle.std.proofs.Common.{◌≡◌, ◌+◌, ◌++◌, drop, map}
use Rattle.spec_packet.specs.StatePackets.{places_from}
use Rattle.sp_packet.specs.Fresh.{is_handed_by}
use Rattle.sp_packet.proofs.handing.add_handed.Given as goal

abbrev pub invariant-loop-place : goal.invariant-loop-place
invariant-loop-place l = l.places.items ++ places_from (l.titles + l.place) (map (is_handed_by l.fresh) (drop l.place l.facts)) ≡ l.initial.places.items ++ places_from l.titles (map (is_handed_by l.fresh) l.facts)
