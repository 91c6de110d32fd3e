use Rattle.sp_scenes.proofs.LinePlaces.{ArePlacesOf}
use Rattle.sp_scenes.proofs.places.places_of.Given as goal

abbrev pub invariant-loop-place : goal.invariant-loop-place
invariant-loop-place l = ArePlacesOf l.place l.records l.places.items
