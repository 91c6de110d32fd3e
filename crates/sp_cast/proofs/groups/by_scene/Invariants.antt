use Rattle.std.proofs.Common.{take}
use Rattle.spec_cast.specs.Sides.{scene_eq, scene_of}
use Rattle.sp_cast.specs.Keys.{scene_of_key}
use Rattle.sp_cast.proofs.KeyLaws.{Gathered}
use Rattle.sp_cast.proofs.groups.by_scene.Given as goal

abbrev pub invariant-loop-spoken : goal.invariant-loop-spoken
invariant-loop-spoken l = Gathered scene_of_key scene_eq scene_of (take l.spoken-index l.group) l.scenes.keys l.groups.items
