use Rattle.std.specs.Option.{option_eq}
use Rattle.std.proofs.lemmas.Result.{on_ok_weaker}
use Rattle.spec_cast.specs.Sides.{scene_eq, scene_of}
use Rattle.sp_cast.specs.Keys.{scene_of_key}
use Rattle.sp_cast.proofs.KeyLaws.{added, key_eq, scenes-as}
use Rattle.sp_cast.proofs.groups.add_by_scene.Goals as goal

pub returns : goal.returns
returns c =
    on_ok_weaker c.add_at.result (added (option_eq key_eq) scene_of_key scene_eq scene_of scenes-as _ _ _ _ _ _ _ c.scene_key.ensures c.in_ok-place.ensures.index c.in_ok-place.ensures.keys) c.add_at.ensures
