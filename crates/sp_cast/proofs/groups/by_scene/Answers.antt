use Rattle.std.proofs.Common.{rules, ◌≡◌, ◌<◌, ◌≤◌, get_or, length, ap, ◌∙◌, arith}
use Rattle.std.proofs.lemmas.List.{take_all}
use Rattle.spec_cast.specs.Groups.{grouped}
use Rattle.spec_cast.specs.Sides.{scene_eq, scene_of}
use Rattle.spec_cast.proofs.Counts.{scenes-tell}
use Rattle.sp_cast.specs.Keys.{scene_of_key}
use Rattle.sp_cast.proofs.KeyLaws.{gathered-even, gathered-more}
use Rattle.sp_cast.proofs.groups.by_scene.Goals as goal

pub add_by_scene-requires : goal.add_by_scene-requires
add_by_scene-requires c = gathered-even scene_of_key scene_eq scene_of _ c.loop-spoken.scenes.keys c.loop-spoken.groups.items c.loop-spoken.invariant

pub loop-spoken-preserved : goal.loop-spoken-preserved
loop-spoken-preserved c =
    let same : c.deref-spoken-items.result.now ≡ c.args.group.now = search rules in
    let lent : c.spoken.inside.said.now ≡ c.spoken-item.result = search rules in
    let size = ap length same in
    let inside : c.loop-spoken.spoken-index < length c.args.group.now = let low = c.loop-spoken-test.true in omega (arith, low, size) in
    gathered-more scene_of_key scene_eq scene_of scenes-tell c.args.group.now c.loop-spoken.spoken-index c.spoken-item.result c.spoken.inside.said.now c.loop-spoken.scenes.keys _ c.loop-spoken.groups.items _
    inside (lent ∙ c.spoken-item.is ∙ ap (λ those. get_or those c.loop-spoken.spoken-index c.spoken-item.result) same) c.in_ok-add_by_scene.ensures c.loop-spoken.invariant

pub returns : goal.returns
returns c =
    let same : c.deref-spoken-items.result.now ≡ c.args.group.now = search rules in
    let past : length c.args.group.now ≤ c.loop-spoken.spoken-index = let size = ap length same in let end = c.loop-spoken-test.false in omega (arith, size, end) in
    c.loop-spoken.invariant.groups_are ∙ ap (grouped scene_eq scene_of) (take_all c.loop-spoken.spoken-index c.args.group.now past)
