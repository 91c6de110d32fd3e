use Rattle.std.proofs.Common.{rules, ◌≡◌, ◌++◌, Some, slice_get, append_assoc, ap, ap₂, sym, ◌∙◌}
use Rattle.std.specs.Prelude.{OnOk, Ok, Err, codes, string_bytes}
use Rattle.std.specs.declared.result.Result.{Result}
use Rattle.std.specs.List.{flat_map}
use Rattle.spec_cast.specs.Sides.{name_of, side_bytes}
use Rattle.spec_cast.specs.Groups.{scene_of_group}
use Rattle.spec_cast.proofs.Groups.{scenes-grouped}
use Rattle.sp_cast.proofs.SheetTexts.{group-begins}
use Rattle.sp_cast.proofs.writing.write_side.Goals as goal

on-ok : {T E A B : Type 0} (r : Result T E) → (A → B) → OnOk r A → OnOk r B
on-ok (Ok x) f it = f it
on-ok (Err e) f it = tt

pub returns : goal.returns
returns c =
    let group = c.args.group.now in
    let out = string_bytes c.args.out.now in
    let said = c.in-Some.first.now in
    let begins : Some said ≡ slice_get group 0 = search rules in
    let named : string_bytes c.said.inside.name ≡ said.name = search rules in
    let scenes = flat_map scene_of_group c.deref-2.result.now in
    on-ok c.write_scenes.result
    (λ is. is ∙ ap (λ front. front ++ scenes) c.in_ok-write.ensures.bytes
    ∙ append_assoc out (string_bytes c.said.inside.name ++ codes "\n") scenes
    ∙ ap (λ xs. out ++ xs)
    (append_assoc (string_bytes c.said.inside.name) (codes "\n") scenes
    ∙ ap₂ (λ name xs. name ++ (codes "\n" ++ xs)) named (ap (flat_map scene_of_group) (c.deref-2.ensures.value ∙ c.in_ok-scenes.ensures) ∙ scenes-grouped group)
    ∙ sym (group-begins name_of side_bytes group said begins))) c.write_scenes.ensures
