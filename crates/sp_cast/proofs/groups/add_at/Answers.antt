use Rattle.std.proofs.Common.{◌≡◌, ◌<◌, ◌∷◌, ◌++◌, [], length, slice_set, refl, true, false, ap, ◌∙◌, arith}
use Rattle.std.specs.Prelude.{OnOk, Ok, Err}
use Rattle.std.specs.declared.result.Result.{Result}
use Rattle.sp_cast.proofs.AddLaws.{add_at-inside, add_at-behind}
use Rattle.sp_cast.proofs.groups.add_at.Goals as goal

on-ok : {T E A B : Type 0} (r : Result T E) → (A → B) → OnOk r A → OnOk r B
on-ok (Ok x) f it = f it
on-ok (Err e) f it = tt

pub returns-in-Some : goal.returns-in-Some
returns-in-Some c =
    let groups = c.args.groups.now.items in
    let place = c.args.place in
    let said = c.args.said.now in
    let low : place < length groups = let inside = c.in-Some.ensures.variant.0 refl in omega (arith, inside) in
    on-ok c.add.result
    (λ is. ap (slice_set groups place) (is ∙ ap (λ group. group ++ said ∷ []) c.in-Some.ensures.value) ∙ add_at-inside groups place c.in-Some.group.now said low) c.add.ensures

pub returns-in_ok-push-in-None : goal.returns-in_ok-push-in-None
returns-in_ok-push-in-None c =
    let groups = c.args.groups.now.items in
    let place = c.args.place in
    let said = c.args.said.now in
    let low = c.requires in
    let high : (place < length groups → ⊥) = λ below. (let e : false ≡ true = c.in-None.ensures.variant.1 (omega (arith, below)) in cc) in
    let same : place ≡ length groups = omega (arith, low, high) in
    c.in_ok-push-in-None.ensures.items ∙ ap (λ group. groups ++ group ∷ []) c.in_ok-alone-in-None.ensures ∙ add_at-behind groups place said same
