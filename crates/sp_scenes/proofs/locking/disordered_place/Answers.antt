use Rattle.std.proofs.Common.{◌≡◌, ◌<◌, length, ap, sym, ◌∙◌, arith}
use Rattle.std.specs.Prelude.{Some}
use Rattle.spec_labels.specs.Scenes.{HeadingOf, first_fall, unlocked_labels}
use Rattle.spec_labels.proofs.Falls.{disordered_place-at, disordered_place-none}
use Rattle.spec_labels.proofs.HeadingLabels.{length-unlocked_labels}
use Rattle.sp_scenes.proofs.locking.disordered_place.Goals as goal

pub bounds-headings-place : goal.bounds-headings-place
bounds-headings-place c = omega (arith, c.in_ok-place.ensures.within, ap length c.requires, length-unlocked_labels c.args.headings.now)

pub returns-in_err-place : goal.returns-in_err-place
returns-in_err-place c =
    c.from_residual.ensures ∙ sym (disordered_place-none c.args.headings.now (ap first_fall (sym c.requires) ∙ sym c.in_err-place.ensures.place))

pub returns : goal.returns
returns c =
    let falls : first_fall (unlocked_labels c.args.headings.now) ≡ Some c.in_ok-place.place = ap first_fall (sym c.requires) ∙ sym c.in_ok-place.ensures.place in
    let within : c.in_ok-place.place < length c.args.headings.now = omega (arith, c.in_ok-place.ensures.within, ap length c.requires, length-unlocked_labels c.args.headings.now) in
    let here = ap (λ (it : HeadingOf). it.place) (c.heading.view_is ∙ c.index-headings-place.is) in
    ap Some here ∙ sym (disordered_place-at c.args.headings.now c.in_ok-place.place c.index-headings-place.result within falls)
