use Rattle.std.proofs.Common.{◌≡◌, ◌+◌, ◌++◌, [], ◌∷◌, add-one, ap, ◌∙◌, arith}
use Rattle.std.proofs.lemmas.Grind.{common_steps}
use Rattle.spec_labels.specs.Scenes.{label_between}
use Rattle.sp_scenes.specs.NewLabels.{new_labels}
use Rattle.sp_scenes.proofs.NewLabels.{new_labels-push}
use Rattle.sp_scenes.proofs.numbering.push_new.Goals as goal

pub loop-before-preserved : goal.loop-before-preserved
loop-before-preserved c =
    let more : new_labels c.args.records.now c.args.place 0 (c.loop-before.before + 1) ≡ new_labels c.args.records.now c.args.place 0 c.loop-before.before ++ label_between c.args.records.now c.args.place (c.loop-before.before + 1) ∷ [] =
    ap (new_labels c.args.records.now c.args.place 0) (add-one c.loop-before.before) ∙ new_labels-push c.args.records.now c.args.place 0 c.loop-before.before (c.loop-before.before + 1) (omega arith) in
    grind (arith, common_steps, more)
