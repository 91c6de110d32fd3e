use Rattle.std.proofs.Common.{◌≡◌, true, false, is_lt, arith}
use Rattle.std.proofs.lemmas.Grind.{common_steps}
use Rattle.spec_labels.specs.Labels.{label_cmp}
use Rattle.spec_labels.proofs.Falls.{StandAt, Rises-none, Rises-more, Rises-falls, Rises-all}
use Rattle.sp_scenes.proofs.locking.first_fall.Goals as goal

pub loop-before-init : goal.loop-before-init
loop-before-init c = Rises-none c.args.labels.now

pub loop-before-preserved : goal.loop-before-preserved
loop-before-preserved c =
    let one = c.index-labels-before.result in
    let other = c.index-labels-before-in-loop-before.result in
    let stand : StandAt c.args.labels.now c.loop-before.before one other = record { within = omega arith; first = c.index-labels-before.is; second = c.index-labels-before-in-loop-before.is } in
    let rises : is_lt (label_cmp one other) ≡ true = grind (arith, common_steps) in
    Rises-more c.args.labels.now c.loop-before.before one other stand rises c.loop-before.invariant

pub returns-then-not-is_lt-clause-place : goal.returns-then-not-is_lt-clause-place
returns-then-not-is_lt-clause-place c =
    let one = c.index-labels-before.result in
    let other = c.index-labels-before-in-loop-before.result in
    let stand : StandAt c.args.labels.now c.loop-before.before one other = record { within = omega arith; first = c.index-labels-before.is; second = c.index-labels-before-in-loop-before.is } in
    let falls : is_lt (label_cmp one other) ≡ false = grind (arith, common_steps) in
    Rises-falls c.args.labels.now c.loop-before.before one other stand falls c.loop-before.invariant

pub returns-clause-place : goal.returns-clause-place
returns-clause-place c = Rises-all c.args.labels.now c.loop-before.before (omega arith) c.loop-before.invariant
