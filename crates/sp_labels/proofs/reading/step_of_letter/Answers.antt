use Rattle.std.proofs.Common.{◌≡◌, ◌+◌, ◌-◌, ap, ◌∙◌, arith}
use Rattle.std.specs.Prelude.{slice_index}
use Rattle.spec_labels.specs.Labels.{step_letters}
use Rattle.sp_labels.proofs.Fronts.{letter-place, letter-none}
use Rattle.sp_labels.proofs.reading.step_of_letter.Goals as goal

pub returns-in_err-place : goal.returns-in_err-place
returns-in_err-place c =
    let none = letter-none c.args.letter c.in_err-place.ensures in
    rw c.from_residual.ensures none

pub returns : goal.returns
returns c =
    let (less, is) = letter-place c.args.letter c.in_ok-place.place c.in_ok-place.ensures in
    let back : c.in_ok-place.place + 1 - 1 ≡ c.in_ok-place.place = omega arith in
    (omega arith, omega (arith, less), ap (slice_index step_letters) back ∙ is)
