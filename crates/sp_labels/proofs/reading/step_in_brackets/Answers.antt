use Rattle.std.proofs.Common.{ℕ, List, [], ◌∷◌, arith}
use Rattle.std.proofs.lemmas.Bool.Decides.{Decides-eqb}
use Rattle.std.proofs.lemmas.Slice.Eq.{strip_prefix_is}
use Rattle.std.specs.Prelude.{None}
use Rattle.sp_labels.specs.Fronts.{StepFront}
use Rattle.sp_labels.proofs.Fronts.{only-bracket}
use Rattle.sp_labels.proofs.reading.step_in_brackets.Goals as goal

pub returns-then-step-le24 : goal.returns-then-step-le24
returns-then-step-le24 c = λ step rest front.
    let (same, many, closed) = only-bracket c.in_ok-step.ensures front in
    omega (arith, same, many, c.if-step-le24.true)

pub returns-in_err-strip_prefix : goal.returns-in_err-strip_prefix
returns-in_err-strip_prefix c =
    let none = λ (step : ℕ) (rest : List ℕ) (front : StepFront (40 ∷ c.args.text.now) step rest).
    let (same, many, closed) = only-bracket c.in_ok-step.ensures front in
    strip_prefix_is Decides-eqb c.in_ok-step.rest.now (41 ∷ []) None c.in_err-strip_prefix.ensures.cases rest closed in
    rw c.from_residual-in_err-strip_prefix.ensures none
