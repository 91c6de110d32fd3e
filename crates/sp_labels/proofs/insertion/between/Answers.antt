use Rattle.std.proofs.Common.{ℕ, arith, sym, subst, refl, Bor}
use Rattle.std.proofs.lemmas.Grind.{common_steps}
use Rattle.std.specs.Prelude.{Option, Some, None, IfSome, option_copied}
use Rattle.std.specs.Option.{ForSome}
use Rattle.spec_labels.specs.Labels.{LabelOf, IsLabel, Below, between}
use Rattle.spec_labels.proofs.LabelsBetween.{between-above, between-below}
use Rattle.sp_labels.proofs.insertion.between.Goals as goal

-- The label lies below the next one, where there is one.
below-next : (low : LabelOf) (next : Option (Bor LabelOf)) (m : ℕ) → ForSome next (λ high. IsLabel high.now) → ForSome next (λ high. Below low high.now)
    → IfSome (option_copied next) (Below (between low (option_copied next) m))
below-next low None m label above = tt
below-next low (Some high) m label above = between-below low high.now m (above high refl) (label high refl)

pub returns-clause-between : goal.returns-clause-between
returns-clause-between c = grind (arith, common_steps)

pub returns-clause-above : goal.returns-clause-above
returns-clause-above c =
    subst (Below c.args.l.now) (sym (returns-clause-between c)) (between-above c.args.l.now (option_copied c.args.n) c.args.m c.requires.some)

pub returns-clause-below : goal.returns-clause-below
returns-clause-below c =
    let P : LabelOf → Type 0 = λ it. IfSome (option_copied c.args.n) (Below it) in
    subst P (sym (returns-clause-between c)) (below-next c.args.l.now c.args.n c.args.m c.requires.next c.requires.above)
