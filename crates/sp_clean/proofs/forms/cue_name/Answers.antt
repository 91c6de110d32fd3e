use Rattle.std.proofs.Common.{arith, sym, ◌∙◌}
use Rattle.sp_clean.proofs.FormLaws.{cue_name-plain, cue_name-cut, cue_name-whole}
use Rattle.sp_clean.proofs.forms.cue_name.Goals as goal

pub returns-then-not-ends : goal.returns-then-not-ends
returns-then-not-ends c = cue_name-plain c.args.cue.now (sym c.ends.ensures ∙ c.if-not-ends.true)

pub returns-in-Some : goal.returns-in-Some
returns-in-Some c =
    let found = c.in-Some.ensures.byte (omega arith) (λ w o h. h) in
    c.trim.ensures ∙ cue_name-cut c.args.cue.now c.in-Some.name.now (sym c.ends.ensures ∙ c.if-not-ends.false) found.2 found.0

pub returns-in-None : goal.returns-in-None
returns-in-None c = cue_name-whole c.args.cue.now (c.in-None.ensures.byte (omega arith) (λ w o h. h))
