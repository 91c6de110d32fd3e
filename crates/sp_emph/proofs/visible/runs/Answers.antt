-- A line without marks has the runs of its parts. What holds of the runs of a line holds of these, which are those runs.
use Rattle.std.proofs.Common.{◌≡◌, sym, subst, ◌∙◌}
use Rattle.std.proofs.lemmas.Result.{IfOk-weaker}
use Rattle.spec_script.specs.Runs.{RunParts}
use Rattle.spec_script.specs.Emphasis.{part_runs, joined, runs_of}
use Rattle.spec_script.proofs.RunLaws.{RunParts-runs_of}
use Rattle.spec_script.proofs.PlainLaws.{runs_of-plain}
use Rattle.sp_emph.proofs.visible.runs.Goals as goal

pub returns-then-not-has_markup-clause-value : goal.returns-then-not-has_markup-clause-value
returns-then-not-has_markup-clause-value c =
    let text = c.args.text.now in
    let kept = c.args.kept.now in
    let plain = runs_of-plain text kept c.requires.parts (sym c.has_markup.ensures ∙ c.if-not-has_markup.true) in
    IfOk-weaker c.plain_runs.result (λ v. v.items ≡ joined (part_runs kept)) (λ v. v.items ≡ runs_of text kept)
    (λ v h. h ∙ sym plain) c.plain_runs.ensures

pub returns-then-not-has_markup-clause-parts : goal.returns-then-not-has_markup-clause-parts
returns-then-not-has_markup-clause-parts c =
    let text = c.args.text.now in
    let kept = c.args.kept.now in
    IfOk-weaker c.plain_runs.result (λ v. v.items ≡ runs_of text kept) (λ v. RunParts text v.items)
    (λ v h. subst (RunParts text) (sym h) (RunParts-runs_of text kept c.utf8.text c.requires.parts)) (returns-then-not-has_markup-clause-value c)

pub returns-clause-parts : goal.returns-clause-parts
returns-clause-parts c =
    let text = c.args.text.now in
    let kept = c.args.kept.now in
    IfOk-weaker c.marked_runs.result (λ v. v.items ≡ runs_of text kept) (λ v. RunParts text v.items)
    (λ v h. subst (RunParts text) (sym h) (RunParts-runs_of text kept c.utf8.text c.requires.parts)) c.marked_runs.ensures
