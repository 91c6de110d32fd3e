use Rattle.std.proofs.Common.{◌≡◌, ℕ, List, length, ap, ◌∙◌, IfOk, subst}
use Rattle.spec_text.specs.Lines.{TextState}
use Rattle.spec_records.specs.Kept.{RecordsOf}
use Rattle.sp_run.proofs.ToldSamples.{told}
use Rattle.sp_run.proofs.script_line.state_line.Goals as goal

pub returns : goal.returns
returns c =
    subst (λ (text : List ℕ). IfOk c.told_line.result (λ line. line.items ≡ text))
    (told c.args.rooms c.len.result c.sheets.result c.behind-script.inside.round c.args.script.now c.as_str.result.now (c.len.ensures.len ∙ ap (λ (text : TextState). length text.lines) c.lines.ensures) c.sheets.ensures
    (ap (λ (records : RecordsOf). records.round) (c.behind-script.view_is ∙ c.records.ensures)) (c.as_str.ensures.value ∙ c.in_ok-digest.ensures))
    c.told_line.ensures
