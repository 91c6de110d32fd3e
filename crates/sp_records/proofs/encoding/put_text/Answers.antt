use Rattle.std.proofs.Common.{ap, ap₂, ◌∙◌}
use Rattle.std.specs.Prelude.{codes}
use Rattle.std.proofs.lemmas.Result.{on_ok_weaker}
use Rattle.serde_json.specs.Data.{string, put}
use Rattle.serde_json.specs.View.{members_view}
use Rattle.spec_jsonback.specs.Lists.{number_data}
use Rattle.sp_records.proofs.encoding.put_text.Goals as goal

pub returns-clause-members : goal.returns-clause-members
returns-clause-members c =
    let digest = c.in_ok-put.ensures.ok ∙ ap (λ d. put (codes "digest") d (members_view c.args.members.now.entries)) (c.from.ensures ∙ ap string c.in_ok-digest.ensures) in
    let format = c.in_ok-put-2.ensures.ok ∙ ap₂ (put (codes "format")) c.in_ok-try_from_str.ensures digest in
    let ids = c.in_ok-put-3.ensures.ok ∙ ap₂ (put (codes "ids")) c.in_ok-ids_value.ensures.ids format in
    let marks = c.in_ok-put-4.ensures.ok ∙ ap₂ (put (codes "marks")) c.in_ok-marks_value.ensures ids in
    on_ok_weaker c.put-5.result (λ next. next ∙ ap₂ (put (codes "next")) (c.from-2.ensures ∙ ap number_data c.next_id.ensures) marks) c.put-5.ensures.ok
