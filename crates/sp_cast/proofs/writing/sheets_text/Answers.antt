use Rattle.std.proofs.Common.{ap, ◌∙◌}
use Rattle.std.specs.Prelude.{codes, string_bytes, IfOk, Ok, Err}
use Rattle.std.specs.declared.result.Result.{Result}
use Rattle.std.specs.List.{join_by}
use Rattle.spec_labels.specs.Labels.{label_text}
use Rattle.spec_cast.specs.Sides.{sheets_in}
use Rattle.sp_cast.proofs.SheetTexts.{joined-same}
use Rattle.sp_cast.proofs.writing.sheets_text.Goals as goal

if-ok : {T E : Type 0} {P Q : T → Type 0} (r : Result T E) → ((x : T) → P x → Q x) → IfOk r P → IfOk r Q
if-ok (Ok x) f it = f x it
if-ok (Err e) f it = tt

pub returns : goal.returns
returns c =
    if-ok c.join.result
    (λ text is. is ∙ ap (join_by string_bytes (codes ", ")) c.deref.ensures.value ∙ joined-same string_bytes label_text (codes ", ") c.in_ok-texts.texts.items (sheets_in c.args.group.now) c.in_ok-texts.ensures) c.join.ensures.ok
