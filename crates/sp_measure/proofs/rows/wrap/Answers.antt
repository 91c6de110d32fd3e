-- What holds of the rows of a line holds of these, which are those rows.
use Rattle.std.proofs.Common.{◌≡◌, ◌<◌, ◌≤◌, List, length, max, sym, subst}
use Rattle.std.specs.List.{All}
use Rattle.std.proofs.lemmas.Result.{IfOk-weaker}
use Rattle.spec_script.specs.Runs.{RunParts}
use Rattle.spec_pages.specs.Wrapping.{WrappedRow, wrapped}
use Rattle.spec_pages.proofs.RowParts.{RunParts-wrapped}
use Rattle.spec_pages.proofs.WrapLaws.{wrapped-some, length-wrapped-le}
use Rattle.sp_measure.proofs.rows.wrap.Goals as goal

pub returns-clause-some : goal.returns-clause-some
returns-clause-some c =
    let text = c.args.text.now in
    IfOk-weaker c.wrapped.result (λ v. v.items ≡ wrapped text c.args.runs.now c.args.width) (λ v. 0 < length v.items)
    (λ v h. subst (λ (rows : List WrappedRow). 0 < length rows) (sym h) (wrapped-some text c.args.runs.now c.args.width)) c.wrapped.ensures

pub returns-clause-few : goal.returns-clause-few
returns-clause-few c =
    let text = c.args.text.now in
    IfOk-weaker c.wrapped.result (λ v. v.items ≡ wrapped text c.args.runs.now c.args.width) (λ v. length v.items ≤ max 1 (length text))
    (λ v h. subst (λ (rows : List WrappedRow). length rows ≤ max 1 (length text)) (sym h)
    (length-wrapped-le text c.args.runs.now c.args.width c.utf8.text c.requires.parts)) c.wrapped.ensures

pub returns-clause-parts : goal.returns-clause-parts
returns-clause-parts c =
    let text = c.args.text.now in
    IfOk-weaker c.wrapped.result (λ v. v.items ≡ wrapped text c.args.runs.now c.args.width)
    (λ v. All (λ (r : WrappedRow). RunParts text r.runs) v.items)
    (λ v h. subst (All (λ (r : WrappedRow). RunParts text r.runs)) (sym h)
    (RunParts-wrapped text c.args.runs.now c.args.width c.utf8.text c.requires.parts)) c.wrapped.ensures
