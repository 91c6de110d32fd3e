use Rattle.std.proofs.Common.{◌≡◌, length, ap, ◌∙◌, arith}
use Rattle.std.proofs.lemmas.List.{length-map}
use Rattle.std.proofs.lemmas.Result.{IfOk-weaker}
use Rattle.spec_labels.specs.Scenes.{HeadingOf, locked_labels}
use Rattle.sp_scenes.specs.LineLabels.{line_labels}
use Rattle.sp_scenes.proofs.LineLabels.{labels-of_lines}
use Rattle.sp_scenes.proofs.numbering.locked.Goals as goal

pub locked_lines-requires-clause-few : goal.locked_lines-requires-clause-few
locked_lines-requires-clause-few c =
    omega (arith, ap length (c.deref.ensures.value ∙ c.in_ok-lines.ensures), length-map c.args.headings.now (λ (it : HeadingOf). it.id), c.requires.headings.few)

pub returns-clause-numbers : goal.returns-clause-numbers
returns-clause-numbers c =
    let records = c.args.records.now in
    let headings = c.args.headings.now in
    let same : line_labels records c.deref.result.now ≡ locked_labels records headings =
    ap (line_labels records) (c.deref.ensures.value ∙ c.in_ok-lines.ensures) ∙ labels-of_lines records headings in
    IfOk-weaker c.locked_lines.result (λ labels. labels.items ≡ line_labels records c.deref.result.now) (λ labels. labels.items ≡ locked_labels records headings)
    (λ labels is. is ∙ same) c.locked_lines.ensures.numbers

pub returns-clause-count : goal.returns-clause-count
returns-clause-count c =
    let headings = c.args.headings.now in
    let many : length c.deref.result.now ≡ length headings = ap length (c.deref.ensures.value ∙ c.in_ok-lines.ensures) ∙ length-map headings (λ (it : HeadingOf). it.id) in
    IfOk-weaker c.locked_lines.result (λ labels. length labels.items ≡ length c.deref.result.now) (λ labels. length labels.items ≡ length headings)
    (λ labels is. is ∙ many) c.locked_lines.ensures.count
