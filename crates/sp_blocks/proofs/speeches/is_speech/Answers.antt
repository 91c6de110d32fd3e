use Rattle.std.proofs.Common.{ap, sym, ◌∙◌}
use Rattle.spec_script.specs.Trim.{trim}
use Rattle.spec_script.specs.Left.{Left}
use Rattle.spec_script.specs.Spans.{text_in}
use Rattle.sp_blocks.proofs.Groups.{speech-told}
use Rattle.sp_blocks.proofs.speeches.is_speech.Goals as goal

pub opens_speech-requires-clause-trimmed : goal.opens_speech-requires-clause-trimmed
opens_speech-requires-clause-trimmed c =
    let line = c.first.inside in
    let text = ap (text_in line.line.now) c.as_slice.ensures ∙ sym c.first.invariant.2 ∙ ap (λ (l : Left). l.text) c.first.view_is in
    c.trimmed.ensures.value ∙ sym (ap trim text)

pub returns : goal.returns
returns c = speech-told c.args.lines.now c.index-lines-0.result c.trimmed.result.now _ c.requires c.index-lines-0.is c.trimmed.ensures.value c.opens_speech.ensures
