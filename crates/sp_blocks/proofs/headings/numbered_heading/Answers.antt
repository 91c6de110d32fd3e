use Rattle.std.proofs.Common.{List, ◌+◌, ◌-◌, ap, ap₂, ◌∙◌}
use Rattle.spec_text.specs.Parts.{SpanOf}
use Rattle.spec_script.specs.declared.Cut.{Cut}
use Rattle.spec_script.specs.declared.Kind.TheVariants as kinds
use Rattle.spec_script.specs.BlockValues.{BlockOf}
use Rattle.spec_script.specs.Visible.{clip_spans, window}
use Rattle.spec_script.specs.Left.{inner, text_block}
use Rattle.sp_blocks.proofs.headings.numbered_heading.Goals as goal

pub returns : goal.returns
returns c =
    let line = c.args.line.now in
    let n = c.args.len in
    let text = c.block.view_is ∙ c.in_ok-block.ensures ∙ ap (text_block kinds.Heading line) (c.inner.ensures.value ∙ ap (λ skip. inner line skip (n + 2)) c.requires.skip) in
    let number = c.in_ok-number.ensures ∙ ap (λ (whole : Cut). clip_spans (window line.spans (record { from = whole.to - (n + 1); to = whole.to - 1 })) line.spans) c.whole-end.ensures.value in
    ap₂ (λ (block : BlockOf) (spans : List SpanOf). record block { number = spans }) text number
