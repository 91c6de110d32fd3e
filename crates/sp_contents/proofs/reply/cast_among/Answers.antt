use Rattle.std.proofs.Common.{rules, List, ap, sym, ◌∙◌}
use Rattle.spec_text.specs.Lines.{LineState, TextState, line_texts}
use Rattle.spec_script.specs.Stanzas.{blocks_of}
use Rattle.sp_text.specs.Gap.{text_of}
use Rattle.sp_contents.proofs.SceneFacts.{lie-in}
use Rattle.sp_contents.proofs.reply.cast_among.Goals as goal

pub speaker_names-requires : goal.speaker_names-requires
speaker_names-requires c =
    let same = ap (λ (it : TextState). it.lines) c.lines-lines.ensures in
    lie-in (text_of c.lines-lines.result.now) c.args.blocks.now c.len-count.ensures.keeps (c.requires ∙ ap (λ (those : List LineState). blocks_of (line_texts those)) (sym same))

pub returns : goal.returns
returns c = search rules
