use Rattle.std.proofs.Common.{ap, sym, ◌∙◌}
use Rattle.spec_text.specs.Lines.{line_texts}
use Rattle.spec_script.specs.Stanzas.{blocks_from, blocks_of}
use Rattle.sp_text.specs.Gap.{LinesState}
use Rattle.sp_sheets.proofs.made.lay.Goals as goal

pub lay_out_text-requires : goal.lay_out_text-requires
lay_out_text-requires c =
    c.deref.ensures.value ∙ c.in_ok-blocks.ensures ∙ ap (blocks_from 0) c.stanzas.ensures.stanzas
    ∙ ap (λ (lines : LinesState). blocks_of (line_texts lines.lines)) (sym c.lines.ensures.lines)
