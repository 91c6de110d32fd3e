use Rattle.std.proofs.Common.{List, length, filter, ap, sym, subst, ◌∙◌}
use Rattle.std.specs.Prelude.{AllPairs}
use Rattle.spec_text.specs.Lines.{LineState, TextState, line_texts}
use Rattle.spec_script.specs.Stanzas.{PlacedBlock, blocks_from, blocks_of}
use Rattle.spec_labels.specs.Labels.{Below}
use Rattle.spec_state.specs.Headings.{is_heading_block}
use Rattle.spec_machine.specs.Outlines.{Scenes}
use Rattle.sp_text.specs.Gap.{text_of}
use Rattle.sp_contents.proofs.SceneFacts.{lie-in, labels-counted, gone-rises}
use Rattle.sp_contents.proofs.reply.outline_text.Goals as goal

pub entries_of-requires-clause-lie : goal.entries_of-requires-clause-lie
entries_of-requires-clause-lie c =
    let same = ap (λ (it : TextState). it.lines) c.lines-lines.ensures in
    lie-in (text_of c.lines-lines.result.now) c.deref-2.result.now c.len-count.ensures.keeps
    (c.deref-2.ensures.value ∙ c.in_ok-blocks.ensures ∙ ap (blocks_from 0) c.stanzas.ensures ∙ ap (λ (those : List LineState). blocks_of (line_texts those)) (sym same))

pub entries_of-requires-clause-labels : goal.entries_of-requires-clause-labels
entries_of-requires-clause-labels c =
    let blocks = c.deref-2.ensures.value ∙ c.in_ok-blocks.ensures ∙ ap (blocks_from 0) c.stanzas.ensures in
    ap (λ (it : Scenes). length it.labels) c.in_ok-scenes.ensures
    ∙ labels-counted c.args.view.now
    ∙ sym (ap (λ (those : List PlacedBlock). length (filter is_heading_block those)) blocks)

pub entries_of-requires-clause-rising : goal.entries_of-requires-clause-rising
entries_of-requires-clause-rising c =
    subst (λ (it : Scenes). AllPairs Below it.gone) (sym c.in_ok-scenes.ensures) (gone-rises c.args.view.now c.body_sheets-sheets.ensures.whole)
