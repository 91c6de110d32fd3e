use Rattle.std.proofs.Common.{◌++◌, map, subst, sym, ap, ◌∙◌}
use Rattle.std.specs.Prelude.{All}
use Rattle.spec_text.specs.Lines.{line_texts}
use Rattle.spec_script.specs.BlockParts.{BlockLies}
use Rattle.spec_script.specs.Elements.{placed_at}
use Rattle.sp_sheets.specs.HeadingLines.{heading_lines}
use Rattle.sp_sheets.proofs.LinesOfHeadings.{heading_lines-next, lie-next, lie-left}
use Rattle.sp_sheets.proofs.headings.heading_lines.Goals as goal

pub add_heading_lines-requires : goal.add_heading_lines-requires
add_heading_lines-requires c =
    let texts = line_texts c.args.lines.now.lines in
    let blocks = c.stanza.result.now.blocks in
    subst (λ n. All (BlockLies texts n) blocks) (sym c.lines_before.ensures) (lie-next texts c.args.stanzas.now.stanzas c.loop-i.i c.stanza.result.now c.stanza.ensures c.loop-i.invariant.1)

pub loop-i-preserved : goal.loop-i-preserved
loop-i-preserved c =
    let stanzas = c.args.stanzas.now.stanzas in
    let lines = c.args.lines.now.lines in
    let stanza = c.stanza.result.now in
    let pushed = c.in_ok-add_heading_lines.ensures ∙ ap (λ n. c.loop-i.ids.items ++ heading_lines lines (map (placed_at n) stanza.blocks)) c.lines_before.ensures in (
      heading_lines-next lines stanzas c.loop-i.i stanza c.loop-i.ids.items c.add_heading_lines.new.ids.items _ c.stanza.ensures pushed c.loop-i.invariant.0,
      lie-left (line_texts lines) stanzas c.loop-i.i stanza c.stanza.ensures c.loop-i.invariant.1,
    )
