use Rattle.std.proofs.Common.{◌++◌, ap, ◌∙◌}
use Rattle.spec_text.specs.Lines.{line_texts}
use Rattle.spec_script.specs.Stanzas.{PlacedBlock}
use Rattle.sp_contents.specs.Speeches.{block_said, walked}
use Rattle.sp_contents.proofs.SaidSteps.{said-step, walked-low, speeches-low}
use Rattle.sp_contents.proofs.placed_speeches.said_among.Goals as goal

pub loop-placed-preserved : goal.loop-placed-preserved
loop-placed-preserved c =
    let walk = c.loop-placed.walk in
    let i = c.loop-placed.placed-index in
    record {
      said = said-step c.args.scenes.now c.args.sheets.now (line_texts c.args.lines.now.lines) c.args.blocks.now i _ walk _ c.loop-placed.said.items _ _ c.loop-placed-test.true
          (c.walked-walk.ensures ∙ ap (walked walk) c.placed-item.is)
          (c.in_ok-add_block.ensures
          ∙ ap (λ (placed : PlacedBlock). c.loop-placed.said.items ++ block_said c.args.scenes.now c.args.sheets.now (line_texts c.args.lines.now.lines) c.walked-walk.result placed) c.placed-item.is)
          c.loop-placed.invariant.said;
      headings = walked-low walk c.walked-walk.result c.placed-item.result i c.walked-walk.ensures c.loop-placed.invariant.headings;
      speeches = speeches-low walk c.walked-walk.result c.placed-item.result i c.walked-walk.ensures c.loop-placed.invariant.speeches;
    }
