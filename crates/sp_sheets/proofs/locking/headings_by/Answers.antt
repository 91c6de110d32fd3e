use Rattle.std.proofs.Common.{◌≡◌, List, map, filter, ap, sym, ◌∙◌, subst}
use Rattle.std.specs.Prelude.{All}
use Rattle.spec_text.specs.Lines.{IsText, line_texts}
use Rattle.spec_script.specs.Stanzas.{PlacedBlock, blocks_from, blocks_of}
use Rattle.spec_script.specs.Elements.{PlacedLies}
use Rattle.spec_labels.specs.Scenes.{AreHeadings}
use Rattle.spec_state.specs.Headings.{headings_of, heading_of, is_heading_block}
use Rattle.sp_text.specs.Gap.{LinesState, text_of}
use Rattle.sp_sheets.proofs.MadePages.{blocks-lie, shows-same, shows-such}
use Rattle.sp_sheets.proofs.OpeningMade.{lines-headings}
use Rattle.sp_sheets.proofs.locking.headings_by.Goals as goal

pub headings_among-requires : goal.headings_among-requires
headings_among-requires c =
    let texts = line_texts c.lines.result.now.lines in
    let blocks : c.deref.result.now ≡ blocks_of texts = c.deref.ensures.value ∙ c.in_ok-blocks.ensures ∙ ap (blocks_from 0) c.stanzas.ensures.stanzas
    ∙ ap (λ (lines : LinesState). blocks_of (line_texts lines.lines)) (sym c.lines.ensures.lines) in
    let keeps = subst (λ (lines : LinesState). IsText (text_of lines)) (sym c.lines.ensures.lines) c.lines.ensures.keeps in
    subst (All (PlacedLies texts)) (sym blocks) (blocks-lie (text_of c.lines.result.now) keeps).lie

pub returns : goal.returns
returns c =
    let lines = c.lines.result.now.lines in
    let blocks : c.deref.result.now ≡ blocks_of (line_texts lines) = c.deref.ensures.value ∙ c.in_ok-blocks.ensures ∙ ap (blocks_from 0) c.stanzas.ensures.stanzas
    ∙ ap (λ (those : LinesState). blocks_of (line_texts those.lines)) (sym c.lines.ensures.lines) in
    let headings = shows-same (λ headings. headings.items) c.headings_among.result (map (heading_of lines) (filter is_heading_block c.deref.result.now)) (headings_of c.args.text.now.lines.lines)
    (ap (λ (those : List PlacedBlock). map (heading_of lines) (filter is_heading_block those)) blocks ∙ ap (λ (those : LinesState). headings_of those.lines) c.lines.ensures.lines) c.headings_among.ensures in
    record {
      headings = headings;
      are = shows-such (λ headings. headings.items) AreHeadings c.headings_among.result (headings_of c.args.text.now.lines.lines) (lines-headings (text_of c.args.text.now.lines) c.lines.ensures.keeps) headings;
    }
