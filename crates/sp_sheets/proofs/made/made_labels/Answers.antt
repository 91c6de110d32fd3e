use Rattle.std.proofs.Common.{◌≡◌, Some, length, refl, ap, sym, ◌∙◌, subst, arith}
use Rattle.std.specs.Prelude.{All, option_map}
use Rattle.spec_text.specs.Lines.{line_texts}
use Rattle.spec_script.specs.Stanzas.{blocks_from, blocks_of}
use Rattle.spec_script.specs.Elements.{PlacedLies}
use Rattle.spec_labels.specs.Scenes.{locked_labels}
use Rattle.spec_records.specs.Kept.{RecordsOf}
use Rattle.spec_state.specs.Headings.{headings_of, heading_labels}
use Rattle.spec_state.specs.Keeping.{state_of}
use Rattle.spec_state.proofs.StateKeys.{text-headings}
use Rattle.sp_text.specs.Gap.{LinesState, text_of}
use Rattle.sp_scenes.specs.LineLabels.{line_labels}
use Rattle.sp_sheets.specs.HeadingLines.{heading_lines}
use Rattle.sp_sheets.proofs.LinesOfHeadings.{labels-of, length-heading_lines}
use Rattle.sp_sheets.proofs.MadePages.{blocks-lie}
use Rattle.sp_sheets.proofs.MadeLaws.{labels-are}
use Rattle.sp_sheets.proofs.made.made_labels.Goals as goal

pub heading_lines-requires : goal.heading_lines-requires
heading_lines-requires c =
    let text = text_of c.args.text.now.lines in
    let stanzas = sym (ap (blocks_from 0) c.stanzas.ensures.stanzas) in
    subst (λ (lines : LinesState). All (PlacedLies (line_texts lines.lines)) (blocks_from 0 c.stanzas.result.now.stanzas)) (sym c.lines.ensures.lines)
    (subst (All (PlacedLies (line_texts text.lines))) stanzas (blocks-lie text c.lines.ensures.keeps).lie)

pub numbers_of_lines-requires-clause-lines : goal.numbers_of_lines-requires-clause-lines
numbers_of_lines-requires-clause-lines c =
    let lines = c.args.text.now.lines.lines in
    let ids : c.deref.result.now ≡ heading_lines lines (blocks_of (line_texts lines)) = c.deref.ensures.value ∙ c.in_ok-ids-in-Some.ensures ∙ ap (λ stanzas. heading_lines c.lines.result.now.lines (blocks_from 0 stanzas)) c.stanzas.ensures.stanzas
    ∙ ap (λ (those : LinesState). heading_lines those.lines (blocks_of (line_texts lines))) c.lines.ensures.lines in
    omega (arith, ap length ids, length-heading_lines lines (blocks_of (line_texts lines)), (text-headings (state_of (text_of c.args.text.now.lines) c.args.records.now) c.lines.ensures.keeps).few)

pub returns-in_ok-numbers_of_lines-in-Some : goal.returns-in_ok-numbers_of_lines-in-Some
returns-in_ok-numbers_of_lines-in-Some c =
    let lines = c.args.text.now.lines.lines in
    let blocks = blocks_of (line_texts lines) in
    let records = c.in-Some.scenes.items in
    let ids : c.deref.result.now ≡ heading_lines lines blocks = c.deref.ensures.value ∙ c.in_ok-ids-in-Some.ensures ∙ ap (λ stanzas. heading_lines c.lines.result.now.lines (blocks_from 0 stanzas)) c.stanzas.ensures.stanzas
    ∙ ap (λ (those : LinesState). heading_lines those.lines blocks) c.lines.ensures.lines in
    let labels : c.in_ok-numbers_of_lines-in-Some.field-0.items ≡ locked_labels records (headings_of lines) =
    c.in_ok-numbers_of_lines-in-Some.ensures.numbers ∙ ap (λ those. line_labels those c.deref.result.now) c.as_slice.ensures.value ∙ ap (line_labels records) ids ∙ labels-of records lines blocks in
    ap (λ those. Some those) labels ∙ labels-are (λ scenes. scenes.items) (Some c.in-Some.scenes) lines (headings_of lines) refl
    ∙ ap (λ scenes. heading_labels lines (option_map (λ those. those.items) scenes)) (sym c.in-Some.is) ∙ ap (λ (those : RecordsOf). heading_labels lines those.scenes) c.records.view_is
