-- A heading that is made of its line and its block.
use Rattle.std.proofs.Common.{◌≡◌, ℕ, ◌<◌, ◌==◌, cond, not, Bool, true, false, Option, None, Some, List, length, slice_get, refl, sym, ap, ◌∙◌}
use Rattle.std.specs.Prelude.{option_and_then}
use Rattle.std.proofs.lemmas.Option.{get_or_from_slice_get}
use Rattle.spec_text.specs.Lines.{LineState, line_texts}
use Rattle.spec_text.specs.Parts.{SpanOf}
use Rattle.spec_script.specs.Spans.{text_in}
use Rattle.spec_script.specs.Stanzas.{PlacedBlock}
use Rattle.spec_script.specs.Elements.{line_of_block}
use Rattle.spec_labels.specs.Labels.{LabelOf}
use Rattle.spec_labels.specs.LabelReading.{label_read}
use Rattle.spec_labels.specs.Scenes.{HeadingOf}
use Rattle.spec_sheets.specs.Cells.{text_at}
use Rattle.spec_sheets.proofs.RowLaws.{state-text}
use Rattle.spec_pages.specs.Rows.{line_state}
use Rattle.spec_state.specs.Headings.{is_numbered, as_scene_label, heading_of}

abbrev pub number_of : List ℕ → List SpanOf → Option LabelOf
number_of text parts = cond (length parts == 0) None (option_and_then as_scene_label (label_read (text_in text parts)))

abbrev pub heading_made : ℕ → ℕ → Bool → Option LabelOf → HeadingOf
heading_made place id written number = record { place = place; id = id; written = written; number = number }

by-number : (texts : List (List ℕ)) (placed : PlacedBlock) (b : Bool) (label : Option LabelOf) → cond b None label ≡ cond (not b) label None
by-number texts placed true label = refl
by-number texts placed false label = refl

pub heading-made : (lines : List LineState) (placed : PlacedBlock) (line : LineState) → line_of_block placed < length lines → slice_get lines (line_of_block placed) ≡ Some line
    → heading_made (line_of_block placed) line.id (is_numbered placed) (number_of line.text placed.block.number) ≡ heading_of lines placed
heading-made lines placed line inside is =
    let here : line_state lines (line_of_block placed) ≡ line = get_or_from_slice_get lines (line_of_block placed) line _ is in
    let text : line.text ≡ text_at (line_texts lines) (line_of_block placed) = sym (state-text lines (line_of_block placed) inside ∙ ap (λ (it : LineState). it.text) here) in
    ap (λ id. heading_made (line_of_block placed) id (is_numbered placed) (number_of line.text placed.block.number)) (sym (ap (λ (it : LineState). it.id) here))
    ∙ ap (λ those. heading_made (line_of_block placed) (line_state lines (line_of_block placed)).id (is_numbered placed) (number_of those placed.block.number)) text
    ∙ ap (heading_made (line_of_block placed) (line_state lines (line_of_block placed)).id (is_numbered placed))
    (by-number (line_texts lines) placed (length placed.block.number == 0) (option_and_then as_scene_label (label_read (text_in (text_at (line_texts lines) (line_of_block placed)) placed.block.number))))
