use Rattle.std.proofs.Common.{◌≡◌, ◌+◌, ◌<◌, ◌==◌, not, Some, List, length, slice_get, ap, subst, ◌∙◌, arith}
use Rattle.std.proofs.lemmas.List.{length-map}
use Rattle.spec_text.specs.Lines.{LineState}
use Rattle.spec_text.specs.Parts.{SpanOf}
use Rattle.spec_script.specs.BlockValues.{BlockOf}
use Rattle.spec_script.specs.Stanzas.{PlacedBlock}
use Rattle.spec_script.specs.Elements.{placed_at, line_of_block}
use Rattle.spec_state.specs.Headings.{is_numbered}
use Rattle.sp_sheets.proofs.HeadingMade.{number_of, heading_made, heading-made}
use Rattle.sp_sheets.proofs.headings.heading_at.Goals as goal

pub returns : goal.returns
returns c =
    let lines = c.args.lines.now.lines in
    let block : BlockOf = c.args.block.now in
    let placed : PlacedBlock = placed_at c.args.first block in
    let line : LineState = record { id = c.line-line.result.id; mark = c.line-line.result.mark; text = c.line-line.result.text.now } in
    let at : c.args.first + c.block.inside.first ≡ line_of_block placed = ap (λ (b : BlockOf). c.args.first + b.first) c.block.view_is in
    let found : slice_get lines (line_of_block placed) ≡ Some line = subst (λ n. slice_get lines n ≡ Some line) at c.line-line.ensures.line in
    let size = length-map lines (λ (it : LineState). it.text) in
    let inside : line_of_block placed < length lines = omega (arith, c.requires.place, size) in
    let parts : c.as_slice-parts.result.now ≡ block.number = c.as_slice-parts.ensures.value ∙ ap (λ (b : BlockOf). b.number) c.block.view_is in
    let number : c.in_ok-number.number ≡ number_of line.text block.number = c.in_ok-number.ensures ∙ ap (number_of line.text) parts in
    let written : not c.is_empty.result ≡ is_numbered placed = ap not (c.is_empty.ensures ∙ ap (λ (those : List SpanOf). length those == 0) parts) in
    ap (λ n. heading_made n line.id (not c.is_empty.result) c.in_ok-number.number) at
    ∙ ap (λ b. heading_made (line_of_block placed) line.id b c.in_ok-number.number) written
    ∙ ap (heading_made (line_of_block placed) line.id (is_numbered placed)) number
    ∙ heading-made lines placed line inside found
