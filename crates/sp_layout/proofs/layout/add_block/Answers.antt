use Rattle.std.proofs.Common.{◌+◌, ◌<◌, List, length, sym, subst, arith}
use Rattle.std.proofs.lemmas.Grind.{common_steps}
use Rattle.std.specs.Prelude.{All}
use Rattle.spec_text.specs.Lines.{line_texts}
use Rattle.spec_script.specs.Elements.{PlacedLies}
use Rattle.spec_pages.specs.Rows.{Row}
use Rattle.spec_sheets.proofs.RowLaws.{single_rows-inside}
use Rattle.sp_layout.proofs.layout.add_block.Goals as goal

pub push-requires-clause-inside : goal.push-requires-clause-inside
push-requires-clause-inside c =
    let lines = c.args.lines.now.lines in
    let first = c.placed.inside.first in
    let lies = subst (PlacedLies (line_texts lines)) (sym c.placed.view_is) c.requires in
    subst (λ (rows : List Row). All (λ (row : Row). first + row.line < length lines) rows) (sym c.in_ok-single_rows.ensures) (single_rows-inside lines first c.placed.inside.block.now c.args.continued lies)

pub push-requires-2-clause-inside : goal.push-requires-2-clause-inside
push-requires-2-clause-inside c =
    let lines = c.args.lines.now.lines in
    let first = c.placed.inside.first in
    let lies = subst (PlacedLies (line_texts lines)) (sym c.placed.view_is) c.requires in
    subst (λ (rows : List Row). All (λ (row : Row). first + row.line < length lines) rows) (sym c.in_ok-single_rows.ensures) (single_rows-inside lines first c.placed.inside.block.now c.args.continued lies)

pub returns : goal.returns
returns c = grind (arith, common_steps)

pub returns-then-is_title : goal.returns-then-is_title
returns-then-is_title c = grind (arith, common_steps)
