use Rattle.std.proofs.Common.{List, sym, subst, arith}
use Rattle.std.proofs.lemmas.Grind.{common_steps}
use Rattle.std.specs.Prelude.{All}
use Rattle.spec_pages.specs.CellParts.{RowLies}
use Rattle.spec_pages.specs.Rows.{Row}
use Rattle.spec_pages.proofs.CellLaws.{block_alone-lies}
use Rattle.sp_columns.proofs.elements.single_rows.Goals as goal

pub tell_speakers-requires : goal.tell_speakers-requires
tell_speakers-requires c =
    let lines = c.args.lines.now.lines in
    subst (λ (rows : List Row). All (RowLies lines c.args.first) rows) (sym c.in_ok-rows.ensures) (block_alone-lies lines c.args.first c.args.block.now c.requires)

pub returns : goal.returns
returns c = grind (arith, common_steps)

pub returns-then-is_title : goal.returns-then-is_title
returns-then-is_title c = grind (arith, common_steps)

pub returns-then-not-has_rows : goal.returns-then-not-has_rows
returns-then-not-has_rows c = grind (arith, common_steps)
