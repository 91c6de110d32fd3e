use Rattle.std.proofs.Common.{sym, ◌∙◌, arith}
use Rattle.std.proofs.lemmas.List.{length-map}
use Rattle.spec_script.proofs.RunPlaces.{run-lies}
use Rattle.spec_sheets.specs.Cells.{shown_part}
use Rattle.sp_compare.proofs.CellLists.{parts-differ}
use Rattle.sp_compare.proofs.cells.same_parts.Goals as goal

pub returns-then-olds-news : goal.returns-then-olds-news
returns-then-olds-news c =
    let olds = length-map c.args.olds.now (shown_part c.args.old.now) in
    let news = length-map c.args.news.now (shown_part c.args.new.now) in
    sym (parts-differ _ _ (λ e. c.if-olds-news.true (sym olds ∙ e ∙ news)))

pub same_part-requires-clause-one : goal.same_part-requires-clause-one
same_part-requires-clause-one c = run-lies c.args.old.now 0 c.args.olds.now c.loop-place.place _ c.requires.olds c.loop-place-test.true

pub same_part-requires-clause-other : goal.same_part-requires-clause-other
same_part-requires-clause-other c =
    run-lies c.args.new.now 0 c.args.news.now c.loop-place.place _ c.requires.news (omega (arith, c.loop-place-test.true, c.if-olds-news.false))
