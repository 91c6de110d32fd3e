use Rattle.sp_fill.proofs.TitleCuts.{IsCut}
use Rattle.sp_fill.proofs.titles.title_starts.Given as goal

abbrev pub invariant-loop-row : goal.invariant-loop-row
invariant-loop-row l = IsCut l.limit l.shapes.items l.row l.rows l.starts.items
