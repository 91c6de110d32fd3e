use Rattle.std.proofs.Common.{◌≡◌, ◌++◌, map, take, drop}
use Rattle.sp_sheets.specs.Numbered.{moved_sheet}
use Rattle.sp_sheets.proofs.numbered.move_all.Given as goal

abbrev pub invariant-loop-sheet : goal.invariant-loop-sheet
invariant-loop-sheet l = l.sheets ≡ map (moved_sheet l.less l.more) (take l.sheet-index l.initial.sheets) ++ drop l.sheet-index l.initial.sheets
