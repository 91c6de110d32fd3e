use Rattle.std.proofs.Common.{◌≡◌, ◌-◌, take, drop, max}
use Rattle.std.specs.Prelude.{fold}
use Rattle.sp_sheets.proofs.numbered.greatest.Given as goal

abbrev pub invariant-loop-row : goal.invariant-loop-row
invariant-loop-row l = l.greatest ≡ fold max 0 (take (l.row - l.from) (drop l.from l.marks.items))
