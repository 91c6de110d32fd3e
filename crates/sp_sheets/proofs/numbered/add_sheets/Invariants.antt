use Rattle.std.proofs.Common.{◌≡◌, take, vec_capacity}
use Rattle.sp_sheets.specs.Numbered.{marked_sheets}
use Rattle.sp_sheets.proofs.numbered.add_sheets.Given as goal

abbrev pub invariant-loop-place : goal.invariant-loop-place
invariant-loop-place l = (l.sheets.items ≡ take l.place (marked_sheets l.marks.items 1 l.pages)) × (vec_capacity l.sheets ≡ vec_capacity l.initial.sheets)
