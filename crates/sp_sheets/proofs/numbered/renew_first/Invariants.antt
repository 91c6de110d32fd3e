use Rattle.std.proofs.Common.{◌≡◌, ◌++◌, take, drop, vec_len, vec_capacity}
use Rattle.sp_sheets.specs.Numbered.{marked_sheets}
use Rattle.sp_sheets.proofs.numbered.renew_first.Given as goal

abbrev pub invariant-loop-place : goal.invariant-loop-place
invariant-loop-place l =
    (l.sheets.items ≡ take l.place (marked_sheets l.marks.items 1 l.pages) ++ drop l.place l.initial.sheets.items)
    × (vec_len l.sheets ≡ vec_len l.initial.sheets) × (vec_capacity l.sheets ≡ vec_capacity l.initial.sheets)
