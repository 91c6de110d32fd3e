use Rattle.std.proofs.Common.{◌≡◌, ◌++◌, take, drop, vec_len, vec_capacity}
use Rattle.spec_text.specs.Edits.{relabelled}
use Rattle.sp_text.proofs.sides.relabel_lines.Given as goal

abbrev pub invariant-loop-at : goal.invariant-loop-at
invariant-loop-at l =
    (l.lines.items ≡ relabelled (take l.at l.initial.lines.items) (take l.at l.ids) (take l.at l.marks) ++ drop l.at l.initial.lines.items)
    × (vec_len l.lines ≡ vec_len l.initial.lines) × (vec_capacity l.lines ≡ vec_capacity l.initial.lines)
