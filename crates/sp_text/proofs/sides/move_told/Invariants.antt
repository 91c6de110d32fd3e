use Rattle.std.proofs.Common.{◌≡◌, ◌+◌, ◌++◌, length, reverse, vec_len, vec_capacity}
use Rattle.spec_text.specs.Edits.{line_ids}
use Rattle.sp_text.specs.Index.{Indexes}
use Rattle.sp_text.proofs.sides.move_told.Given as goal

abbrev pub invariant-loop-done : goal.invariant-loop-done
invariant-loop-done l =
    Indexes l.side (line_ids l.to.items) (line_ids l.from.items) l.index × (l.to.items ++ reverse l.from.items ≡ l.initial.to.items ++ reverse l.initial.from.items)
    × (vec_len l.from + l.done ≡ vec_len l.initial.from) × (vec_len l.to ≡ vec_len l.initial.to + l.done)
    × (vec_capacity l.from ≡ vec_capacity l.initial.from) × (vec_capacity l.to ≡ vec_capacity l.initial.to) × (length l.index ≡ length l.initial.index)
