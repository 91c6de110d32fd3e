use Rattle.std.proofs.Common.{◌≡◌, ◌-◌, length, take}
use Rattle.spec_text.specs.Edits.{line_ids}
use Rattle.sp_text.specs.declared.index.Side.TheVariants.{Front}
use Rattle.sp_text.specs.Index.{Indexes}
use Rattle.sp_text.proofs.sides.exchange_told.Given as goal

abbrev pub invariant-loop-done : goal.invariant-loop-done
invariant-loop-done l =
    Indexes Front (line_ids l.front.items) (take (length l.back.items - l.done) (line_ids l.back.items)) l.index × (length l.index ≡ length l.initial.index)
