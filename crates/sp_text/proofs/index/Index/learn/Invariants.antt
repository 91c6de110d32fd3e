use Rattle.std.proofs.Common.{◌≡◌, ◌+◌, ◌-◌, ◌≤◌, length, take}
use Rattle.spec_text.specs.Edits.{line_ids}
use Rattle.sp_text.specs.Index.{Indexes, use_count}
use Rattle.sp_text.proofs.index.Index.learn.Given as goal

abbrev pub invariant-loop-at : goal.invariant-loop-at
invariant-loop-at l =
    Indexes l.side (take l.at (line_ids l.lines)) (line_ids l.others) l.self × (length l.self ≡ length l.initial.self) × (use_count l.self ≤ use_count l.initial.self + (l.at - l.from)) × (l.from ≤ l.at)
