use Rattle.std.proofs.Common.{length, ◌-◌}
use Rattle.sp_clean.proofs.NoteWalk.{Noted}
use Rattle.sp_clean.proofs.notes.flags_of.Given as goal

abbrev pub invariant-loop-at : goal.invariant-loop-at
invariant-loop-at l = Noted l.bytes l.began l.inside l.«open» l.at l.flags.items

abbrev pub decreases-loop-at : goal.decreases-loop-at
decreases-loop-at l = length l.bytes - l.at
