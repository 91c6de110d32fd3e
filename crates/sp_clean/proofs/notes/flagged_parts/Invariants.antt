use Rattle.sp_clean.proofs.NoteWalk.{Flagged}
use Rattle.sp_clean.proofs.notes.flagged_parts.Given as goal

abbrev pub invariant-loop-span : goal.invariant-loop-span
invariant-loop-span l = Flagged l.kept l.flags l.span-index l.used l.parts.items
