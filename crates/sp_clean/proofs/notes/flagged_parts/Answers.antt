use Rattle.sp_clean.proofs.NoteWalk.{flagged-more}
use Rattle.sp_clean.proofs.notes.flagged_parts.Goals as goal

pub loop-span-preserved : goal.loop-span-preserved
loop-span-preserved c = flagged-more _ _ _ _ _ _ _ c.loop-span.invariant c.loop-span-test.true c.in_ok-push_flagged.ensures
