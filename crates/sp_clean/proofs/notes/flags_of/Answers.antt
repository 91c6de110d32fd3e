use Rattle.std.proofs.Common.{sym, ◌∙◌}
use Rattle.sp_clean.proofs.NoteWalk.{noted-turn, noted-on}
use Rattle.sp_clean.proofs.notes.flags_of.Goals as goal

pub loop-at-preserved-then-turns : goal.loop-at-preserved-then-turns
loop-at-preserved-then-turns c =
    noted-turn _ _ _ _ _ _ _ _ _ c.loop-at.invariant (sym c.turns.ensures ∙ c.if-turns.true) c.in_ok-push.ensures.items c.in_ok-push-2.ensures.items c.opened-open.ensures

pub loop-at-preserved : goal.loop-at-preserved
loop-at-preserved c =
    noted-on _ _ _ _ _ _ _ c.loop-at.invariant c.loop-at-test.true (sym c.turns.ensures ∙ c.if-turns.false) c.in_ok-push-3.ensures.items
