use Rattle.std.proofs.Common.{◌≡◌, ◌∷◌, [], ◌++◌, ap, ◌∙◌}
use Rattle.spec_wire.specs.Commands as commands
use Rattle.spec_machine.specs.Machine.{Memory}
use Rattle.spec_machine.specs.Answers.{step_of}
use Rattle.sp_journal.specs.Entries.{Entries}
use Rattle.sp_state.specs.Entries.{EntryState, done_range, turned_range}
use Rattle.sp_desk.specs.Memories.{memory_by}
use Rattle.sp_desk.specs.Answers.{step_to}
use Rattle.sp_desk.proofs.DeskSteps.{IsStep, IsSameDesk, MayTurn, handed-back, may-turn, same-desk, unchanged, undone-step}
use Rattle.sp_state.proofs.EntryLaws.{same-turned_state, same-done_range}
use Rattle.sp_desk.proofs.desk.Desk.undo.Goals as goal

may : (c : goal.After-turn-arg-1) → MayTurn c.self.inside.script c.in-Some.entry
may c =
    may-turn done_range c.self.inside.script c.self.inside.journal.done c.take_done.new.self.done c.in-Some.entry c.in-Some.ensures.some c.self.invariant.can_undo (c.self.invariant.whole).done

pub turn-requires-clause-can : goal.turn-requires-clause-can
turn-requires-clause-can c = (may c).can

pub turn-requires-clause-whole : goal.turn-requires-clause-whole
turn-requires-clause-whole c = (may c).whole

stepped : (c : goal.After-edited_reply) → IsStep (memory_by c.self.inside.script c.self.inside.journal.done c.self.inside.journal.undone) commands.undo c.turn.new.self c.keep_undone.new.self.done c.keep_undone.new.self.undone
stepped c =
    let rest : c.take_done.new.self.undone ≡ c.self.inside.journal.undone = ap (λ (j : Entries EntryState). j.undone) c.in-Some.ensures.some_leaves in
    undone-step c.self.inside.script c.turn.new.self c.self.inside.journal.done c.self.inside.journal.undone c.take_done.new.self.done c.keep_undone.new.self.done c.keep_undone.new.self.undone c.in-Some.entry c.in-Ok.again
    c.self.invariant c.in-Some.ensures.some c.in-Ok.ensures.state c.in-Ok.ensures.back c.in-Ok.ensures.range
    (ap (λ (j : Entries EntryState). j.done) c.keep_undone.ensures)
    (ap (λ (j : Entries EntryState). j.undone) c.keep_undone.ensures ∙ ap (λ es. es ++ c.in-Ok.again ∷ []) rest)

pub invariant_of-self-in-Ok : goal.invariant_of-self-in-Ok
invariant_of-self-in-Ok c = (stepped c).desk

pub returns-in-Ok-clause-step : goal.returns-in-Ok-clause-step
returns-in-Ok-clause-step c =
    ap (step_to (memory_by c.turn.new.self c.keep_undone.new.self.done c.keep_undone.new.self.undone)) c.edited_reply.ensures.reply ∙ (stepped c).step
    ∙ ap (λ (m : Memory). step_of m commands.undo) c.self.view_is

back : (c : goal.After-keep_done) → IsSameDesk (memory_by c.self.inside.script c.self.inside.journal.done c.self.inside.journal.undone) c.turn.new.self c.keep_done.new.self.done c.keep_done.new.self.undone
back c =
    let script = c.self.inside.script in
    let rest : c.take_done.new.self.undone ≡ c.self.inside.journal.undone = ap (λ (j : Entries EntryState). j.undone) c.in-Some.ensures.some_leaves in
    let same = c.in-Err.ensures.handed_back in
    same-desk script c.turn.new.self c.self.inside.journal.done c.self.inside.journal.undone c.keep_done.new.self.done c.keep_done.new.self.undone c.in-Err.ensures.same
    (handed-back done_range script c.self.inside.journal.done c.take_done.new.self.done c.keep_done.new.self.done c.in-Some.entry c.in-Err.field-0.back c.in-Some.ensures.some (ap (λ (j : Entries EntryState). j.done) c.keep_done.ensures)
    c.in-Err.ensures.again (same-turned_state script c.in-Err.field-0.back c.in-Some.entry same) (same-done_range c.in-Err.field-0.back c.in-Some.entry same) c.self.invariant.can_undo)
    (unchanged turned_range script c.self.inside.journal.undone c.keep_done.new.self.undone (ap (λ (j : Entries EntryState). j.undone) c.keep_done.ensures ∙ rest) c.self.invariant.can_redo)
    c.self.invariant

pub invariant_of-self-in-Err : goal.invariant_of-self-in-Err
invariant_of-self-in-Err c = (back c).desk

pub returns-in-Err-clause-step : goal.returns-in-Err-clause-step
returns-in-Err-clause-step c = (back c).same ∙ c.self.view_is
