use Rattle.std.proofs.Common.{ℕ, ap, ◌∙◌}
use Rattle.spec_records.specs.Kept.{RecordsOf}
use Rattle.spec_wire.specs.Commands as commands
use Rattle.spec_wire.specs.Replies as replies
use Rattle.spec_machine.specs.Machine.{Memory}
use Rattle.spec_machine.specs.Answers.{record_count, step_of}
use Rattle.sp_journal.specs.Entries.{Entries}
use Rattle.sp_state.specs.Entries.{EntryState}
use Rattle.sp_desk.specs.Memories.{memory_by}
use Rattle.sp_desk.specs.Answers.{step_to}
use Rattle.sp_desk.proofs.DeskSteps.{IsStep, pages-step}
use Rattle.sp_desk.proofs.desk.Desk.lock_pages.Goals as goal

stepped : (c : goal.After-page_count) → IsStep (memory_by c.self.inside.script c.self.inside.journal.done c.self.inside.journal.undone) commands.lock_pages c.lock_pages.new.self c.clear.new.self.done c.clear.new.self.undone
stepped c =
    pages-step c.self.inside.script c.lock_pages.new.self c.self.inside.journal.done c.self.inside.journal.undone c.clear.new.self.done c.clear.new.self.undone c.self.invariant
    c.in_ok-lock_pages.ensures.0 c.in_ok-lock_pages.ensures.1 (ap (λ (j : Entries EntryState). j.done) c.clear.ensures) (ap (λ (j : Entries EntryState). j.undone) c.clear.ensures)

pub invariant_of-self-2 : goal.invariant_of-self-2
invariant_of-self-2 c = (stepped c).desk

pub returns-clause-step : goal.returns-clause-step
returns-clause-step c =
    ap (λ (n : ℕ). step_to (memory_by c.lock_pages.new.self c.clear.new.self.done c.clear.new.self.undone) (replies.pages n)) (c.page_count.ensures ∙ ap (λ (r : RecordsOf). record_count r.pages) c.records.ensures)
    ∙ (stepped c).step ∙ ap (λ (m : Memory). step_of m commands.lock_pages) c.self.view_is
