use Rattle.std.proofs.Common.{◌≡◌, ℕ, ◌+◌, List, Err, ap, sym, subst, ◌∙◌}
use Rattle.std.proofs.lemmas.Result.{err_from_is_err_and}
use Rattle.spec_records.specs.Kept.{RecordsOf}
use Rattle.spec_sheets.specs.Rounds.{round_name}
use Rattle.spec_state.specs.State.{State}
use Rattle.spec_wire.specs.Commands as commands
use Rattle.spec_wire.specs.Replies as replies
use Rattle.spec_machine.specs.Machine.{Memory}
use Rattle.spec_machine.specs.Answers.{step_of}
use Rattle.sp_journal.specs.Entries.{Entries}
use Rattle.sp_state.specs.Entries.{EntryState}
use Rattle.sp_desk.specs.Memories.{memory_by}
use Rattle.sp_desk.specs.Answers.{IsAnswer, opening_fault_of, step_to}
use Rattle.sp_desk.proofs.DeskSteps.{IsStep, refused-opening, round-step}
use Rattle.sp_desk.proofs.desk.Desk.next_round.Goals as goal

stepped : (c : goal.After-clear) → IsStep (memory_by c.self.inside.script c.self.inside.journal.done c.self.inside.journal.undone) commands.next_round c.next_round.new.self c.clear.new.self.done c.clear.new.self.undone
stepped c =
    round-step c.self.inside.script c.next_round.new.self c.self.inside.journal.done c.self.inside.journal.undone c.clear.new.self.done c.clear.new.self.undone c.self.invariant
    c.in_ok-next_round.ensures.0 c.in_ok-next_round.ensures.1 (ap (λ (j : Entries EntryState). j.done) c.clear.ensures) (ap (λ (j : Entries EntryState). j.undone) c.clear.ensures)

pub invariant_of-self-2 : goal.invariant_of-self-2
invariant_of-self-2 c = (stepped c).desk

pub returns-clause-step : goal.returns-clause-step
returns-clause-step c =
    let memory = memory_by c.next_round.new.self c.clear.new.self.done c.clear.new.self.undone in
    let next : c.round_after-round.result ≡ c.next_round.new.self.round =
    c.round_after-round.ensures ∙ ap (λ (r : RecordsOf). r.round + 1) c.records.ensures ∙ sym (ap (λ (s : State). s.round) c.in_ok-next_round.ensures.1) in
    ap (λ (text : List ℕ). step_to memory (replies.round text c.round_after-round.result)) c.in_ok-name.ensures
    ∙ ap (λ (n : ℕ). step_to memory (replies.round (round_name n) n)) next
    ∙ (stepped c).step ∙ ap (λ (m : Memory). step_of m commands.next_round) c.self.view_is

pub returns-in_err-next_round-clause-step : goal.returns-in_err-next_round-clause-step
returns-in_err-next_round-clause-step c =
    let script = c.self.inside.script in
    let journal = c.self.inside.journal in
    let fault = c.in_err-next_round.field-0.0 in
    let same : IsAnswer (memory_by script journal.done journal.undone) commands.next_round (memory_by script journal.done journal.undone) (Err (opening_fault_of fault)) =
    refused-opening (memory_by script journal.done journal.undone) commands.next_round fault c.in_err-next_round.ensures.0 in
    let moved : IsAnswer (memory_by script journal.done journal.undone) commands.next_round (memory_by c.next_round.new.self journal.done journal.undone) (Err (opening_fault_of fault)) =
    subst (λ (s : State). IsAnswer (memory_by script journal.done journal.undone) commands.next_round (memory_by s journal.done journal.undone) (Err (opening_fault_of fault))) (sym c.in_err-next_round.ensures.1) same in
    let p = err_from_is_err_and c.from_residual-in_err-next_round.result c.from_residual-in_err-next_round.ensures.1 in
    rw (p.1, p.2)
    (subst (λ (m : Memory). IsAnswer m commands.next_round (memory_by c.next_round.new.self journal.done journal.undone) (Err (opening_fault_of fault))) c.self.view_is moved)
