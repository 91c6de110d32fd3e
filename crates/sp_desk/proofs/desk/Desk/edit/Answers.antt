use Rattle.std.proofs.Common.{◌≡◌, ◌∷◌, [], ◌++◌, ap, refl, rules, subst, ◌∙◌}
use Rattle.spec_text.specs.Edits.{refusal_of, replacement_of}
use Rattle.spec_state.specs.State.{State, text_of}
use Rattle.spec_wire.specs.Commands as commands
use Rattle.spec_machine.specs.Machine.{Memory}
use Rattle.spec_machine.specs.Answers.{step_of}
use Rattle.sp_journal.specs.Entries.{Entries}
use Rattle.sp_exchange.proofs.ReadLaws.{none-read}
use Rattle.sp_exchange.specs.Reads.{IsRefused}
use Rattle.sp_state.proofs.FillLaws.{none-filled}
use Rattle.sp_text_entry.specs.Reads.{EditReads, EditReadsAtMost}
use Rattle.sp_state.specs.Entries.{EntryState}
use Rattle.sp_state.specs.Fills.{EditFills, EditFillsAtMost}
use Rattle.sp_text.specs.Changing.{edit_of}
use Rattle.sp_desk.specs.Memories.{memory_by}
use Rattle.sp_desk.specs.Answers.{IsAnswer, step_to}
use Rattle.sp_desk.proofs.DeskSteps.{IsStep, edit-told, edited-step}
use Rattle.sp_desk.proofs.desk.Desk.edit.Given.{Over}
use Rattle.sp_desk.proofs.desk.Desk.edit.Goals as goal

stepped : (g : Over) (c : goal.After-edited_reply g) → IsStep (memory_by c.self.inside.script c.self.inside.journal.done c.self.inside.journal.undone) (commands.edit (edit_of c.args.edit)) c.edit.new.self c.push.new.self.done c.push.new.self.undone
stepped g c =
    let done : c.push.new.self.done ≡ c.self.inside.journal.done ++ c.in_ok-entry.entry ∷ [] =
    ap (λ (j : Entries EntryState). j.done) c.push.ensures ∙ ap (λ (j : Entries EntryState). j.done ++ c.in_ok-entry.entry ∷ []) c.reserve_one.ensures.entries in
    edited-step c.self.inside.script c.edit.new.self c.self.inside.journal.done c.self.inside.journal.undone c.push.new.self.done c.push.new.self.undone c.in_ok-entry.entry (edit_of c.args.edit) c.self.invariant
    c.in_ok-entry.ensures.refuses c.in_ok-entry.ensures.state c.edited_reply.ensures.text c.in_ok-entry.ensures.back c.in_ok-entry.ensures.range done (ap (λ (j : Entries EntryState). j.undone) c.push.ensures)

pub invariant_of-self-2 : goal.invariant_of-self-2
invariant_of-self-2 g c = (stepped g c).desk

pub returns-clause-step : goal.returns-clause-step
returns-clause-step g c =
    ap (step_to (memory_by c.edit.new.self c.push.new.self.done c.push.new.self.undone)) c.edited_reply.ensures.reply ∙ (stepped g c).step
    ∙ ap (λ (m : Memory). step_of m (commands.edit (edit_of c.args.edit))) c.self.view_is

pub returns-in_err-entry-clause-fills : goal.returns-in_err-entry-clause-fills
returns-in_err-entry-clause-fills g c = record {
  exact = search rules;
  at_most = subst (λ (m : Memory). EditFillsAtMost m.state (replacement_of m.state.lines (edit_of c.args.edit)) (g.S.Steps.fills c.args.steps.now) (g.S.Steps.fills c.edit.new.steps)) c.self.view_is c.edit.ensures.fills_at_most;
  unfilled = subst (λ (m : Memory). IsRefused (refusal_of (text_of m.state) (edit_of c.args.edit)) → g.S.Steps.fills c.edit.new.steps ≡ g.S.Steps.fills c.args.steps.now) c.self.view_is c.edit.ensures.unfilled;
}

pub returns-clause-fills : goal.returns-clause-fills
returns-clause-fills g c = record {
  exact = subst (λ (m : Memory). EditFills m.state (replacement_of m.state.lines (edit_of c.args.edit)) (g.S.Steps.fills c.args.steps.now) (g.S.Steps.fills c.edit.new.steps)) c.self.view_is c.in_ok-entry.ensures.fills;
  at_most = subst (λ (m : Memory). EditFillsAtMost m.state (replacement_of m.state.lines (edit_of c.args.edit)) (g.S.Steps.fills c.args.steps.now) (g.S.Steps.fills c.edit.new.steps)) c.self.view_is c.edit.ensures.fills_at_most;
  unfilled = subst (λ (m : Memory). IsRefused (refusal_of (text_of m.state) (edit_of c.args.edit)) → g.S.Steps.fills c.edit.new.steps ≡ g.S.Steps.fills c.args.steps.now) c.self.view_is c.edit.ensures.unfilled;
}

pub returns-in_err-reserve_one-clause-reads : goal.returns-in_err-reserve_one-clause-reads
returns-in_err-reserve_one-clause-reads g c = record { exact = search rules; at_most = none-read _ _ _ _; unread = λ _. refl }

pub returns-in_err-reserve_one-clause-fills : goal.returns-in_err-reserve_one-clause-fills
returns-in_err-reserve_one-clause-fills g c = record { exact = search rules; at_most = none-filled _ _ _ _; unfilled = λ _. refl }

pub returns-in_err-entry-clause-reads : goal.returns-in_err-entry-clause-reads
returns-in_err-entry-clause-reads g c = record {
  exact = search rules;
  at_most = subst (λ (m : Memory). EditReadsAtMost m.state (replacement_of m.state.lines (edit_of c.args.edit)) (g.S.Steps.reads c.args.steps.now) (g.S.Steps.reads c.edit.new.steps)) c.self.view_is c.edit.ensures.at_most;
  unread = subst (λ (m : Memory). IsRefused (refusal_of (text_of m.state) (edit_of c.args.edit)) → g.S.Steps.reads c.edit.new.steps ≡ g.S.Steps.reads c.args.steps.now) c.self.view_is c.edit.ensures.unread;
}

pub returns-clause-reads : goal.returns-clause-reads
returns-clause-reads g c = record {
  exact = subst (λ (m : Memory). EditReads m.state (replacement_of m.state.lines (edit_of c.args.edit)) (g.S.Steps.reads c.args.steps.now) (g.S.Steps.reads c.edit.new.steps)) c.self.view_is c.in_ok-entry.ensures.reads;
  at_most = subst (λ (m : Memory). EditReadsAtMost m.state (replacement_of m.state.lines (edit_of c.args.edit)) (g.S.Steps.reads c.args.steps.now) (g.S.Steps.reads c.edit.new.steps)) c.self.view_is c.edit.ensures.at_most;
  unread = subst (λ (m : Memory). IsRefused (refusal_of (text_of m.state) (edit_of c.args.edit)) → g.S.Steps.reads c.edit.new.steps ≡ g.S.Steps.reads c.args.steps.now) c.self.view_is c.edit.ensures.unread;
}

pub returns-in_err-entry-clause-step : goal.returns-in_err-entry-clause-step
returns-in_err-entry-clause-step g c =
    let same = ap (λ (s : State). memory_by s c.reserve_one.new.self.done c.reserve_one.new.self.undone) c.in_err-entry.ensures.same
    ∙ ap (λ (j : Entries EntryState). memory_by c.self.inside.script j.done j.undone) c.reserve_one.ensures.entries in
    subst (λ (m : Memory). IsAnswer m (commands.edit (edit_of c.args.edit)) (memory_by c.edit.new.self c.reserve_one.new.self.done c.reserve_one.new.self.undone) c.from_residual-in_err-entry.result) c.self.view_is
    (edit-told (memory_by c.self.inside.script c.self.inside.journal.done c.self.inside.journal.undone) _ (edit_of c.args.edit) c.in_err-entry.field-0.0 _ c.in_err-entry.ensures.refuses same c.from_residual-in_err-entry.ensures.1)
