use Rattle.std.proofs.Common.{◌≡◌, None, Ok, Err, Result, OnErr, OnOk, ap, sym, ◌∙◌, subst}
use Rattle.std.proofs.lemmas.Result.{err_from_is_err_and}
use Rattle.spec_text.specs.Edits.{refusal_of, replacement_of}
use Rattle.spec_text.specs.Ranges.{range_of}
use Rattle.spec_state.specs.State.{State, text_of as state_text}
use Rattle.spec_state.specs.Changes.{edited_state}
use Rattle.spec_state.specs.Keeping.{IsWhole, state_of}
use Rattle.sp_text.specs.Changing.{Refuses, edit_of}
use Rattle.sp_text.specs.Gap.{text_of}
use Rattle.sp_exchange.specs.Reads.{IsRefused}
use Rattle.sp_state.specs.Entries.{EntryState, HoldsWindow, Leads}
use Rattle.sp_state.specs.Fills.{EditFills, EditFillsAtMost}
use Rattle.sp_text_entry.specs.Reads.{EditReads, EditReadsAtMost}
use Rattle.sp_state.proofs.script.Script.edit.Goals as goal

whole-by : {T E : Type 0} (result : Result T E) (old new : State) → IsWhole old → OnOk result (IsWhole new) → OnErr result (new ≡ old) → IsWhole new
whole-by (Ok value) old new whole done same = done
whole-by (Err error) old new whole done same = subst IsWhole (sym same) whole

pub invariant_of-self : goal.invariant_of-self
invariant_of-self g c =
    let made = c.edit_made.ensures in
    let before = c.self.view_is in
    let whole = subst IsWhole (sym before) (subst IsWhole c.self.view_is c.self.invariant.0) in
    (whole-by c.edit_made.result _ _ whole made.whole made.same, made.made, made.pages, made.firsts)

pub returns-in_err-entry : goal.returns-in_err-entry
returns-in_err-entry g c =
    let edit = edit_of c.args.edit in
    let reads = g.S.Steps.reads c.args.steps.now in
    let fills = g.S.Steps.fills c.args.steps.now in
    let left = c.in_err-entry.ensures in
    let made = c.edit_made.ensures in
    let before = c.self.view_is in
    let p = err_from_is_err_and c.from_residual.result c.from_residual.ensures.1 in
    rw (p.1, p.2) (record {
      whole = subst IsWhole c.self.view_is c.self.invariant.0;
      refuses = subst (λ (state : State). Refuses {T = EntryState} (refusal_of (state_text state) edit) (Err c.in_err-entry.field-0.0)) before left.refuses;
      state = tt;
      back = tt;
      range = tt;
      window = tt;
      few = tt;
      same = left.same ∙ before;
      reads = tt;
      at_most = subst (λ (state : State). EditReadsAtMost state (replacement_of state.lines edit) reads (g.S.Steps.reads c.edit_made.new.steps)) before made.at_most;
      unread = subst (λ (state : State). IsRefused (refusal_of (state_text state) edit) → g.S.Steps.reads c.edit_made.new.steps ≡ reads) before made.unread;
      fills = tt;
      fills_at_most = subst (λ (state : State). EditFillsAtMost state (replacement_of state.lines edit) fills (g.S.Steps.fills c.edit_made.new.steps)) before made.fills_at_most;
      unfilled = subst (λ (state : State). IsRefused (refusal_of (state_text state) edit) → g.S.Steps.fills c.edit_made.new.steps ≡ fills) before made.unfilled;
    })

pub returns : goal.returns
returns g c =
    let new : State = state_of (text_of c.edit_made.new.text.lines) c.edit_made.new.records in
    let edit = edit_of c.args.edit in
    let reads = g.S.Steps.reads c.args.steps.now in
    let fills = g.S.Steps.fills c.args.steps.now in
    let done = c.in_ok-entry.ensures in
    let made = c.edit_made.ensures in
    let before = c.self.view_is in
    record {
      whole = subst IsWhole c.self.view_is c.self.invariant.0;
      refuses = subst (λ (state : State). refusal_of (state_text state) edit ≡ None) before done.refuses;
      state = done.state ∙ ap (λ (state : State). edited_state state (replacement_of state.lines edit)) before;
      back = subst (λ (state : State). Leads new state c.in_ok-entry.entry) before done.back;
      range = done.range ∙ ap (λ (state : State). range_of (replacement_of state.lines edit)) before;
      window = subst (λ (state : State). HoldsWindow (state_text state) (state_text new) (range_of (replacement_of state.lines edit)) c.in_ok-entry.entry) before done.window;
      few = done.few;
      same = tt;
      reads = subst (λ (state : State). EditReads state (replacement_of state.lines edit) reads (g.S.Steps.reads c.edit_made.new.steps)) before done.reads;
      at_most = subst (λ (state : State). EditReadsAtMost state (replacement_of state.lines edit) reads (g.S.Steps.reads c.edit_made.new.steps)) before made.at_most;
      unread = subst (λ (state : State). IsRefused (refusal_of (state_text state) edit) → g.S.Steps.reads c.edit_made.new.steps ≡ reads) before made.unread;
      fills = subst (λ (state : State). EditFills state (replacement_of state.lines edit) fills (g.S.Steps.fills c.edit_made.new.steps)) before done.fills;
      fills_at_most = subst (λ (state : State). EditFillsAtMost state (replacement_of state.lines edit) fills (g.S.Steps.fills c.edit_made.new.steps)) before made.fills_at_most;
      unfilled = subst (λ (state : State). IsRefused (refusal_of (state_text state) edit) → g.S.Steps.fills c.edit_made.new.steps ≡ fills) before made.unfilled;
    }
