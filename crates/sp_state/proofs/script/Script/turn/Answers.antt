use Rattle.std.proofs.Common.{ap, ◌∙◌, subst}
use Rattle.std.proofs.lemmas.Result.{err_from_is_err_and}
use Rattle.spec_state.specs.State.{State, text_of as state_text}
use Rattle.spec_state.specs.Keeping.{IsWhole, state_of}
use Rattle.sp_text.specs.Gap.{text_of}
use Rattle.sp_state.specs.Entries.{CanTurn, HoldsFew, Leads, turned_state}
use Rattle.sp_state.proofs.script.Script.turn.Goals as goal

pub returns-in_err-other : goal.returns-in_err-other
returns-in_err-other c =
    let left = c.in_err-other.ensures in
    let before = c.self.view_is in
    let p = err_from_is_err_and c.from_residual.result c.from_residual.ensures.1 in
    rw (p.1, p.2) (record {
      whole = subst IsWhole c.self.view_is c.self.invariant.0;
      state = tt;
      back = tt;
      range = tt;
      few = λ held. tt;
      same = left.same ∙ before;
      handed_back = left.handed_back;
      again = subst (λ (state : State). CanTurn state c.in_err-other.field-0.0.back) before left.again;
    })

pub returns : goal.returns
returns c =
    let new : State = state_of (text_of c.turn_made.new.text.lines) c.turn_made.new.records in
    let done = c.in_ok-other.ensures in
    let before = c.self.view_is in
    record {
      whole = subst IsWhole c.self.view_is c.self.invariant.0;
      state = done.state ∙ ap (λ (state : State). turned_state state c.args.entry) before;
      back = subst (λ (state : State). Leads new state c.in_ok-other.other) before done.back;
      range = done.range;
      few = subst (λ (state : State). HoldsFew (state_text state) c.args.entry → HoldsFew (state_text new) c.in_ok-other.other) before done.few;
      same = tt;
      handed_back = tt;
      again = tt;
    }
