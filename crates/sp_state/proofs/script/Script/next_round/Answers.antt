use Rattle.std.proofs.Common.{subst, sym, ◌∙◌}
use Rattle.spec_state.specs.State.{State}
use Rattle.spec_state.specs.Keeping.{state_of}
use Rattle.spec_state.specs.Openings.{round_begun}
use Rattle.spec_machine.specs.Refusals.{round_refusal}
use Rattle.sp_text.specs.Gap.{text_of}
use Rattle.sp_sheets.specs.Openings.{IsOpening}
use Rattle.sp_sheets.proofs.OpeningPages.{round-stay}
use Rattle.sp_state.proofs.script.Script.next_round.Goals as goal

pub returns : goal.returns
returns c =
    let new : State = state_of (text_of c.self.inside.text.lines) c.next_round_made.new.records in
    subst (λ (s : State). IsOpening (round_refusal s) (round_begun s) s new c.next_round_made.result) c.self.view_is c.next_round_made.ensures.opening

pub invariant_of-self : goal.invariant_of-self
invariant_of-self c =
    let old : State = state_of (text_of c.self.inside.text.lines) c.self.inside.records in
    let new : State = state_of (text_of c.self.inside.text.lines) c.next_round_made.new.records in
    let done = c.next_round_made.ensures in
    (done.whole, done.made, c.self.invariant.2 ∙ sym (round-stay old new c.next_round_made.result c.self.invariant.0 done.opening), tt)
