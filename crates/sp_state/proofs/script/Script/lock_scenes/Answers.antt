use Rattle.std.proofs.Common.{subst, sym, ◌∙◌}
use Rattle.spec_state.specs.State.{State}
use Rattle.spec_state.specs.Keeping.{state_of}
use Rattle.spec_state.specs.Openings.{scenes_locked}
use Rattle.spec_machine.specs.Refusals.{scenes_refusal}
use Rattle.sp_text.specs.Gap.{text_of}
use Rattle.sp_sheets.specs.Openings.{IsOpening}
use Rattle.sp_sheets.proofs.OpeningPages.{scenes-stay}
use Rattle.sp_state.proofs.script.Script.lock_scenes.Goals as goal

pub returns : goal.returns
returns c =
    let new : State = state_of (text_of c.self.inside.text.lines) c.lock_scenes_made.new.records in
    subst (λ (s : State). IsOpening (scenes_refusal s) (scenes_locked s) s new c.lock_scenes_made.result) c.self.view_is c.lock_scenes_made.ensures.opening

pub invariant_of-self : goal.invariant_of-self
invariant_of-self c =
    let old : State = state_of (text_of c.self.inside.text.lines) c.self.inside.records in
    let new : State = state_of (text_of c.self.inside.text.lines) c.lock_scenes_made.new.records in
    let done = c.lock_scenes_made.ensures in
    (done.whole, done.made, c.self.invariant.2 ∙ sym (scenes-stay old new c.lock_scenes_made.result done.opening), tt)
