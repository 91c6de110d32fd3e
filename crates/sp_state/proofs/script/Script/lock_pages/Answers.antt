use Rattle.std.proofs.Common.{◌≡◌, subst, sym, ◌∙◌}
use Rattle.spec_state.specs.State.{State}
use Rattle.spec_state.specs.Keeping.{IsWhole, state_of}
use Rattle.spec_state.specs.Openings.{pages_locked}
use Rattle.spec_machine.specs.Refusals.{pages_refusal}
use Rattle.spec_locked_pages.specs.Segments.{pages_of}
use Rattle.sp_text.specs.Gap.{text_of}
use Rattle.sp_exchange.specs.Restoring.{TextOf}
use Rattle.sp_sheets.specs.Made.{IsMadeOf}
use Rattle.sp_sheets.specs.Openings.{IsOpening}
use Rattle.sp_sheets.proofs.OpeningPages.{pages-stay}
use Rattle.sp_state.proofs.script.Script.lock_pages.Goals as goal

pub returns : goal.returns
returns c =
    let done = c.lock_pages_made.ensures in
    let old : State = state_of (text_of c.self.inside.text.lines) c.self.inside.records in
    let P : TextOf → Type 0 = λ text. IsOpening (pages_refusal old) (pages_locked old) old (state_of (text_of text.lines) c.lock_pages_made.new.records) c.lock_pages_made.result in
    let new : State = state_of (text_of c.lock_pages_made.new.text.lines) c.lock_pages_made.new.records in
    subst (λ (s : State). IsOpening (pages_refusal s) (pages_locked s) s new c.lock_pages_made.result) c.self.view_is (subst P (sym done.text) done.opening)

pub invariant_of-self : goal.invariant_of-self
invariant_of-self c =
    let kept = c.self.invariant in
    let done = c.lock_pages_made.ensures in
    let records = c.lock_pages_made.new.records in
    let old : State = state_of (text_of c.self.inside.text.lines) c.self.inside.records in
    let new : State = state_of (text_of c.self.inside.text.lines) records in
    let P : TextOf → Type 0 = λ text. IsWhole (state_of (text_of text.lines) records) × IsMadeOf (state_of (text_of text.lines) records) c.self.inside.made × (c.self.inside.starts.pages.starts ≡ pages_of (state_of (text_of text.lines) records)) in
    let (whole, made, pages) = subst P (sym done.text) (done.whole, done.made, kept.2 ∙ sym (pages-stay old new c.lock_pages_made.result kept.0 done.opening)) in
    (whole, made, pages, tt)
