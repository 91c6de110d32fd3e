use Rattle.std.proofs.Common.{[], ap, sym, ◌∙◌, arith}
use Rattle.std.proofs.lemmas.Option.{get_or_from_slice_get, slice_get_within}
use Rattle.spec_text.specs.Lines.{LineState}
use Rattle.sp_text.proofs.Places.{position-none, position-only}
use Rattle.sp_text.proofs.gap.Gap.searched.Goals as goal

pub returns-then-at-id : goal.returns-then-at-id
returns-then-at-id c =
    let lines = c.args.self.now.lines in
    let line = c.at.result.now in
    let place = c.loop-place.place in
    let is = ap (λ (l : LineState). l.id) (get_or_from_slice_get lines place line line c.at.ensures) ∙ sym (ap (λ (l : LineState). l.id) c.behind-self.view_is) ∙ c.if-at-id.true in
    sym (position-only lines place c.args.id line c.requires (slice_get_within lines place line c.at.ensures) is)

pub returns : goal.returns
returns c =
    let lines = c.args.self.now.lines in
    let d : LineState = record { id = 0; mark = 0; text = [] } in
    position-none lines c.args.id d (λ k low. c.loop-place.invariant k d (omega (arith, low, c.loop-place-test.false, c.len-place-end.ensures.len)))
