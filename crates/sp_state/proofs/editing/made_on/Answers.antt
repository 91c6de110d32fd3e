use Rattle.std.proofs.Common.{◌≡◌, length, ap, subst, ◌∙◌}
use Rattle.std.specs.Prelude.{option_map}
use Rattle.spec_pages.specs.declared.Paper.{Paper}
use Rattle.spec_records.specs.Kept.{RecordsOf}
use Rattle.spec_state.specs.Keeping.{state_of}
use Rattle.spec_locked_pages.specs.Segments.{pages_of}
use Rattle.sp_text.specs.Gap.{text_of}
use Rattle.sp_reflow.specs.Filling.{FilledAtMost}
use Rattle.sp_reflow.specs.Starts.{many_more}
use Rattle.sp_state.proofs.editing.made_on.Goals as goal

-- The records on the new paper.
on-paper : (kept old : RecordsOf) (now paper : Paper) → kept ≡ old → now ≡ paper → (let new : RecordsOf = record kept { paper = now } in new) ≡ record old { paper = paper }
on-paper kept old now paper is same = ap (λ (it : Paper). let new : RecordsOf = record kept { paper = it } in new) same ∙ ap (λ (r : RecordsOf). let new : RecordsOf = record r { paper = paper } in new) is

pub returns-in-Ok-clause-records : goal.returns-in-Ok-clause-records
returns-in-Ok-clause-records g c =
    let kept : RecordsOf = record {
      round = c.records.inside.round;
      speakers = c.records.inside.speakers;
      paper = c.records.inside.paper;
      scenes = option_map (λ those. those.items) c.records.inside.scenes;
      pages = option_map (λ those. those.items) c.records.inside.pages;
    } in
    on-paper kept c.args.records.now c.replace-before.new.dest c.args.paper c.records.view_is c.replace-before.ensures.after

pub returns-in-Ok-clause-fills : goal.returns-in-Ok-clause-fills
returns-in-Ok-clause-fills g c =
    let kept : RecordsOf = record {
      round = c.records.inside.round;
      speakers = c.records.inside.speakers;
      paper = c.records.inside.paper;
      scenes = option_map (λ those. those.items) c.records.inside.scenes;
      pages = option_map (λ those. those.items) c.records.inside.pages;
    } in
    subst (λ (r : RecordsOf). g.S.Steps.fills c.make.new.steps ≡ many_more (g.S.Steps.fills c.args.steps.now) (length (pages_of (state_of (text_of c.args.text.now.lines) r))))
    (on-paper kept c.args.records.now c.replace-before.new.dest c.args.paper c.records.view_is c.replace-before.ensures.after) c.in-Ok.ensures.fills

pub returns-in-Ok-clause-at_most : goal.returns-in-Ok-clause-at_most
returns-in-Ok-clause-at_most g c =
    let kept : RecordsOf = record {
      round = c.records.inside.round;
      speakers = c.records.inside.speakers;
      paper = c.records.inside.paper;
      scenes = option_map (λ those. those.items) c.records.inside.scenes;
      pages = option_map (λ those. those.items) c.records.inside.pages;
    } in
    subst (λ (r : RecordsOf). FilledAtMost (g.S.Steps.fills c.args.steps.now) (g.S.Steps.fills c.make.new.steps) (length (pages_of (state_of (text_of c.args.text.now.lines) r))))
    (on-paper kept c.args.records.now c.replace-before.new.dest c.args.paper c.records.view_is c.replace-before.ensures.after) c.make.ensures.at_most

pub returns-in-Err-clause-at_most : goal.returns-in-Err-clause-at_most
returns-in-Err-clause-at_most g c =
    let kept : RecordsOf = record {
      round = c.records.inside.round;
      speakers = c.records.inside.speakers;
      paper = c.records.inside.paper;
      scenes = option_map (λ those. those.items) c.records.inside.scenes;
      pages = option_map (λ those. those.items) c.records.inside.pages;
    } in
    subst (λ (r : RecordsOf). FilledAtMost (g.S.Steps.fills c.args.steps.now) (g.S.Steps.fills c.make.new.steps) (length (pages_of (state_of (text_of c.args.text.now.lines) r))))
    (on-paper kept c.args.records.now c.replace-before.new.dest c.args.paper c.records.view_is c.replace-before.ensures.after) c.make.ensures.at_most
