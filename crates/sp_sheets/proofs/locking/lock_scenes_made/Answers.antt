use Rattle.std.proofs.Common.{◌≡◌, ap, sym, subst, ◌∙◌}
use Rattle.std.specs.Prelude.{is_some, option_map}
use Rattle.spec_labels.specs.Scenes.{AreHeadings, locked_labels, locked_records}
use Rattle.spec_records.specs.Kept.{RecordsOf}
use Rattle.spec_state.specs.Headings.{headings_of}
use Rattle.sp_text.specs.Gap.{text_of}
use Rattle.sp_layout.specs.Kept.{laid_of}
use Rattle.sp_sheets.specs.Made.{MadeOf, NumberedOf}
use Rattle.sp_sheets.proofs.OpeningMade.{headings-can, scenes-answer, some-map}
use Rattle.sp_sheets.proofs.locking.lock_scenes_made.Goals as goal

pub first_scenes-requires : goal.first_scenes-requires
first_scenes-requires c =
    record { headings = subst AreHeadings (sym c.deref.ensures.value) c.in_ok-headings.ensures.are }

pub returns-clause-whole : goal.returns-clause-whole
returns-clause-whole c =
    let text = text_of c.args.text.now.lines in
    let kept : RecordsOf = record {
      round = c.records.inside.round;
      speakers = c.records.inside.speakers;
      paper = c.records.inside.paper;
      scenes = option_map (λ those. those.items) c.records.inside.scenes;
      pages = option_map (λ those. those.items) c.records.inside.pages;
    } in
    let numbered : NumberedOf = record {
      labels = option_map (λ those. those.items) c.numbered.inside.labels;
      title_starts = c.numbered.inside.title_starts.items;
      sheets = c.numbered.inside.sheets.items;
    } in
    let it : MadeOf = record { layout = laid_of c.made.inside.layout; numbered = numbered } in
    let same = ap (λ (n : NumberedOf). let those : MadeOf = record { layout = laid_of c.made.inside.layout; numbered = n } in those) c.numbered.view_is ∙ c.made.view_is in
    let headings : c.deref.result.now ≡ headings_of c.args.text.now.lines.lines = c.deref.ensures.value ∙ c.in_ok-headings.ensures.headings in
    let locked = some-map (λ those. those.items) c.records.inside.scenes ∙ ap (λ (r : RecordsOf). is_some r.scenes) c.records.view_is in
    (scenes-answer text kept c.args.records.now it c.args.made.now c.in_ok-scenes.scenes.items c.in_ok-scenes.labels.items c.records.view_is same c.requires.whole c.requires.made
    (headings-can text c.args.records.now (is_some c.records.inside.scenes) c.deref.result.now locked headings c.in_ok-scenes.ensures.can)
    (c.in_ok-scenes.ensures.records ∙ ap locked_records headings) (c.in_ok-scenes.ensures.labels ∙ ap (locked_labels c.in_ok-scenes.scenes.items) headings)).whole

pub returns-clause-made : goal.returns-clause-made
returns-clause-made c =
    let text = text_of c.args.text.now.lines in
    let kept : RecordsOf = record {
      round = c.records.inside.round;
      speakers = c.records.inside.speakers;
      paper = c.records.inside.paper;
      scenes = option_map (λ those. those.items) c.records.inside.scenes;
      pages = option_map (λ those. those.items) c.records.inside.pages;
    } in
    let numbered : NumberedOf = record {
      labels = option_map (λ those. those.items) c.numbered.inside.labels;
      title_starts = c.numbered.inside.title_starts.items;
      sheets = c.numbered.inside.sheets.items;
    } in
    let it : MadeOf = record { layout = laid_of c.made.inside.layout; numbered = numbered } in
    let same = ap (λ (n : NumberedOf). let those : MadeOf = record { layout = laid_of c.made.inside.layout; numbered = n } in those) c.numbered.view_is ∙ c.made.view_is in
    let headings : c.deref.result.now ≡ headings_of c.args.text.now.lines.lines = c.deref.ensures.value ∙ c.in_ok-headings.ensures.headings in
    let locked = some-map (λ those. those.items) c.records.inside.scenes ∙ ap (λ (r : RecordsOf). is_some r.scenes) c.records.view_is in
    (scenes-answer text kept c.args.records.now it c.args.made.now c.in_ok-scenes.scenes.items c.in_ok-scenes.labels.items c.records.view_is same c.requires.whole c.requires.made
    (headings-can text c.args.records.now (is_some c.records.inside.scenes) c.deref.result.now locked headings c.in_ok-scenes.ensures.can)
    (c.in_ok-scenes.ensures.records ∙ ap locked_records headings) (c.in_ok-scenes.ensures.labels ∙ ap (locked_labels c.in_ok-scenes.scenes.items) headings)).made
