use Rattle.std.proofs.Common.{◌<◌, arith}
use Rattle.std.specs.Prelude.{option_map}
use Rattle.std.proofs.lemmas.Result.{err_from_is_err_and}
use Rattle.spec_records.specs.Kept.{RecordsOf}
use Rattle.spec_state.specs.Keeping.{state_of}
use Rattle.sp_text.specs.Gap.{text_of}
use Rattle.sp_sheets.proofs.OpeningMade.{made-AreSheets, made-within, round-answer, round-refused}
use Rattle.sp_sheets.proofs.locking.next_round_made.Goals as goal

pub extend_pages-requires-clause-sheets : goal.extend_pages-requires-clause-sheets
extend_pages-requires-clause-sheets c = made-AreSheets (state_of (text_of c.args.text.now.lines) c.args.records.now) c.args.made.now c.requires.whole c.requires.made

pub extend_pages-requires-clause-within : goal.extend_pages-requires-clause-within
extend_pages-requires-clause-within c = made-within (state_of (text_of c.args.text.now.lines) c.args.records.now) c.args.made.now c.requires.whole c.requires.made

pub returns-in_err-extend_pages-clause-opening : goal.returns-in_err-extend_pages-clause-opening
returns-in_err-extend_pages-clause-opening c =
    let text = text_of c.args.text.now.lines in
    let old = c.args.records.now in
    let it = c.args.made.now in
    let kept : RecordsOf = record {
      round = c.records.inside.round;
      speakers = c.records.inside.speakers;
      paper = c.records.inside.paper;
      scenes = option_map (λ those. those.items) c.records.inside.scenes;
      pages = option_map (λ those. those.items) c.records.inside.pages;
    } in
    let test = c.if-records-ge-ROUND_LIMIT.false in
    let rounds : kept.round < 99 = omega (arith, test) in
    let refused = round-refused text kept old it (option_map (λ those. those.items) c.extend_pages.new.pages) c.in_err-extend_pages.field-0.0 c.records.view_is c.requires.made rounds c.in_err-extend_pages.ensures in
    let p = err_from_is_err_and c.from_residual-in_err-extend_pages.result c.from_residual-in_err-extend_pages.ensures.1 in
    rw (p.1, p.2) refused

pub returns-clause-opening : goal.returns-clause-opening
returns-clause-opening c =
    let text = text_of c.args.text.now.lines in
    let old = c.args.records.now in
    let it = c.args.made.now in
    let kept : RecordsOf = record {
      round = c.records.inside.round;
      speakers = c.records.inside.speakers;
      paper = c.records.inside.paper;
      scenes = option_map (λ those. those.items) c.records.inside.scenes;
      pages = option_map (λ those. those.items) c.records.inside.pages;
    } in
    let test = c.if-records-ge-ROUND_LIMIT.false in
    let rounds : kept.round < 99 = omega (arith, test) in
    let opened = round-answer text kept old it (option_map (λ those. those.items) c.in_ok-scenes.scenes) (option_map (λ those. those.items) c.extend_pages.new.pages) c.records.view_is c.requires.whole c.requires.made rounds
    c.in_ok-scenes.ensures.records c.in_ok-scenes.ensures.few c.in_ok-extend_pages.ensures.1 c.in_ok-extend_pages.ensures.0 in
    (opened.free, opened.same)

pub returns-clause-whole : goal.returns-clause-whole
returns-clause-whole c =
    let text = text_of c.args.text.now.lines in
    let old = c.args.records.now in
    let it = c.args.made.now in
    let kept : RecordsOf = record {
      round = c.records.inside.round;
      speakers = c.records.inside.speakers;
      paper = c.records.inside.paper;
      scenes = option_map (λ those. those.items) c.records.inside.scenes;
      pages = option_map (λ those. those.items) c.records.inside.pages;
    } in
    let test = c.if-records-ge-ROUND_LIMIT.false in
    let rounds : kept.round < 99 = omega (arith, test) in
    (round-answer text kept old it (option_map (λ those. those.items) c.in_ok-scenes.scenes) (option_map (λ those. those.items) c.extend_pages.new.pages) c.records.view_is c.requires.whole c.requires.made rounds
    c.in_ok-scenes.ensures.records c.in_ok-scenes.ensures.few c.in_ok-extend_pages.ensures.1 c.in_ok-extend_pages.ensures.0).whole

pub returns-clause-made : goal.returns-clause-made
returns-clause-made c =
    let text = text_of c.args.text.now.lines in
    let old = c.args.records.now in
    let it = c.args.made.now in
    let kept : RecordsOf = record {
      round = c.records.inside.round;
      speakers = c.records.inside.speakers;
      paper = c.records.inside.paper;
      scenes = option_map (λ those. those.items) c.records.inside.scenes;
      pages = option_map (λ those. those.items) c.records.inside.pages;
    } in
    let test = c.if-records-ge-ROUND_LIMIT.false in
    let rounds : kept.round < 99 = omega (arith, test) in
    (round-answer text kept old it (option_map (λ those. those.items) c.in_ok-scenes.scenes) (option_map (λ those. those.items) c.extend_pages.new.pages) c.records.view_is c.requires.whole c.requires.made rounds
    c.in_ok-scenes.ensures.records c.in_ok-scenes.ensures.few c.in_ok-extend_pages.ensures.1 c.in_ok-extend_pages.ensures.0).made
