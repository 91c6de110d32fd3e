use Rattle.std.proofs.Common.{◌≡◌, ◌<◌, true, not, None, refl, length, ap, sym, ◌∙◌, arith}
use Rattle.std.specs.Prelude.{is_some, option_map}
use Rattle.std.proofs.lemmas.Result.{err_from_is_err_and}
use Rattle.spec_records.specs.Kept.{RecordsOf}
use Rattle.spec_state.specs.Keeping.{state_of}
use Rattle.spec_state.specs.StateSheets.{rows_in}
use Rattle.spec_machine.proofs.RefusalLaws.{pages-none}
use Rattle.sp_layout.specs.Bodies.{row_count}
use Rattle.sp_text.specs.Gap.{text_of}
use Rattle.sp_layout.specs.Kept.{KeptOf}
use Rattle.sp_sheets.specs.Made.{MadeOf}
use Rattle.sp_sheets.proofs.OpeningMade.{full-answer, full-pages, made-AreSheets, made-within, none-map, pages-answer, rows-answer, some-map}
use Rattle.sp_sheets.proofs.locking.lock_pages_made.Goals as goal

pub returns-then-rows-eq0-clause-opening : goal.returns-then-rows-eq0-clause-opening
returns-then-rows-eq0-clause-opening c =
    let text = text_of c.args.text.now.lines in
    let old = c.args.records.now in
    let it = c.args.made.now in
    let kept : RecordsOf = record {
      round = c.records.inside.round;
      speakers = c.records.inside.speakers;
      paper = c.records.inside.paper;
      scenes = option_map (λ those. those.items) c.records.inside.scenes;
      pages = option_map (λ those. those.items) c.records.inside.pages;
    } in
    let scened : is_some kept.scenes ≡ true = sym (some-map (λ those. those.items) c.records.inside.scenes) ∙ c.is_none.ensures ∙ ap not c.if-is_none.false in
    let unlocked : kept.pages ≡ None = none-map (λ those. those.items) c.records.inside.pages (sym c.is_some.ensures ∙ c.if-is_some.false) in
    let count = c.rows.ensures in
    let body = ap (λ (k : KeptOf). row_count k.body.elements) c.layout.view_is ∙ ap (λ (m : MadeOf). row_count m.layout.body.elements) c.made.view_is in
    let rows = rows-answer text old it c.requires.made in
    let test = c.if-rows-eq0.true in
    let none : length (rows_in (state_of text old)) ≡ 0 = omega (arith, count, body, rows, test) in
    (pages-none (state_of text old) (sym (ap (λ (r : RecordsOf). is_some r.scenes) c.records.view_is) ∙ scened) (sym (ap (λ (r : RecordsOf). r.pages) c.records.view_is) ∙ unlocked) none, refl)

pub returns-in_err-scenes-clause-opening : goal.returns-in_err-scenes-clause-opening
returns-in_err-scenes-clause-opening c =
    let text = text_of c.args.text.now.lines in
    let old = c.args.records.now in
    let it = c.args.made.now in
    let kept : RecordsOf = record {
      round = c.records.inside.round;
      speakers = c.records.inside.speakers;
      paper = c.records.inside.paper;
      scenes = option_map (λ those. those.items) c.records.inside.scenes;
      pages = option_map (λ those. those.items) c.records.inside.pages;
    } in
    let scened : is_some kept.scenes ≡ true = sym (some-map (λ those. those.items) c.records.inside.scenes) ∙ c.is_none.ensures ∙ ap not c.if-is_none.false in
    let unlocked : kept.pages ≡ None = none-map (λ those. those.items) c.records.inside.pages (sym c.is_some.ensures ∙ c.if-is_some.false) in
    let count = c.rows.ensures in
    let body = ap (λ (k : KeptOf). row_count k.body.elements) c.layout.view_is ∙ ap (λ (m : MadeOf). row_count m.layout.body.elements) c.made.view_is in
    let test = c.if-rows-eq0.false in
    let some : 0 < row_count it.layout.body.elements = omega (arith, count, body, test) in
    let rows = rows-answer text old it c.requires.made in
    let more : 0 < length (rows_in (state_of text old)) = omega (arith, some, rows) in
    let reason = full-answer text kept old c.in_err-scenes.field-0.0 c.records.view_is scened unlocked more c.in_err-scenes.ensures.full in
    let p = err_from_is_err_and c.from_residual.result c.from_residual.ensures.1 in
    rw (p.1, p.2) (reason, refl)

pub first_pages-requires-clause-sheets : goal.first_pages-requires-clause-sheets
first_pages-requires-clause-sheets c = made-AreSheets (state_of (text_of c.args.text.now.lines) c.args.records.now) c.args.made.now c.requires.whole c.requires.made

pub first_pages-requires-clause-within : goal.first_pages-requires-clause-within
first_pages-requires-clause-within c = made-within (state_of (text_of c.args.text.now.lines) c.args.records.now) c.args.made.now c.requires.whole c.requires.made

pub returns-in_err-pages-clause-opening : goal.returns-in_err-pages-clause-opening
returns-in_err-pages-clause-opening c =
    let text = text_of c.args.text.now.lines in
    let old = c.args.records.now in
    let it = c.args.made.now in
    let kept : RecordsOf = record {
      round = c.records.inside.round;
      speakers = c.records.inside.speakers;
      paper = c.records.inside.paper;
      scenes = option_map (λ those. those.items) c.records.inside.scenes;
      pages = option_map (λ those. those.items) c.records.inside.pages;
    } in
    let scened : is_some kept.scenes ≡ true = sym (some-map (λ those. those.items) c.records.inside.scenes) ∙ c.is_none.ensures ∙ ap not c.if-is_none.false in
    let unlocked : kept.pages ≡ None = none-map (λ those. those.items) c.records.inside.pages (sym c.is_some.ensures ∙ c.if-is_some.false) in
    let count = c.rows.ensures in
    let body = ap (λ (k : KeptOf). row_count k.body.elements) c.layout.view_is ∙ ap (λ (m : MadeOf). row_count m.layout.body.elements) c.made.view_is in
    let test = c.if-rows-eq0.false in
    let some : 0 < row_count it.layout.body.elements = omega (arith, count, body, test) in
    let rows = rows-answer text old it c.requires.made in
    let more : 0 < length (rows_in (state_of text old)) = omega (arith, some, rows) in
    let reason = full-pages text kept old it c.in_err-pages.field-0.0 c.records.view_is c.requires.made scened unlocked more c.in_err-pages.ensures in
    let p = err_from_is_err_and c.from_residual-in_err-pages.result c.from_residual-in_err-pages.ensures.1 in
    rw (p.1, p.2) (reason, refl)

pub returns-clause-opening : goal.returns-clause-opening
returns-clause-opening c =
    let text = text_of c.args.text.now.lines in
    let old = c.args.records.now in
    let it = c.args.made.now in
    let kept : RecordsOf = record {
      round = c.records.inside.round;
      speakers = c.records.inside.speakers;
      paper = c.records.inside.paper;
      scenes = option_map (λ those. those.items) c.records.inside.scenes;
      pages = option_map (λ those. those.items) c.records.inside.pages;
    } in
    let scened : is_some kept.scenes ≡ true = sym (some-map (λ those. those.items) c.records.inside.scenes) ∙ c.is_none.ensures ∙ ap not c.if-is_none.false in
    let unlocked : kept.pages ≡ None = none-map (λ those. those.items) c.records.inside.pages (sym c.is_some.ensures ∙ c.if-is_some.false) in
    let count = c.rows.ensures in
    let body = ap (λ (k : KeptOf). row_count k.body.elements) c.layout.view_is ∙ ap (λ (m : MadeOf). row_count m.layout.body.elements) c.made.view_is in
    let test = c.if-rows-eq0.false in
    let some : 0 < row_count it.layout.body.elements = omega (arith, count, body, test) in
    let opened = pages-answer text kept old it (option_map (λ those. those.items) c.in_ok-scenes.scenes) c.in_ok-pages.pages.items c.records.view_is c.requires.whole c.requires.made scened unlocked some
    c.in_ok-scenes.ensures.records c.in_ok-scenes.ensures.few c.in_ok-pages.ensures.0 c.in_ok-pages.ensures.1 in
    (opened.free, opened.same)

pub returns-clause-whole : goal.returns-clause-whole
returns-clause-whole c =
    let text = text_of c.args.text.now.lines in
    let old = c.args.records.now in
    let it = c.args.made.now in
    let kept : RecordsOf = record {
      round = c.records.inside.round;
      speakers = c.records.inside.speakers;
      paper = c.records.inside.paper;
      scenes = option_map (λ those. those.items) c.records.inside.scenes;
      pages = option_map (λ those. those.items) c.records.inside.pages;
    } in
    let scened : is_some kept.scenes ≡ true = sym (some-map (λ those. those.items) c.records.inside.scenes) ∙ c.is_none.ensures ∙ ap not c.if-is_none.false in
    let unlocked : kept.pages ≡ None = none-map (λ those. those.items) c.records.inside.pages (sym c.is_some.ensures ∙ c.if-is_some.false) in
    let count = c.rows.ensures in
    let body = ap (λ (k : KeptOf). row_count k.body.elements) c.layout.view_is ∙ ap (λ (m : MadeOf). row_count m.layout.body.elements) c.made.view_is in
    let test = c.if-rows-eq0.false in
    let some : 0 < row_count it.layout.body.elements = omega (arith, count, body, test) in
    let opened = pages-answer text kept old it (option_map (λ those. those.items) c.in_ok-scenes.scenes) c.in_ok-pages.pages.items c.records.view_is c.requires.whole c.requires.made scened unlocked some
    c.in_ok-scenes.ensures.records c.in_ok-scenes.ensures.few c.in_ok-pages.ensures.0 c.in_ok-pages.ensures.1 in
    opened.whole

pub returns-clause-made : goal.returns-clause-made
returns-clause-made c =
    let text = text_of c.args.text.now.lines in
    let old = c.args.records.now in
    let it = c.args.made.now in
    let kept : RecordsOf = record {
      round = c.records.inside.round;
      speakers = c.records.inside.speakers;
      paper = c.records.inside.paper;
      scenes = option_map (λ those. those.items) c.records.inside.scenes;
      pages = option_map (λ those. those.items) c.records.inside.pages;
    } in
    let scened : is_some kept.scenes ≡ true = sym (some-map (λ those. those.items) c.records.inside.scenes) ∙ c.is_none.ensures ∙ ap not c.if-is_none.false in
    let unlocked : kept.pages ≡ None = none-map (λ those. those.items) c.records.inside.pages (sym c.is_some.ensures ∙ c.if-is_some.false) in
    let count = c.rows.ensures in
    let body = ap (λ (k : KeptOf). row_count k.body.elements) c.layout.view_is ∙ ap (λ (m : MadeOf). row_count m.layout.body.elements) c.made.view_is in
    let test = c.if-rows-eq0.false in
    let some : 0 < row_count it.layout.body.elements = omega (arith, count, body, test) in
    let opened = pages-answer text kept old it (option_map (λ those. those.items) c.in_ok-scenes.scenes) c.in_ok-pages.pages.items c.records.view_is c.requires.whole c.requires.made scened unlocked some
    c.in_ok-scenes.ensures.records c.in_ok-scenes.ensures.few c.in_ok-pages.ensures.0 c.in_ok-pages.ensures.1 in
    opened.made
