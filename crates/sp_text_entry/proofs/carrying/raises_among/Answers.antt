use Rattle.std.proofs.Common.{List, Option, Some, length, ap, sym, ◌∙◌, subst}
use Rattle.std.specs.Prelude.{IfSome}
use Rattle.spec_labels.specs.PageRecords.{PageRecordOf}
use Rattle.spec_pages.specs.Rows.{ElementOf}
use Rattle.spec_records.specs.Kept.{RecordsOf}
use Rattle.spec_state.specs.State.{State}
use Rattle.spec_state.specs.Keeping.{state_of}
use Rattle.spec_state.specs.StateSheets.{keys_in}
use Rattle.spec_state.proofs.StateKeys.{state-row_keys}
use Rattle.spec_text.specs.Edits.{restored}
use Rattle.sp_text.specs.DisplacedLines.{displaced_of}
use Rattle.sp_text.specs.Gap.{text_of}
use Rattle.sp_compare.specs.BareRows.{Both}
use Rattle.sp_layout.specs.Bodies.{KeyedElements, row_count}
use Rattle.sp_layout.specs.LaidOut.{LayoutOf}
use Rattle.sp_layout.specs.Kept.{laid_of}
use Rattle.sp_sheets.specs.Firsts.{key_starts}
use Rattle.sp_compare.specs.Raised.{AreSegments}
use Rattle.sp_text_entry.specs.Relaid.{body_before}
use Rattle.sp_text_entry.proofs.CarriedLaws.{own-segments, raises-made, some-pages, whole-laid}
use Rattle.sp_text_entry.proofs.carrying.raises_among.Goals as goal

pub both_texts-texts-requires-clause-news : goal.both_texts-texts-requires-clause-news
both_texts-texts-requires-clause-news c =
    let state : State = state_of (text_of c.args.lines.now) c.args.records.now in
    let layout : LayoutOf = laid_of c.args.layout.now in
    whole-laid state layout.body c.requires.whole (ap (λ (l : LayoutOf). l.body.elements) c.requires.laid) (ap (λ (l : LayoutOf). l.body.keys) c.requires.laid ∙ sym (state-row_keys state))

pub raises-requires-clause-before : goal.raises-requires-clause-before
raises-requires-clause-before c =
    let body : KeyedElements = body_before (laid_of c.args.layout.now) c.args.gone.now in
    let pages = some-pages (λ those. those.items) c.records.inside.pages c.in-Some.pages c.args.records.now.pages (ap (λ (r : RecordsOf). r.pages) c.records.view_is) c.in-Some.is in
    subst (λ (rs : List PageRecordOf). AreSegments (row_count c.both_texts-texts.result.olds) (length rs) c.args.before.now) (sym c.deref-2.ensures.value)
    (subst (λ (es : List ElementOf). AreSegments (row_count es) (length c.in-Some.pages.items) c.args.before.now) (sym (ap (λ (b : Both). b.olds) c.both_texts-texts.ensures))
    (subst (λ (rs : Option (List PageRecordOf)). IfSome rs (λ those. AreSegments (row_count body.elements) (length those) c.args.before.now)) pages c.requires.before))

pub raises-requires-clause-after : goal.raises-requires-clause-after
raises-requires-clause-after c =
    let state : State = state_of (text_of c.args.lines.now) c.args.records.now in
    let pages = some-pages (λ those. those.items) c.records.inside.pages c.in-Some.pages c.args.records.now.pages (ap (λ (r : RecordsOf). r.pages) c.records.view_is) c.in-Some.is in
    let news = c.both_texts-texts.result.news in
    subst (λ (rs : List PageRecordOf). AreSegments (row_count news) (length rs) c.deref.result.now) (sym c.deref-2.ensures.value)
    (own-segments state c.in-Some.pages.items news c.deref.result.now c.requires.whole pages
    (ap (λ (b : Both). b.news) c.both_texts-texts.ensures ∙ ap (λ (l : LayoutOf). l.body.elements) c.requires.laid)
    (c.deref.ensures.value ∙ c.in_ok-firsts.ensures ∙ ap (key_starts state.lines (keys_in state)) pages))

pub returns-clause-raised : goal.returns-clause-raised
returns-clause-raised c =
    let text = text_of c.args.lines.now in
    let state : State = state_of text c.args.records.now in
    let layout : LayoutOf = laid_of c.args.layout.now in
    let pages = some-pages (λ those. those.items) c.records.inside.pages c.in-Some.pages c.args.records.now.pages (ap (λ (r : RecordsOf). r.pages) c.records.view_is) c.in-Some.is in
    raises-made c.in_ok-raised.raised.items state (restored text (displaced_of c.args.displaced.now)).lines c.both_texts-texts.result (body_before layout c.args.gone.now).elements layout.body.elements
    c.args.before.now c.deref.result.now c.records.inside.round c.deref-2.result.now
    c.both_texts-texts.ensures
    (ap (λ (l : LayoutOf). l.body.elements) c.requires.laid)
    (c.deref.ensures.value ∙ c.in_ok-firsts.ensures ∙ ap (key_starts state.lines (keys_in state)) (pages ∙ ap (λ (rs : List PageRecordOf). Some rs) (sym c.deref-2.ensures.value)))
    (ap (λ (r : RecordsOf). r.round) c.records.view_is)
    (pages ∙ ap (λ (rs : List PageRecordOf). Some rs) (sym c.deref-2.ensures.value))
    c.in_ok-raised.ensures
