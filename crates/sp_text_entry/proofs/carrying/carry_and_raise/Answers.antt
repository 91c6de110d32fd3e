use Rattle.std.proofs.Common.{None, ap, sym, subst, ◌∙◌}
use Rattle.spec_records.specs.Kept.{RecordsOf}
use Rattle.spec_text.specs.Edits.{restored}
use Rattle.spec_sheets.specs.Shown.{shown_rows}
use Rattle.spec_state.specs.State.{State}
use Rattle.spec_state.specs.Changes.{segment_rows}
use Rattle.spec_state.specs.Keeping.{state_of}
use Rattle.spec_state.proofs.StateKeys.{state-row_keys}
use Rattle.sp_text.specs.DisplacedLines.{displaced_of}
use Rattle.sp_text.specs.Gap.{text_of}
use Rattle.sp_layout.specs.Bodies.{KeyedElements}
use Rattle.sp_layout.specs.LaidOut.{LayoutOf}
use Rattle.sp_layout.specs.Kept.{laid_of}
use Rattle.sp_sheets.specs.Firsts.{IsLaidOf, first_rows}
use Rattle.sp_text_entry.specs.Raised.{state_before}
use Rattle.sp_text_entry.specs.Relaid.{body_before}
use Rattle.sp_text_entry.proofs.CarriedLaws.{before-segments, raised-firsts, raised-fit, raised-here, whole-few, whole-laid}
use Rattle.sp_text_entry.proofs.carrying.carry_and_raise.Goals as goal

pub raises_among-requires-clause-laid : goal.raises_among-requires-clause-laid
raises_among-requires-clause-laid c =
    subst (λ (records : RecordsOf). IsLaidOf (state_of (text_of c.args.lines.now) records) (laid_of c.args.layout.now)) (sym c.in_ok-moved.ensures.records) c.requires.laid

pub raises_among-requires-clause-few : goal.raises_among-requires-clause-few
raises_among-requires-clause-few c =
    let state : State = state_before (text_of c.args.lines.now) (displaced_of c.args.displaced.now) c.args.records.now in
    let body : KeyedElements = body_before (laid_of c.args.layout.now) c.args.gone.now in
    whole-few state body.elements c.requires.whole (ap (λ (l : LayoutOf). l.body.elements) c.requires.was)

pub raises_among-requires-clause-olds : goal.raises_among-requires-clause-olds
raises_among-requires-clause-olds c =
    let state : State = state_before (text_of c.args.lines.now) (displaced_of c.args.displaced.now) c.args.records.now in
    whole-laid state (body_before (laid_of c.args.layout.now) c.args.gone.now) c.requires.whole (ap (λ (l : LayoutOf). l.body.elements) c.requires.was)
    (ap (λ (l : LayoutOf). l.body.keys) c.requires.was ∙ sym (state-row_keys state))

pub raises_among-requires-clause-before : goal.raises_among-requires-clause-before
raises_among-requires-clause-before c =
    let body : KeyedElements = body_before (laid_of c.args.layout.now) c.args.gone.now in
    before-segments (text_of c.args.lines.now) (displaced_of c.args.displaced.now) c.args.records.now c.carry_pages.new.records body.elements c.args.before.now
    c.requires.whole c.in_ok-moved.ensures.records (ap (λ (l : LayoutOf). l.body.elements) c.requires.was) c.requires.before

pub put_back_pages-requires : goal.put_back_pages-requires
put_back_pages-requires c =
    let text = text_of c.args.lines.now in
    let old = restored text (displaced_of c.args.displaced.now) in
    let body : KeyedElements = body_before (laid_of c.args.layout.now) c.args.gone.now in
    raised-fit (segment_rows (shown_rows old.lines None body.elements) c.args.before.now) (state_of text c.carry_pages.new.records) c.carry_pages.new.records c.in-Ok.field-0.raised.items (c.in-Ok.ensures.raised None)

pub returns-in-Ok-clause-records : goal.returns-in-Ok-clause-records
returns-in-Ok-clause-records c =
    let body : KeyedElements = body_before (laid_of c.args.layout.now) c.args.gone.now in
    raised-here (text_of c.args.lines.now) (displaced_of c.args.displaced.now) c.args.records.now c.carry_pages.new.records c.put_back_pages.new.records body.elements c.args.before.now c.in-Ok.field-0.raised.items
    c.in_ok-moved.ensures.records (ap (λ (l : LayoutOf). l.body.elements) c.requires.was) c.requires.before c.in-Ok.ensures.raised c.put_back_pages.ensures.records

pub returns-in-Ok-clause-firsts : goal.returns-in-Ok-clause-firsts
returns-in-Ok-clause-firsts c =
    let text = text_of c.args.lines.now in
    let back = displaced_of c.args.displaced.now in
    let old = c.args.records.now in
    let body : KeyedElements = body_before (laid_of c.args.layout.now) c.args.gone.now in
    let here = raised-here text back old c.carry_pages.new.records c.put_back_pages.new.records body.elements c.args.before.now c.in-Ok.field-0.raised.items
    c.in_ok-moved.ensures.records (ap (λ (l : LayoutOf). l.body.elements) c.requires.was) c.requires.before c.in-Ok.ensures.raised c.put_back_pages.ensures.records in
    c.in-Ok.ensures.firsts ∙ ap (λ (r : RecordsOf). first_rows (state_of text r)) c.in_ok-moved.ensures.records ∙ sym (raised-firsts text back old)
    ∙ ap (λ (r : RecordsOf). first_rows (state_of text r)) (sym here)
