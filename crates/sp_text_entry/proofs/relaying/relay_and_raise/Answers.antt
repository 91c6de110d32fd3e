use Rattle.std.proofs.Common.{List, refl, ap, sym, subst, ◌∙◌}
use Rattle.std.proofs.lemmas.Result.{err_from_is_err_and}
use Rattle.spec_text.specs.Edits.{restored}
use Rattle.spec_text.specs.Lines.{LineState}
use Rattle.spec_pages.specs.Rows.{ElementOf}
use Rattle.spec_records.specs.Kept.{RecordsOf}
use Rattle.spec_state.specs.State.{State}
use Rattle.spec_state.specs.Keeping.{state_of}
use Rattle.spec_sheets.specs.Speakers.{text_elements}
use Rattle.sp_text.specs.DisplacedLines.{displaced_of}
use Rattle.sp_text.specs.Gap.{text_of}
use Rattle.sp_layout.specs.LaidOut.{LayoutOf, keyed}
use Rattle.sp_layout.specs.Edited.{WasLaidOf}
use Rattle.sp_layout.specs.Kept.{laid_of}
use Rattle.sp_layout.specs.Outside.{StaysOutside}
use Rattle.sp_refill.specs.Edits.{AreAhead}
use Rattle.sp_sheets.specs.Firsts.{IsLaidOf}
use Rattle.sp_exchange.specs.Restoring.{stanzas_in}
use Rattle.sp_text_entry.specs.Raised.{state_before}
use Rattle.sp_text_entry.proofs.RelaidLaws.{body-now}
use Rattle.sp_text_entry.proofs.relaying.relay_and_raise.Goals as goal

pub rows_ahead-ahead-requires : goal.rows_ahead-ahead-requires
rows_ahead-ahead-requires c =
    let before : State = state_before (text_of c.args.text.now.lines) (displaced_of c.args.displaced.now) c.args.records.now in
    let laid = ap laid_of c.layout.view_is ∙ c.requires.was.was in
    rw (c.lines-lines.ensures.lines, c.stanzas-stanzas.ensures.stanzas) (record {
      state = before;
      it = c.requires.edit.it;
      is = c.requires.edit.is;
      olds_are = ap (λ (l : LayoutOf). l.body.elements) laid;
    })

pub relay_edit-requires-clause-was : goal.relay_edit-requires-clause-was
relay_edit-requires-clause-was c =
    let text = c.args.text.now in
    rw (c.lines-lines.ensures.lines, c.stanzas-stanzas.ensures.stanzas) (record {
      before = restored (text_of text.lines) (displaced_of c.args.displaced.now);
      is = sym (rw c.lines-lines.ensures.lines at c.new-old.ensures);
      of = subst (λ (r : RecordsOf). WasLaidOf (restored (text_of text.lines) (displaced_of c.args.displaced.now)) text.lines.lines (stanzas_in text) c.args.swapped.now r.speakers (laid_of c.args.layout.now)) (sym c.records.view_is) c.requires.was;
    })

pub carry_and_raise-requires-clause-laid : goal.carry_and_raise-requires-clause-laid
carry_and_raise-requires-clause-laid c =
    let lines = c.lines-lines.result.now.lines in
    c.in_ok-change.ensures.layout ∙ ap (λ (r : RecordsOf). keyed lines (text_elements r.speakers lines)) c.records.view_is

pub carry_and_raise-requires-clause-was : goal.carry_and_raise-requires-clause-was
carry_and_raise-requires-clause-was c = c.in_ok-change.ensures.back ∙ rw (← c.lines-lines.ensures.lines) at c.requires.was.was

pub carry_and_raise-requires-clause-outside : goal.carry_and_raise-requires-clause-outside
carry_and_raise-requires-clause-outside c =
    subst (λ (olds : List LineState). StaysOutside olds c.lines-lines.result.now.lines (laid_of c.relay_edit.new.kept).body.elements c.in_ok-change.change.part.places) c.new-old.ensures c.in_ok-change.ensures.outside

pub exchanged_rows-rows-requires : goal.exchanged_rows-rows-requires
exchanged_rows-rows-requires c =
    let text = text_of c.args.text.now.lines in
    let back = displaced_of c.args.displaced.now in
    let before : State = state_before text back c.args.records.now in
    let edit = c.requires.edit in
    let was = ap (λ (l : LayoutOf). l.body.elements) (ap laid_of c.layout.view_is ∙ c.requires.was.was) in
    let laid = ap laid_of c.layout-2.view_is ∙ (rw c.lines-lines.ensures.lines at c.in_ok-change.ensures.layout) ∙ ap (λ (r : RecordsOf). keyed c.args.text.now.lines.lines (text_elements r.speakers c.args.text.now.lines.lines)) c.records.view_is in
    rw (c.lines-lines.ensures.lines, c.stanzas-stanzas.ensures.stanzas) (record {
      edit = record {
        state = before;
        it = edit.it;
        is = edit.is;
        ahead = subst (λ (es : List ElementOf). AreAhead (stanzas_in c.args.text.now) c.args.swapped.now es c.rows_ahead-ahead.result) was (rw c.stanzas-stanzas.ensures.stanzas at c.rows_ahead-ahead.ensures);
        news_are = body-now text back c.args.records.now edit.it (stanzas_in c.args.text.now) c.args.swapped.now _ edit.is laid;
      };
    })

pub returns-in_err-change : goal.returns-in_err-change
returns-in_err-change c =
    let p = err_from_is_err_and c.from_residual.result c.from_residual.ensures.1 in
    rw p.1 (record {
      laid = tt;
      layout_back = tt;
      can_change = tt;
      room = tt;
      few = tt;
      rows = tt;
      records = tt;
      raised = tt;
      moved = tt;
      back = tt;
      firsts = tt;
      same = refl;
      same_layout = c.in_err-change.ensures.same;
    })

pub returns-in-Ok : goal.returns-in-Ok
returns-in-Ok c =
    let text = text_of c.args.text.now.lines in
    let stanzas = stanzas_in c.args.text.now in
    let back = displaced_of c.args.displaced.now in
    let before : State = state_before text back c.args.records.now in
    let relaid = c.in_ok-change.ensures in
    let carried = c.in-Ok.ensures in
    let was = ap (λ (l : LayoutOf). l.body.elements) (ap laid_of c.layout.view_is ∙ c.requires.was.was) in
    let speakers = ap (λ (r : RecordsOf). keyed c.args.text.now.lines.lines (text_elements r.speakers c.args.text.now.lines.lines)) c.records.view_is in
    let layout = (rw c.lines-lines.ensures.lines at relaid.layout) ∙ speakers in
    let records = rw c.lines-lines.ensures.lines at carried.records in
    let ahead = subst (λ (es : List ElementOf). AreAhead stanzas c.args.swapped.now es c.rows_ahead-ahead.result) was (rw c.stanzas-stanzas.ensures.stanzas at c.rows_ahead-ahead.ensures) in
    let found = rw (c.lines-lines.ensures.lines, c.stanzas-stanzas.ensures.stanzas) at c.exchanged_rows-rows.ensures.found in
    record {
      laid = subst (λ (r : RecordsOf). IsLaidOf (state_of text r) (laid_of c.relay_edit.new.kept)) (sym records) layout;
      layout_back = relaid.back;
      can_change = relaid.again;
      room = relaid.returns;
      few = rw c.stanzas-stanzas.ensures.stanzas at relaid.few;
      rows = λ it edit. record {
        is = λ a b window. found before it a b edit ahead (body-now text back c.args.records.now it stanzas c.args.swapped.now _ edit (ap laid_of c.layout-2.view_is ∙ layout)) window;
      };
      records = records;
      raised = carried.raised;
      moved = carried.moved;
      back = carried.back;
      firsts = rw c.lines-lines.ensures.lines at carried.firsts;
      same = tt;
      same_layout = tt;
    }

pub returns-in-Err : goal.returns-in-Err
returns-in-Err c = record {
  laid = tt;
  layout_back = tt;
  can_change = tt;
  room = tt;
  few = tt;
  rows = tt;
  records = tt;
  raised = tt;
  moved = tt;
  back = tt;
  firsts = tt;
  same = c.in-Err.ensures.same;
  same_layout = c.change_in_room-other.ensures.layout ∙ c.in_ok-change.ensures.back;
}
