use Rattle.std.proofs.Common.{ap, sym, subst, ◌∙◌, refl, ap₂}
use Rattle.spec_text.specs.Edits.{changed, replacement_of}
use Rattle.spec_text.specs.Lines.{TextState, line_texts}
use Rattle.spec_text.specs.Ranges.{range_of}
use Rattle.spec_text.proofs.TakenEdits.{taken-inside}
use Rattle.spec_records.specs.Kept.{RecordsOf}
use Rattle.spec_state.specs.Keeping.{state_of}
use Rattle.sp_text.specs.Changing.{edit_of}
use Rattle.sp_text.specs.DisplacedLines.{displaced_of}
use Rattle.sp_text.specs.Gap.{text_of}
use Rattle.sp_reread.specs.Cache.{GivesBack}
use Rattle.sp_exchange.specs.Reads.{ReadsAtMost, ReadsWindow}
use Rattle.sp_exchange.specs.Restoring.{text_stanzas}
use Rattle.sp_layout.specs.Edited.{WasLaidOf}
use Rattle.sp_layout.specs.Kept.{laid_of}
use Rattle.sp_refill.specs.Edits.{IsOfEdit}
use Rattle.sp_sheets.specs.Firsts.{first_rows}
use Rattle.sp_text_entry.specs.Relaid.{IsExchangeOf}
use Rattle.sp_text_entry.specs.TextEntries.{TextEntryState}
use Rattle.sp_text_entry.proofs.CarriedLaws.{carried-here, edited-here, edited-whole, leads-back, whole-before, whole-carry}
use Rattle.sp_text_entry.proofs.TextEntryLaws.{edited-range}
use Rattle.sp_text_entry.proofs.RelaidLaws.{edit-of, was-laid}
use Rattle.std.proofs.lemmas.Result.{err_from_is_err_and}
use Rattle.sp_text_entry.proofs.text_entry.edit_entry.Goals as goal

pub relay_and_raise-requires-clause-was : goal.relay_and_raise-requires-clause-was
relay_and_raise-requires-clause-was g c =
    let old = text_of c.args.text.now.lines in
    let new = text_of c.change.new.self.lines in
    let it = replacement_of old.lines (edit_of c.args.edit) in
    let ensures = c.in_ok-displaced.ensures in
    let round = c.records.inside.round in
    let laid = c.requires.laid in
    subst (λ (t : TextState). WasLaidOf t new.lines (text_stanzas new) c.in_ok-displaced.swapped (c.args.records.now).speakers (laid_of c.args.layout.now)) (sym ensures.leads)
    (was-laid old new it round c.in_ok-displaced.swapped (c.args.records.now).speakers (laid_of c.args.layout.now) (c.requires.whole).text ensures.text (taken-inside old (edit_of c.args.edit) ensures.refuses) ensures.window
    (subst (λ (t : TextState). GivesBack c.in_ok-displaced.swapped (text_stanzas new) (text_stanzas t)) ensures.leads (ensures.can).stanzas) laid)

pub relay_and_raise-requires-clause-edit : goal.relay_and_raise-requires-clause-edit
relay_and_raise-requires-clause-edit g c =
    let old = text_of c.args.text.now.lines in
    let new = text_of c.change.new.self.lines in
    let edit = edit_of c.args.edit in
    let it = replacement_of old.lines edit in
    let ensures = c.in_ok-displaced.ensures in
    let is = ensures.text ∙ ap (λ (records : RecordsOf). changed old it records.round) c.records.view_is in
    record {
      it = it;
      is = subst (λ (t : TextState). IsOfEdit (state_of t c.args.records.now) it new.lines (text_stanzas new) c.in_ok-displaced.swapped) (sym ensures.leads)
          (edit-of old new c.args.records.now edit c.in_ok-displaced.swapped ensures.refuses is c.lines-changed.ensures.keeps c.requires.whole ensures.window);
    }

pub relay_and_raise-requires-clause-before : goal.relay_and_raise-requires-clause-before
relay_and_raise-requires-clause-before g c =
    c.requires.before ∙ ap (λ (t : TextState). first_rows (state_of t c.args.records.now)) (sym c.in_ok-displaced.ensures.leads)

pub relay_and_raise-requires-clause-carried : goal.relay_and_raise-requires-clause-carried
relay_and_raise-requires-clause-carried g c =
    let text = text_of c.args.text.now.lines in
    let edit = edit_of c.args.edit in
    carried-here text (text_of c.change.new.self.lines) (displaced_of c.in_ok-displaced.displaced) c.args.records.now edit c.in_ok-displaced.ensures.refuses
    (c.in_ok-displaced.ensures.text ∙ ap (λ (records : RecordsOf). changed text (replacement_of text.lines edit) records.round) c.records.view_is)
    c.in_ok-displaced.ensures.displaced c.lines-changed.ensures.keeps c.requires.whole

pub relay_and_raise-requires-clause-can : goal.relay_and_raise-requires-clause-can
relay_and_raise-requires-clause-can g c =
    let text = text_of c.change.new.self.lines in
    let back = displaced_of c.in_ok-displaced.displaced in
    whole-carry text back c.args.records.now (whole-before (text_of c.args.text.now.lines) text back c.args.records.now c.in_ok-displaced.ensures.leads c.requires.whole)

pub returns-in_err-displaced : goal.returns-in_err-displaced
returns-in_err-displaced g c =
    let records = c.args.records.now in
    let left = c.in_err-displaced.ensures in
    let old = text_of c.args.text.now.lines in
    let it = replacement_of old.lines (edit_of c.args.edit) in
    let p = err_from_is_err_and c.from_residual.result c.from_residual.ensures.1 in
    rw (p.1, p.2) (record {
      refuses = left.refuses;
      state = tt;
      whole = tt;
      back = tt;
      range = tt;
      room = tt;
      laid = tt;
      layout_back = tt;
      can_change = tt;
      layout_room = tt;
      window = tt;
      few = tt;
      rows = tt;
      firsts = tt;
      same = ap (λ (t : TextState). state_of t records) left.same;
      same_layout = refl;
      reads = tt;
      at_most = subst (λ (r : RecordsOf). ReadsAtMost (line_texts old.lines) (line_texts (changed old it r.round).lines) (range_of it) (g.S.Steps.reads c.args.steps.now) (g.S.Steps.reads c.change.new.steps))
          c.records.view_is c.change.ensures.at_most;
      unread = c.change.ensures.unread;
      fills = c.change.ensures.fills;
    })

pub returns-in-Ok : goal.returns-in-Ok
returns-in-Ok g c =
    let old = text_of c.args.text.now.lines in
    let new = text_of c.change.new.self.lines in
    let records = c.args.records.now in
    let after = c.relay_and_raise.new.records in
    let edit = edit_of c.args.edit in
    let it = replacement_of old.lines edit in
    let back = displaced_of c.in_ok-displaced.displaced in
    let entry : TextEntryState = record { lines = c.in_ok-displaced.displaced; stanzas = c.in_ok-displaced.swapped; first = c.in-Ok.field-0.raised.items; second = c.in-Ok.field-0.moved.items } in
    let ensures = c.in_ok-displaced.ensures in
    let relaid = c.in-Ok.ensures in
    let is = ensures.text ∙ ap (λ (those : RecordsOf). changed old it those.round) c.records.view_is in
    let led = edited-here old new back records after edit ensures.refuses is ensures.leads ensures.displaced relaid.records in
    record {
      refuses = ensures.refuses;
      state = led;
      whole = edited-whole old new records after edit ensures.refuses is c.lines-changed.ensures.keeps c.requires.whole led;
      back = leads-back old new records after entry ensures.can ensures.leads relaid.raised relaid.moved relaid.back;
      range = edited-range old edit entry ensures.refuses ensures.displaced;
      room = ensures.room;
      laid = relaid.laid;
      layout_back = relaid.layout_back;
      can_change = relaid.can_change;
      layout_room = relaid.room;
      window = ensures.window;
      few = relaid.few;
      rows = subst (λ (t : TextState). IsExchangeOf (state_of t records) it c.in-Ok.field-0.rows) ensures.leads
          (relaid.rows it
          (subst (λ (t : TextState). IsOfEdit (state_of t records) it new.lines (text_stanzas new) c.in_ok-displaced.swapped) (sym ensures.leads)
          (edit-of old new records edit c.in_ok-displaced.swapped ensures.refuses is c.lines-changed.ensures.keeps c.requires.whole ensures.window)));
      firsts = relaid.firsts;
      same = tt;
      same_layout = tt;
      reads = subst (λ (r : RecordsOf). ReadsWindow (line_texts old.lines) (line_texts (changed old it r.round).lines) (range_of it) (g.S.Steps.reads c.args.steps.now) (g.S.Steps.reads c.change.new.steps))
          c.records.view_is ensures.reads;
      at_most = subst (λ (r : RecordsOf). ReadsAtMost (line_texts old.lines) (line_texts (changed old it r.round).lines) (range_of it) (g.S.Steps.reads c.args.steps.now) (g.S.Steps.reads c.change.new.steps))
          c.records.view_is ensures.at_most;
      unread = ensures.unread;
      fills = ensures.fills;
    }

pub returns-in-Err : goal.returns-in-Err
returns-in-Err g c =
    let old = text_of c.args.text.now.lines in
    let it = replacement_of old.lines (edit_of c.args.edit) in
    let ensures = c.in_ok-displaced.ensures in
    record {
      refuses = tt;
      state = tt;
      whole = tt;
      back = tt;
      range = tt;
      room = tt;
      laid = tt;
      layout_back = tt;
      can_change = tt;
      layout_room = tt;
      window = tt;
      few = tt;
      rows = tt;
      firsts = tt;
      same = ap₂ state_of (c.restore_in_room.ensures ∙ ensures.leads) c.in-Err.ensures.same;
      same_layout = c.in-Err.ensures.same_layout;
      reads = tt;
      at_most = subst (λ (r : RecordsOf). ReadsAtMost (line_texts old.lines) (line_texts (changed old it r.round).lines) (range_of it) (g.S.Steps.reads c.args.steps.now) (g.S.Steps.reads c.change.new.steps))
          c.records.view_is ensures.at_most;
      unread = ensures.unread;
      fills = ensures.fills;
    }
