use Rattle.std.proofs.Common.{◌≤◌, rules, List, length, ap, sym, subst, arith}
use Rattle.spec_text.specs.Lines.{TextState, line_texts}
use Rattle.spec_text.specs.Edits.{replacement_of}
use Rattle.spec_text.specs.Ranges.{range_of}
use Rattle.spec_script.specs.BlockValues.{StanzaOf}
use Rattle.spec_edit.specs.Windows.{CountsWindow}
use Rattle.sp_text.specs.Changing.{edit_of}
use Rattle.sp_text.specs.DisplacedLines.{displaced_of}
use Rattle.sp_text.specs.Gap.{text_of}
use Rattle.sp_reread.specs.Cache.{GivesBack}
use Rattle.sp_exchange.specs.Reads.{ReadsAtMost, ReadsWindow}
use Rattle.sp_exchange.specs.Restoring.{CanRestoreText, TextOf, stanzas_in, text_stanzas}
use Rattle.sp_exchange.proofs.ReadLaws.{displaced-window, none-read, reads-window, reads-within, window-at-most}
use Rattle.sp_exchange.proofs.RestoreLaws.{lines-room, room-back, was-list}
use Rattle.sp_exchange.proofs.text.Text.change.Given.{Over}
use Rattle.sp_exchange.proofs.text.Text.change.Goals as goal

pub reread-requires : goal.reread-requires
reread-requires g c =
    was-list (text_of c.self.inside.lines) (text_of c.change.new.self) (displaced_of c.in_ok-displaced.displaced) c.self.inside.stanzas.stanzas c.in_ok-displaced.ensures.place c.in_ok-displaced.ensures.back c.self.invariant

pub restore_in_room-requires-clause-room : goal.restore_in_room-requires-clause-room
restore_in_room-requires-clause-room g c =
    let ensures = c.in_ok-displaced.ensures in
    lines-room c.self.inside.lines c.change.new.self c.in_ok-displaced.displaced ensures.place ensures.back c.len-count.ensures.room ensures.room

-- The displaced stanzas lead back.
leads : (g : Over) (c : goal.In-Ok g) → GivesBack c.in-Ok.swapped (text_stanzas (text_of c.change.new.self)) (text_stanzas (text_of c.self.inside.lines))
leads g c =
    let new = text_of c.change.new.self in
    subst (GivesBack c.in-Ok.swapped (text_stanzas new)) c.self.invariant
    (subst (λ (xs : List StanzaOf). GivesBack c.in-Ok.swapped xs c.self.inside.stanzas.stanzas) c.in-Ok.ensures.list c.in-Ok.ensures.back)

pub returns-in-Ok-clause-room : goal.returns-in-Ok-clause-room
returns-in-Ok-clause-room g c =
    let new = text_of c.change.new.self in
    let back = c.in_ok-displaced.displaced in
    let ensures = c.in_ok-displaced.ensures in
    let can : CanRestoreText new back c.in-Ok.swapped = record {
      place = ensures.place;
      keeps = ensures.again;
      stanzas = subst (GivesBack c.in-Ok.swapped (text_stanzas new)) (ap text_stanzas (sym ensures.back)) (leads g c);
    } in
    let olds : TextOf = record { lines = c.self.inside.lines; room = c.self.inside.stanzas.room } in
    let news : TextOf = record { lines = c.change.new.self; room = c.reread.new.stanzas.room } in
    let fit : length (stanzas_in olds) ≤ olds.room = omega (arith, ap length c.self.invariant, c.len-stanzas.ensures.enough) in
    room-back olds news back c.in-Ok.swapped can ensures.back c.len-count.ensures.room ensures.room fit c.in-Ok.ensures.room ensures.displaced_room c.in-Ok.ensures.back_room

-- The window that was counted.
counted : (g : Over) (c : goal.In-Ok g) → CountsWindow (text_stanzas (text_of c.self.inside.lines)) (line_texts c.change.new.self.lines) c.in_ok-displaced.displaced.first (length c.in_ok-displaced.displaced.lines) c.in_ok-displaced.displaced.stands c.in-Ok.swapped.at c.in-Ok.swapped.stands
counted g c =
    subst (λ (xs : List StanzaOf). CountsWindow xs (line_texts c.change.new.self.lines) c.in_ok-displaced.displaced.first (length c.in_ok-displaced.displaced.lines) c.in_ok-displaced.displaced.stands c.in-Ok.swapped.at c.in-Ok.swapped.stands) c.self.invariant c.in-Ok.ensures.window

pub returns-in-Ok-clause-window : goal.returns-in-Ok-clause-window
returns-in-Ok-clause-window g c =
    let old = text_of c.self.inside.lines in
    let new = text_of c.change.new.self in
    let ensures = c.in_ok-displaced.ensures in
    rw (← c.self.view_is) (displaced-window old new (edit_of c.args.edit) (displaced_of c.in_ok-displaced.displaced) c.in-Ok.swapped ensures.refuses ensures.displaced ensures.place ensures.back (counted g c) (leads g c))

-- What was read where all went well.
read : (g : Over) (c : goal.In-Ok g) → let old = text_of c.self.inside.lines in let it = replacement_of old.lines (edit_of c.args.edit) in
    ReadsWindow (line_texts old.lines) (line_texts (text_of c.change.new.self).lines) (range_of it) (g.S.Steps.reads c.args.steps.now) (g.S.Steps.reads c.reread.new.steps)
read g c =
    let ensures = c.in_ok-displaced.ensures in
    reads-window (text_of c.self.inside.lines) (text_of c.change.new.self) (edit_of c.args.edit) (displaced_of c.in_ok-displaced.displaced) c.in-Ok.swapped.at c.in-Ok.swapped.stands
    (g.S.Steps.reads c.args.steps.now) (g.S.Steps.reads c.reread.new.steps) ensures.refuses ensures.displaced ensures.place ensures.back
    (counted g c) c.in-Ok.ensures.reads

pub returns-in-Ok-clause-reads : goal.returns-in-Ok-clause-reads
returns-in-Ok-clause-reads g c =
    rw (← c.self.view_is) (subst (λ (t : TextState). ReadsWindow (line_texts c.self.inside.lines.lines) (line_texts t.lines) (range_of (replacement_of c.self.inside.lines.lines (edit_of c.args.edit))) (g.S.Steps.reads c.args.steps.now) (g.S.Steps.reads c.reread.new.steps))
    c.in_ok-displaced.ensures.text (read g c))

pub returns-in-Ok-clause-at_most : goal.returns-in-Ok-clause-at_most
returns-in-Ok-clause-at_most g c = window-at-most _ _ _ _ _ (returns-in-Ok-clause-reads g c)

pub returns-in-Err-clause-at_most : goal.returns-in-Err-clause-at_most
returns-in-Err-clause-at_most g c =
    let ensures = c.in_ok-displaced.ensures in
    rw (← c.self.view_is) (subst (λ (t : TextState). ReadsAtMost (line_texts c.self.inside.lines.lines) (line_texts t.lines) (range_of (replacement_of c.self.inside.lines.lines (edit_of c.args.edit))) (g.S.Steps.reads c.args.steps.now) (g.S.Steps.reads c.reread.new.steps))
    ensures.text
    (reads-within (text_of c.self.inside.lines) (text_of c.change.new.self) (edit_of c.args.edit) (displaced_of c.in_ok-displaced.displaced) c.self.inside.stanzas.stanzas
    (g.S.Steps.reads c.args.steps.now) (g.S.Steps.reads c.reread.new.steps) ensures.refuses ensures.displaced ensures.place ensures.back c.self.invariant c.in-Err.ensures.at_most))

pub returns-in-Ok-clause-text : goal.returns-in-Ok-clause-text
returns-in-Ok-clause-text g c = search rules

pub returns-in_err-displaced-clause-at_most : goal.returns-in_err-displaced-clause-at_most
returns-in_err-displaced-clause-at_most g c = none-read _ _ _ _
