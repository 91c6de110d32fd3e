use Rattle.std.proofs.Common.{◌≡◌, ◌≤◌, length, List, ap, sym, subst, ◌∙◌, arith}
use Rattle.spec_script.specs.BlockValues.{StanzaOf}
use Rattle.sp_text.specs.DisplacedLines.{displaced_of}
use Rattle.sp_text.specs.Gap.{text_of}
use Rattle.sp_reread.specs.Cache.{GivesBack, exchanged}
use Rattle.sp_exchange.specs.Restoring.{CanRestoreText, TextOf, stanzas_in, text_before, text_stanzas}
use Rattle.sp_exchange.proofs.RestoreLaws.{gives-low, room-back, stanzas-room, swapped-twice}
use Rattle.sp_exchange.proofs.text.Text.restore.Goals as goal

pub put_back-requires-clause-low : goal.put_back-requires-clause-low
put_back-requires-clause-low c =
    let can : CanRestoreText (text_of c.self.inside.lines) c.args.back c.args.swapped = rw (← c.self.view_is) at c.requires in
    let there = text_before (text_of c.self.inside.lines) c.args.back in
    gives-low c.args.swapped c.self.inside.stanzas.stanzas there can.keeps
    (subst (λ (xs : List StanzaOf). GivesBack c.args.swapped xs (text_stanzas there)) (sym c.self.invariant) can.stanzas)

pub put_back_in_room-swapped-requires-clause-room : goal.put_back_in_room-swapped-requires-clause-room
put_back_in_room-swapped-requires-clause-room c = record {
  stanzas_room = stanzas-room c.in-Ok.other c.put_back.new.self.stanzas c.self.inside.stanzas.stanzas c.self.inside.stanzas.room c.put_back.new.self.room c.in-Ok.ensures.out c.len-stanzas.ensures.enough c.in-Ok.ensures.room;
  swapped_room = omega (arith, c.in-Ok.ensures.out_place.1, c.in-Ok.ensures.out_room.1);
}

pub returns-in-Ok-restore-clause-room : goal.returns-in-Ok-restore-clause-room
returns-in-Ok-restore-clause-room c =
    let can : CanRestoreText (text_of c.self.inside.lines) c.args.back c.args.swapped = rw (← c.self.view_is) at c.requires in
    let old = text_of c.self.inside.lines in
    let new = text_of c.restore.new.self in
    let back = c.in-Ok-restore.displaced in
    let ensures = c.in-Ok-restore.ensures in
    let are : c.put_back.new.self.stanzas ≡ text_stanzas new =
    c.in-Ok.ensures.list ∙ ap (λ (xs : List StanzaOf). exchanged xs c.args.swapped.at c.args.swapped.stands c.args.swapped.stanzas) c.self.invariant ∙ can.stanzas.gives
    ∙ ap text_stanzas (sym ensures.text) in
    let again : CanRestoreText new back c.in-Ok.other = record {
      place = ensures.place;
      keeps = ensures.again;
      stanzas = subst (GivesBack c.in-Ok.other (text_stanzas new)) (c.self.invariant ∙ ap text_stanzas (sym ensures.back))
          (subst (λ (xs : List StanzaOf). GivesBack c.in-Ok.other xs c.self.inside.stanzas.stanzas) are c.in-Ok.ensures.out);
    } in
    let olds : TextOf = record { lines = c.self.inside.lines; room = c.self.inside.stanzas.room } in
    let news : TextOf = record { lines = c.restore.new.self; room = c.put_back.new.self.room } in
    let fit : length (stanzas_in olds) ≤ olds.room = omega (arith, ap length c.self.invariant, c.len-stanzas.ensures.enough) in
    room-back olds news back c.in-Ok.other again ensures.back c.len-count.ensures.room ensures.room fit c.in-Ok.ensures.room ensures.displaced_room.1 (omega (arith, c.in-Ok.ensures.out_place.1, c.in-Ok.ensures.out_room.1))

pub returns-in-Err-restore-clause-handed_back : goal.returns-in-Err-restore-clause-handed_back
returns-in-Err-restore-clause-handed_back c =
    let can : CanRestoreText (text_of c.self.inside.lines) c.args.back c.args.swapped = rw (← c.self.view_is) at c.requires in
    let list = c.self.inside.stanzas.stanzas in
    let after = c.put_back.new.self.stanzas in
    let back = c.put_back_in_room-swapped.result in
    let first : GivesBack c.args.swapped list after = record {
      within = (subst (λ (xs : List StanzaOf). GivesBack c.args.swapped xs (text_stanzas (text_before (text_of c.self.inside.lines) c.args.back))) (sym c.self.invariant) can.stanzas).within;
      gives = sym c.in-Ok.ensures.list;
    } in
    let third = subst (λ (xs : List StanzaOf). GivesBack back xs after) (c.put_back_in_room-swapped.ensures.list ∙ c.in-Ok.ensures.out.gives) c.put_back_in_room-swapped.ensures.out in
    record {
      lines = ap displaced_of c.in-Err-restore.ensures.handed_back;
      stanzas = swapped-twice list after c.args.swapped c.in-Ok.other back first c.in-Ok.ensures.out third
          c.in-Ok.ensures.out_place.0 c.in-Ok.ensures.out_place.1 c.put_back_in_room-swapped.ensures.at c.put_back_in_room-swapped.ensures.stands;
    }
