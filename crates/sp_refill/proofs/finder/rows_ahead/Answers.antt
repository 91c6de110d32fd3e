use Rattle.std.proofs.Common.{take, sym, ap, ◌∙◌, arith}
use Rattle.spec_state.specs.StateSheets.{layout_in}
use Rattle.spec_state.specs.Changes.{edited_state}
use Rattle.spec_edit.specs.Windows.{stanza_lines_in}
use Rattle.sp_refill.proofs.Found.{SomeFound, ahead-found, at-front}
use Rattle.sp_refill.proofs.finder.rows_ahead.Goals as goal
use Rattle.sp_refill.proofs.finder.rows_ahead.Goals.{Start}

some : (c : Start) → SomeFound c.args.stanzas.now.stanzas c.args.swapped.now c.args.olds.now.elements (layout_in (edited_state c.requires.state c.requires.it)).body
some c = ahead-found c.args.lines.now.lines c.args.stanzas.now.stanzas c.args.swapped.now c.args.olds.now.elements c.requires

pub lines_before-requires : goal.lines_before-requires
lines_before-requires c = let within = (some (goal.at.lines_before-requires c).Start).found.within in omega (arith, within, c.at-at.ensures)

pub relays_before-requires : goal.relays_before-requires
relays_before-requires c = (some (goal.at.relays_before-requires c).Start).found.within

pub rows_before-first-requires : goal.rows_before-first-requires
rows_before-first-requires c =
    let found = (some (goal.at.rows_before-first-requires c).Start).found in
    let line = c.lines_before.ensures ∙ ap (λ n. stanza_lines_in (take n c.args.stanzas.now.stanzas)) c.at-at.ensures in
    let first = at-front c.args.olds.now.elements _ c.lines_before.result _ _ c.relays_before.result (sym line) (sym c.relays_before.ensures) found.first in
    record { place = first.place; is = first.is; some = first.some }

pub returns : goal.returns
returns c =
    let line = c.lines_before.ensures ∙ ap (λ n. stanza_lines_in (take n c.args.stanzas.now.stanzas)) c.at-at.ensures in
    record {
      first = at-front c.args.olds.now.elements c.lines_before.result _ c.rows_before-first.result c.relays_before.result _ line c.relays_before.ensures c.rows_before-first.ensures;
      all = c.rows.ensures;
    }
