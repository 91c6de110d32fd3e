use Rattle.std.proofs.Common.{◌≡◌, ◌+◌, ◌≤◌, ◌++◌, List, length, map, take, drop, slice_range, All, sym, ap, ap₂, subst, ◌∙◌, arith}
use Rattle.std.proofs.lemmas.Grind.{common_steps}
use Rattle.spec_pages.specs.Rows.{ElementOf}
use Rattle.spec_labels.specs.declared.RowKey.{RowKey}
use Rattle.spec_sheets.specs.Shown.{heading_count}
use Rattle.sp_gap.specs.Moves.{shifted}
use Rattle.sp_gap.specs.Gaps.{CanExchangePlaces}
use Rattle.sp_layout.specs.RowFacts.{FactsOf, facts_between, with_facts}
use Rattle.sp_layout.specs.Bodies.{BodyParts, BodyOf, keyed_elements, row_count}
use Rattle.sp_layout.specs.Exchanges.{CanMove, with_run}
use Rattle.sp_layout.proofs.BodyExchanges.{exchange-fits, behind-is, moved-behind, IsExchanged, IsBody-exchanged, IsBody-taken}
use Rattle.sp_layout.proofs.body.Body.exchange.Goals as goal

pub exchange-requires-clause-order : goal.exchange-requires-clause-order
exchange-requires-clause-order c =
    let a = c.args in
    let old : BodyParts = record { elements = c.self.inside.elements.items; facts = c.self.inside.facts.facts; row_starts = c.self.inside.row_starts.items; heading_starts = c.self.inside.heading_starts.items; rows = c.self.inside.row_starts.end; headings = c.self.inside.heading_starts.end } in
    let others : BodyParts = record { elements = c.other.inside.elements.items; facts = c.other.inside.facts.facts; row_starts = c.other.inside.row_starts.items; heading_starts = c.other.inside.heading_starts.items; rows = c.other.inside.row_starts.end; headings = c.other.inside.heading_starts.end } in
    let mine = ap (λ (b : BodyOf). length b.elements) c.self.view_is in
    let mine_rows = ap (λ (b : BodyOf). row_count b.elements) c.self.view_is in
    let theirs = ap (λ (b : BodyOf). length b.elements) c.other.view_is in
    let their_rows = ap (λ (b : BodyOf). row_count b.elements) c.other.view_is in
    let room = ap (λ (b : BodyOf). b.room) c.self.view_is in
    let row_room = ap (λ (b : BodyOf). b.row_room) c.self.view_is in
    let within : a.to ≤ length old.elements = omega (arith, c.requires.within, mine) in
    let fits = exchange-fits a.from a.to old others c.self.invariant c.other.invariant c.requires.order within
    (omega (arith, c.requires.row_room, mine_rows, their_rows, row_room, c.len-room.ensures.row_small))
    (omega (arith, c.requires.room, mine, theirs, room, c.self.inside.elements.small, c.self.inside.elements.ok)) in
    let row : c.rows_before-row.result ≡ row_count (take a.from old.elements) = c.rows_before-row.ensures ∙ sym (ap (λ (b : BodyOf). row_count (take a.from b.elements)) c.self.view_is) in
    let end : c.rows_before-row_end.result ≡ row_count (take a.to old.elements) = c.rows_before-row_end.ensures ∙ sym (ap (λ (b : BodyOf). row_count (take a.to b.elements)) c.self.view_is) in
    omega (arith, row, end, fits.rows_order)

pub exchange-requires-clause-within : goal.exchange-requires-clause-within
exchange-requires-clause-within c =
    let a = c.args in
    let old : BodyParts = record { elements = c.self.inside.elements.items; facts = c.self.inside.facts.facts; row_starts = c.self.inside.row_starts.items; heading_starts = c.self.inside.heading_starts.items; rows = c.self.inside.row_starts.end; headings = c.self.inside.heading_starts.end } in
    let others : BodyParts = record { elements = c.other.inside.elements.items; facts = c.other.inside.facts.facts; row_starts = c.other.inside.row_starts.items; heading_starts = c.other.inside.heading_starts.items; rows = c.other.inside.row_starts.end; headings = c.other.inside.heading_starts.end } in
    let mine = ap (λ (b : BodyOf). length b.elements) c.self.view_is in
    let mine_rows = ap (λ (b : BodyOf). row_count b.elements) c.self.view_is in
    let theirs = ap (λ (b : BodyOf). length b.elements) c.other.view_is in
    let their_rows = ap (λ (b : BodyOf). row_count b.elements) c.other.view_is in
    let room = ap (λ (b : BodyOf). b.room) c.self.view_is in
    let row_room = ap (λ (b : BodyOf). b.row_room) c.self.view_is in
    let within : a.to ≤ length old.elements = omega (arith, c.requires.within, mine) in
    let fits = exchange-fits a.from a.to old others c.self.invariant c.other.invariant c.requires.order within
    (omega (arith, c.requires.row_room, mine_rows, their_rows, row_room, c.len-room.ensures.row_small))
    (omega (arith, c.requires.room, mine, theirs, room, c.self.inside.elements.small, c.self.inside.elements.ok)) in
    let row : c.rows_before-row.result ≡ row_count (take a.from old.elements) = c.rows_before-row.ensures ∙ sym (ap (λ (b : BodyOf). row_count (take a.from b.elements)) c.self.view_is) in
    let end : c.rows_before-row_end.result ≡ row_count (take a.to old.elements) = c.rows_before-row_end.ensures ∙ sym (ap (λ (b : BodyOf). row_count (take a.to b.elements)) c.self.view_is) in
    omega (arith, end, fits.rows_within, fits.shapes_len)

pub exchange-requires-clause-room : goal.exchange-requires-clause-room
exchange-requires-clause-room c =
    let a = c.args in
    let old : BodyParts = record { elements = c.self.inside.elements.items; facts = c.self.inside.facts.facts; row_starts = c.self.inside.row_starts.items; heading_starts = c.self.inside.heading_starts.items; rows = c.self.inside.row_starts.end; headings = c.self.inside.heading_starts.end } in
    let others : BodyParts = record { elements = c.other.inside.elements.items; facts = c.other.inside.facts.facts; row_starts = c.other.inside.row_starts.items; heading_starts = c.other.inside.heading_starts.items; rows = c.other.inside.row_starts.end; headings = c.other.inside.heading_starts.end } in
    let mine = ap (λ (b : BodyOf). length b.elements) c.self.view_is in
    let mine_rows = ap (λ (b : BodyOf). row_count b.elements) c.self.view_is in
    let theirs = ap (λ (b : BodyOf). length b.elements) c.other.view_is in
    let their_rows = ap (λ (b : BodyOf). row_count b.elements) c.other.view_is in
    let room = ap (λ (b : BodyOf). b.room) c.self.view_is in
    let row_room = ap (λ (b : BodyOf). b.row_room) c.self.view_is in
    let within : a.to ≤ length old.elements = omega (arith, c.requires.within, mine) in
    let fits = exchange-fits a.from a.to old others c.self.invariant c.other.invariant c.requires.order within
    (omega (arith, c.requires.row_room, mine_rows, their_rows, row_room, c.len-room.ensures.row_small))
    (omega (arith, c.requires.room, mine, theirs, room, c.self.inside.elements.small, c.self.inside.elements.ok)) in
    let row : c.rows_before-row.result ≡ row_count (take a.from old.elements) = c.rows_before-row.ensures ∙ sym (ap (λ (b : BodyOf). row_count (take a.from b.elements)) c.self.view_is) in
    let end : c.rows_before-row_end.result ≡ row_count (take a.to old.elements) = c.rows_before-row_end.ensures ∙ sym (ap (λ (b : BodyOf). row_count (take a.to b.elements)) c.self.view_is) in
    omega (arith, fits.shapes_len, fits.others_shapes, c.requires.row_room, mine_rows, their_rows, row_room)

pub exchange-requires-clause-back_room : goal.exchange-requires-clause-back_room
exchange-requires-clause-back_room c =
    let a = c.args in
    let old : BodyParts = record { elements = c.self.inside.elements.items; facts = c.self.inside.facts.facts; row_starts = c.self.inside.row_starts.items; heading_starts = c.self.inside.heading_starts.items; rows = c.self.inside.row_starts.end; headings = c.self.inside.heading_starts.end } in
    let others : BodyParts = record { elements = c.other.inside.elements.items; facts = c.other.inside.facts.facts; row_starts = c.other.inside.row_starts.items; heading_starts = c.other.inside.heading_starts.items; rows = c.other.inside.row_starts.end; headings = c.other.inside.heading_starts.end } in
    let mine = ap (λ (b : BodyOf). length b.elements) c.self.view_is in
    let mine_rows = ap (λ (b : BodyOf). row_count b.elements) c.self.view_is in
    let theirs = ap (λ (b : BodyOf). length b.elements) c.other.view_is in
    let their_rows = ap (λ (b : BodyOf). row_count b.elements) c.other.view_is in
    let room = ap (λ (b : BodyOf). b.room) c.self.view_is in
    let row_room = ap (λ (b : BodyOf). b.row_room) c.self.view_is in
    let within : a.to ≤ length old.elements = omega (arith, c.requires.within, mine) in
    let fits = exchange-fits a.from a.to old others c.self.invariant c.other.invariant c.requires.order within
    (omega (arith, c.requires.row_room, mine_rows, their_rows, row_room, c.len-room.ensures.row_small))
    (omega (arith, c.requires.room, mine, theirs, room, c.self.inside.elements.small, c.self.inside.elements.ok)) in
    let row : c.rows_before-row.result ≡ row_count (take a.from old.elements) = c.rows_before-row.ensures ∙ sym (ap (λ (b : BodyOf). row_count (take a.from b.elements)) c.self.view_is) in
    let end : c.rows_before-row_end.result ≡ row_count (take a.to old.elements) = c.rows_before-row_end.ensures ∙ sym (ap (λ (b : BodyOf). row_count (take a.to b.elements)) c.self.view_is) in
    let back_rows = ap (λ (b : BodyOf). row_count (slice_range b.elements a.from a.to)) c.self.view_is in
    let back_row_room = ap (λ (b : BodyOf). b.row_room) c.other.view_is in
    omega (arith, row, end, fits.run_rows, c.requires.back_row_room, back_rows, back_row_room)

pub overflow_add-row : goal.overflow_add-row
overflow_add-row c =
    let a = c.args in
    let old : BodyParts = record { elements = c.self.inside.elements.items; facts = c.self.inside.facts.facts; row_starts = c.self.inside.row_starts.items; heading_starts = c.self.inside.heading_starts.items; rows = c.self.inside.row_starts.end; headings = c.self.inside.heading_starts.end } in
    let others : BodyParts = record { elements = c.other.inside.elements.items; facts = c.other.inside.facts.facts; row_starts = c.other.inside.row_starts.items; heading_starts = c.other.inside.heading_starts.items; rows = c.other.inside.row_starts.end; headings = c.other.inside.heading_starts.end } in
    let mine = ap (λ (b : BodyOf). length b.elements) c.self.view_is in
    let mine_rows = ap (λ (b : BodyOf). row_count b.elements) c.self.view_is in
    let theirs = ap (λ (b : BodyOf). length b.elements) c.other.view_is in
    let their_rows = ap (λ (b : BodyOf). row_count b.elements) c.other.view_is in
    let room = ap (λ (b : BodyOf). b.room) c.self.view_is in
    let row_room = ap (λ (b : BodyOf). b.row_room) c.self.view_is in
    let within : a.to ≤ length old.elements = omega (arith, c.requires.within, mine) in
    let fits = exchange-fits a.from a.to old others c.self.invariant c.other.invariant c.requires.order within
    (omega (arith, c.requires.row_room, mine_rows, their_rows, row_room, c.len-room.ensures.row_small))
    (omega (arith, c.requires.room, mine, theirs, room, c.self.inside.elements.small, c.self.inside.elements.ok)) in
    let row : c.rows_before-row.result ≡ row_count (take a.from old.elements) = c.rows_before-row.ensures ∙ sym (ap (λ (b : BodyOf). row_count (take a.from b.elements)) c.self.view_is) in
    let end : c.rows_before-row_end.result ≡ row_count (take a.to old.elements) = c.rows_before-row_end.ensures ∙ sym (ap (λ (b : BodyOf). row_count (take a.to b.elements)) c.self.view_is) in
    let rows : c.len-rows.result ≡ row_count others.elements = omega (arith, c.len-rows.ensures.len, fits.others_shapes) in
    omega (arith, row, rows, fits.rows_order, fits.rows_within, c.requires.row_room, mine_rows, their_rows, row_room, c.len-room.ensures.row_small)

pub exchange-requires-2-clause-within : goal.exchange-requires-2-clause-within
exchange-requires-2-clause-within c =
    let a = c.args in
    let old : BodyParts = record { elements = c.self.inside.elements.items; facts = c.self.inside.facts.facts; row_starts = c.self.inside.row_starts.items; heading_starts = c.self.inside.heading_starts.items; rows = c.self.inside.row_starts.end; headings = c.self.inside.heading_starts.end } in
    let others : BodyParts = record { elements = c.other.inside.elements.items; facts = c.other.inside.facts.facts; row_starts = c.other.inside.row_starts.items; heading_starts = c.other.inside.heading_starts.items; rows = c.other.inside.row_starts.end; headings = c.other.inside.heading_starts.end } in
    let mine = ap (λ (b : BodyOf). length b.elements) c.self.view_is in
    let mine_rows = ap (λ (b : BodyOf). row_count b.elements) c.self.view_is in
    let theirs = ap (λ (b : BodyOf). length b.elements) c.other.view_is in
    let their_rows = ap (λ (b : BodyOf). row_count b.elements) c.other.view_is in
    let room = ap (λ (b : BodyOf). b.room) c.self.view_is in
    let row_room = ap (λ (b : BodyOf). b.row_room) c.self.view_is in
    let within : a.to ≤ length old.elements = omega (arith, c.requires.within, mine) in
    let fits = exchange-fits a.from a.to old others c.self.invariant c.other.invariant c.requires.order within
    (omega (arith, c.requires.row_room, mine_rows, their_rows, row_room, c.len-room.ensures.row_small))
    (omega (arith, c.requires.room, mine, theirs, room, c.self.inside.elements.small, c.self.inside.elements.ok)) in
    omega (arith, within, fits.starts_len)

pub exchange-requires-2-clause-can : goal.exchange-requires-2-clause-can
exchange-requires-2-clause-can c =
    let a = c.args in
    let old : BodyParts = record { elements = c.self.inside.elements.items; facts = c.self.inside.facts.facts; row_starts = c.self.inside.row_starts.items; heading_starts = c.self.inside.heading_starts.items; rows = c.self.inside.row_starts.end; headings = c.self.inside.heading_starts.end } in
    let others : BodyParts = record { elements = c.other.inside.elements.items; facts = c.other.inside.facts.facts; row_starts = c.other.inside.row_starts.items; heading_starts = c.other.inside.heading_starts.items; rows = c.other.inside.row_starts.end; headings = c.other.inside.heading_starts.end } in
    let mine = ap (λ (b : BodyOf). length b.elements) c.self.view_is in
    let mine_rows = ap (λ (b : BodyOf). row_count b.elements) c.self.view_is in
    let theirs = ap (λ (b : BodyOf). length b.elements) c.other.view_is in
    let their_rows = ap (λ (b : BodyOf). row_count b.elements) c.other.view_is in
    let room = ap (λ (b : BodyOf). b.room) c.self.view_is in
    let row_room = ap (λ (b : BodyOf). b.row_room) c.self.view_is in
    let within : a.to ≤ length old.elements = omega (arith, c.requires.within, mine) in
    let fits = exchange-fits a.from a.to old others c.self.invariant c.other.invariant c.requires.order within
    (omega (arith, c.requires.row_room, mine_rows, their_rows, row_room, c.len-room.ensures.row_small))
    (omega (arith, c.requires.room, mine, theirs, room, c.self.inside.elements.small, c.self.inside.elements.ok)) in
    let row : c.rows_before-row.result ≡ row_count (take a.from old.elements) = c.rows_before-row.ensures ∙ sym (ap (λ (b : BodyOf). row_count (take a.from b.elements)) c.self.view_is) in
    let end : c.rows_before-row_end.result ≡ row_count (take a.to old.elements) = c.rows_before-row_end.ensures ∙ sym (ap (λ (b : BodyOf). row_count (take a.to b.elements)) c.self.view_is) in
    let more : row_count (take a.from old.elements) + others.rows ≡ c.rows_before-row.result + c.len-rows.result = omega (arith, row, c.len-rows.ensures.len, fits.others_shapes, c.other.invariant.rows) in
    subst (λ n. CanExchangePlaces old.row_starts old.rows a.from a.to n c.rows_before-row_end.result (c.rows_before-row.result + c.len-rows.result) others.rows) (sym row)
    (subst (λ n. CanExchangePlaces old.row_starts old.rows a.from a.to (row_count (take a.from old.elements)) n (c.rows_before-row.result + c.len-rows.result) others.rows) (sym end)
    (subst (λ n. CanExchangePlaces old.row_starts old.rows a.from a.to (row_count (take a.from old.elements)) (row_count (take a.to old.elements)) n others.rows) more fits.rows_can))

pub exchange-requires-3-clause-can : goal.exchange-requires-3-clause-can
exchange-requires-3-clause-can c =
    let a = c.args in
    let old : BodyParts = record { elements = c.self.inside.elements.items; facts = c.self.inside.facts.facts; row_starts = c.self.inside.row_starts.items; heading_starts = c.self.inside.heading_starts.items; rows = c.self.inside.row_starts.end; headings = c.self.inside.heading_starts.end } in
    let others : BodyParts = record { elements = c.other.inside.elements.items; facts = c.other.inside.facts.facts; row_starts = c.other.inside.row_starts.items; heading_starts = c.other.inside.heading_starts.items; rows = c.other.inside.row_starts.end; headings = c.other.inside.heading_starts.end } in
    let mine = ap (λ (b : BodyOf). length b.elements) c.self.view_is in
    let mine_rows = ap (λ (b : BodyOf). row_count b.elements) c.self.view_is in
    let theirs = ap (λ (b : BodyOf). length b.elements) c.other.view_is in
    let their_rows = ap (λ (b : BodyOf). row_count b.elements) c.other.view_is in
    let room = ap (λ (b : BodyOf). b.room) c.self.view_is in
    let row_room = ap (λ (b : BodyOf). b.row_room) c.self.view_is in
    let within : a.to ≤ length old.elements = omega (arith, c.requires.within, mine) in
    let fits = exchange-fits a.from a.to old others c.self.invariant c.other.invariant c.requires.order within
    (omega (arith, c.requires.row_room, mine_rows, their_rows, row_room, c.len-room.ensures.row_small))
    (omega (arith, c.requires.room, mine, theirs, room, c.self.inside.elements.small, c.self.inside.elements.ok)) in
    let heading : c.headings_before-heading.result ≡ heading_count (take a.from old.elements) = c.headings_before-heading.ensures ∙ sym (ap (λ (b : BodyOf). heading_count (take a.from b.elements)) c.self.view_is) in
    let end : c.headings_before-heading_end.result ≡ heading_count (take a.to old.elements) = c.headings_before-heading_end.ensures ∙ sym (ap (λ (b : BodyOf). heading_count (take a.to b.elements)) c.self.view_is) in
    let more : heading_count (take a.from old.elements) + others.headings ≡ c.headings_before-heading.result + c.end-headings.result = omega (arith, heading, c.end-headings.ensures) in
    subst (λ n. CanExchangePlaces old.heading_starts old.headings a.from a.to n c.headings_before-heading_end.result (c.headings_before-heading.result + c.end-headings.result) others.headings) (sym heading)
    (subst (λ n. CanExchangePlaces old.heading_starts old.headings a.from a.to (heading_count (take a.from old.elements)) n (c.headings_before-heading.result + c.end-headings.result) others.headings) (sym end)
    (subst (λ n. CanExchangePlaces old.heading_starts old.headings a.from a.to (heading_count (take a.from old.elements)) (heading_count (take a.to old.elements)) n others.headings) more fits.headings_can))

pub exchange-requires-2-clause-room : goal.exchange-requires-2-clause-room
exchange-requires-2-clause-room c =
    let a = c.args in
    let old : BodyParts = record { elements = c.self.inside.elements.items; facts = c.self.inside.facts.facts; row_starts = c.self.inside.row_starts.items; heading_starts = c.self.inside.heading_starts.items; rows = c.self.inside.row_starts.end; headings = c.self.inside.heading_starts.end } in
    let others : BodyParts = record { elements = c.other.inside.elements.items; facts = c.other.inside.facts.facts; row_starts = c.other.inside.row_starts.items; heading_starts = c.other.inside.heading_starts.items; rows = c.other.inside.row_starts.end; headings = c.other.inside.heading_starts.end } in
    let mine = ap (λ (b : BodyOf). length b.elements) c.self.view_is in
    let mine_rows = ap (λ (b : BodyOf). row_count b.elements) c.self.view_is in
    let theirs = ap (λ (b : BodyOf). length b.elements) c.other.view_is in
    let their_rows = ap (λ (b : BodyOf). row_count b.elements) c.other.view_is in
    let room = ap (λ (b : BodyOf). b.room) c.self.view_is in
    let row_room = ap (λ (b : BodyOf). b.row_room) c.self.view_is in
    let within : a.to ≤ length old.elements = omega (arith, c.requires.within, mine) in
    let fits = exchange-fits a.from a.to old others c.self.invariant c.other.invariant c.requires.order within
    (omega (arith, c.requires.row_room, mine_rows, their_rows, row_room, c.len-room.ensures.row_small))
    (omega (arith, c.requires.room, mine, theirs, room, c.self.inside.elements.small, c.self.inside.elements.ok)) in
    omega (arith, fits.starts_len, fits.others_starts, c.requires.room, mine, theirs, room)

pub overflow_add-heading : goal.overflow_add-heading
overflow_add-heading c =
    let a = c.args in
    let old : BodyParts = record { elements = c.self.inside.elements.items; facts = c.self.inside.facts.facts; row_starts = c.self.inside.row_starts.items; heading_starts = c.self.inside.heading_starts.items; rows = c.self.inside.row_starts.end; headings = c.self.inside.heading_starts.end } in
    let others : BodyParts = record { elements = c.other.inside.elements.items; facts = c.other.inside.facts.facts; row_starts = c.other.inside.row_starts.items; heading_starts = c.other.inside.heading_starts.items; rows = c.other.inside.row_starts.end; headings = c.other.inside.heading_starts.end } in
    let mine = ap (λ (b : BodyOf). length b.elements) c.self.view_is in
    let mine_rows = ap (λ (b : BodyOf). row_count b.elements) c.self.view_is in
    let theirs = ap (λ (b : BodyOf). length b.elements) c.other.view_is in
    let their_rows = ap (λ (b : BodyOf). row_count b.elements) c.other.view_is in
    let room = ap (λ (b : BodyOf). b.room) c.self.view_is in
    let row_room = ap (λ (b : BodyOf). b.row_room) c.self.view_is in
    let within : a.to ≤ length old.elements = omega (arith, c.requires.within, mine) in
    let fits = exchange-fits a.from a.to old others c.self.invariant c.other.invariant c.requires.order within
    (omega (arith, c.requires.row_room, mine_rows, their_rows, row_room, c.len-room.ensures.row_small))
    (omega (arith, c.requires.room, mine, theirs, room, c.self.inside.elements.small, c.self.inside.elements.ok)) in
    let heading : c.headings_before-heading.result ≡ heading_count (take a.from old.elements) = c.headings_before-heading.ensures ∙ sym (ap (λ (b : BodyOf). heading_count (take a.from b.elements)) c.self.view_is) in
    let heading_end : c.headings_before-heading_end.result ≡ heading_count (take a.to old.elements) = c.headings_before-heading_end.ensures ∙ sym (ap (λ (b : BodyOf). heading_count (take a.to b.elements)) c.self.view_is) in
    omega (arith, heading, c.end-headings.ensures, c.other.invariant.headings, fits.headings_order, fits.headings_within, fits.headings_few, fits.others_few, c.requires.room, mine, theirs, room, c.self.inside.elements.small, c.self.inside.elements.ok)

pub exchange-requires-3-clause-within : goal.exchange-requires-3-clause-within
exchange-requires-3-clause-within c =
    let a = c.args in
    let old : BodyParts = record { elements = c.self.inside.elements.items; facts = c.self.inside.facts.facts; row_starts = c.self.inside.row_starts.items; heading_starts = c.self.inside.heading_starts.items; rows = c.self.inside.row_starts.end; headings = c.self.inside.heading_starts.end } in
    let others : BodyParts = record { elements = c.other.inside.elements.items; facts = c.other.inside.facts.facts; row_starts = c.other.inside.row_starts.items; heading_starts = c.other.inside.heading_starts.items; rows = c.other.inside.row_starts.end; headings = c.other.inside.heading_starts.end } in
    let mine = ap (λ (b : BodyOf). length b.elements) c.self.view_is in
    let mine_rows = ap (λ (b : BodyOf). row_count b.elements) c.self.view_is in
    let theirs = ap (λ (b : BodyOf). length b.elements) c.other.view_is in
    let their_rows = ap (λ (b : BodyOf). row_count b.elements) c.other.view_is in
    let room = ap (λ (b : BodyOf). b.room) c.self.view_is in
    let row_room = ap (λ (b : BodyOf). b.row_room) c.self.view_is in
    let within : a.to ≤ length old.elements = omega (arith, c.requires.within, mine) in
    let fits = exchange-fits a.from a.to old others c.self.invariant c.other.invariant c.requires.order within
    (omega (arith, c.requires.row_room, mine_rows, their_rows, row_room, c.len-room.ensures.row_small))
    (omega (arith, c.requires.room, mine, theirs, room, c.self.inside.elements.small, c.self.inside.elements.ok)) in
    omega (arith, within, fits.heading_starts_len)

pub exchange-requires-3-clause-room : goal.exchange-requires-3-clause-room
exchange-requires-3-clause-room c =
    let a = c.args in
    let old : BodyParts = record { elements = c.self.inside.elements.items; facts = c.self.inside.facts.facts; row_starts = c.self.inside.row_starts.items; heading_starts = c.self.inside.heading_starts.items; rows = c.self.inside.row_starts.end; headings = c.self.inside.heading_starts.end } in
    let others : BodyParts = record { elements = c.other.inside.elements.items; facts = c.other.inside.facts.facts; row_starts = c.other.inside.row_starts.items; heading_starts = c.other.inside.heading_starts.items; rows = c.other.inside.row_starts.end; headings = c.other.inside.heading_starts.end } in
    let mine = ap (λ (b : BodyOf). length b.elements) c.self.view_is in
    let mine_rows = ap (λ (b : BodyOf). row_count b.elements) c.self.view_is in
    let theirs = ap (λ (b : BodyOf). length b.elements) c.other.view_is in
    let their_rows = ap (λ (b : BodyOf). row_count b.elements) c.other.view_is in
    let room = ap (λ (b : BodyOf). b.room) c.self.view_is in
    let row_room = ap (λ (b : BodyOf). b.row_room) c.self.view_is in
    let within : a.to ≤ length old.elements = omega (arith, c.requires.within, mine) in
    let fits = exchange-fits a.from a.to old others c.self.invariant c.other.invariant c.requires.order within
    (omega (arith, c.requires.row_room, mine_rows, their_rows, row_room, c.len-room.ensures.row_small))
    (omega (arith, c.requires.room, mine, theirs, room, c.self.inside.elements.small, c.self.inside.elements.ok)) in
    omega (arith, fits.heading_starts_len, fits.others_heading_starts, c.requires.room, mine, theirs, room)

pub move_elements-requires-clause-can : goal.move_elements-requires-clause-can
move_elements-requires-clause-can c =
    let a = c.args in
    let old : BodyParts = record { elements = c.self.inside.elements.items; facts = c.self.inside.facts.facts; row_starts = c.self.inside.row_starts.items; heading_starts = c.self.inside.heading_starts.items; rows = c.self.inside.row_starts.end; headings = c.self.inside.heading_starts.end } in
    let others : BodyParts = record { elements = c.other.inside.elements.items; facts = c.other.inside.facts.facts; row_starts = c.other.inside.row_starts.items; heading_starts = c.other.inside.heading_starts.items; rows = c.other.inside.row_starts.end; headings = c.other.inside.heading_starts.end } in
    let mine = ap (λ (b : BodyOf). length b.elements) c.self.view_is in
    let mine_rows = ap (λ (b : BodyOf). row_count b.elements) c.self.view_is in
    let theirs = ap (λ (b : BodyOf). length b.elements) c.other.view_is in
    let their_rows = ap (λ (b : BodyOf). row_count b.elements) c.other.view_is in
    let room = ap (λ (b : BodyOf). b.room) c.self.view_is in
    let row_room = ap (λ (b : BodyOf). b.row_room) c.self.view_is in
    let within : a.to ≤ length old.elements = omega (arith, c.requires.within, mine) in
    let fits = exchange-fits a.from a.to old others c.self.invariant c.other.invariant c.requires.order within
    (omega (arith, c.requires.row_room, mine_rows, their_rows, row_room, c.len-room.ensures.row_small))
    (omega (arith, c.requires.room, mine, theirs, room, c.self.inside.elements.small, c.self.inside.elements.ok)) in
    let count : c.len-count.result ≡ length others.elements = omega (arith, c.len-count.ensures, c.other.inside.elements.ok.0) in
    let there : drop (a.from + c.len-count.result) c.exchange-4.new.list.items ≡ drop a.to old.elements =
    ap (drop (a.from + c.len-count.result)) c.exchange-4.ensures.list ∙ (behind-is old.elements others.elements a.from a.to c.len-count.result c.requires.order within count).1 in
    subst (All (CanMove a.less a.more)) (sym (there ∙ ap (λ (b : BodyOf). drop a.to b.elements) c.self.view_is)) c.requires.later

pub invariant_of-self : goal.invariant_of-self
invariant_of-self c =
    let a = c.args in
    let old : BodyParts = record { elements = c.self.inside.elements.items; facts = c.self.inside.facts.facts; row_starts = c.self.inside.row_starts.items; heading_starts = c.self.inside.heading_starts.items; rows = c.self.inside.row_starts.end; headings = c.self.inside.heading_starts.end } in
    let others : BodyParts = record { elements = c.other.inside.elements.items; facts = c.other.inside.facts.facts; row_starts = c.other.inside.row_starts.items; heading_starts = c.other.inside.heading_starts.items; rows = c.other.inside.row_starts.end; headings = c.other.inside.heading_starts.end } in
    let mine = ap (λ (b : BodyOf). length b.elements) c.self.view_is in
    let mine_rows = ap (λ (b : BodyOf). row_count b.elements) c.self.view_is in
    let theirs = ap (λ (b : BodyOf). length b.elements) c.other.view_is in
    let their_rows = ap (λ (b : BodyOf). row_count b.elements) c.other.view_is in
    let room = ap (λ (b : BodyOf). b.room) c.self.view_is in
    let row_room = ap (λ (b : BodyOf). b.row_room) c.self.view_is in
    let within : a.to ≤ length old.elements = omega (arith, c.requires.within, mine) in
    let fits = exchange-fits a.from a.to old others c.self.invariant c.other.invariant c.requires.order within
    (omega (arith, c.requires.row_room, mine_rows, their_rows, row_room, c.len-room.ensures.row_small))
    (omega (arith, c.requires.room, mine, theirs, room, c.self.inside.elements.small, c.self.inside.elements.ok)) in
    let row : c.rows_before-row.result ≡ row_count (take a.from old.elements) = c.rows_before-row.ensures ∙ sym (ap (λ (b : BodyOf). row_count (take a.from b.elements)) c.self.view_is) in
    let end : c.rows_before-row_end.result ≡ row_count (take a.to old.elements) = c.rows_before-row_end.ensures ∙ sym (ap (λ (b : BodyOf). row_count (take a.to b.elements)) c.self.view_is) in
    let heading : c.headings_before-heading.result ≡ heading_count (take a.from old.elements) = c.headings_before-heading.ensures ∙ sym (ap (λ (b : BodyOf). heading_count (take a.from b.elements)) c.self.view_is) in
    let heading_end : c.headings_before-heading_end.result ≡ heading_count (take a.to old.elements) = c.headings_before-heading_end.ensures ∙ sym (ap (λ (b : BodyOf). heading_count (take a.to b.elements)) c.self.view_is) in
    let rows : c.len-rows.result ≡ row_count others.elements = omega (arith, c.len-rows.ensures.len, fits.others_shapes) in
    let count : c.len-count.result ≡ length others.elements = omega (arith, c.len-count.ensures, c.other.inside.elements.ok.0) in
    let new : BodyParts = record { elements = c.move_elements.new.elements.items; facts = c.exchange.new.self.facts; row_starts = c.exchange-2.new.self.items; heading_starts = c.exchange-3.new.self.items; rows = c.exchange-2.new.self.end; headings = c.exchange-3.new.self.end } in
    let taken : BodyParts = record { elements = c.exchange-4.new.items.items; facts = c.exchange.new.other.facts; row_starts = c.exchange-2.new.other.items; heading_starts = c.exchange-3.new.other.items; rows = c.exchange-2.new.other.end; headings = c.exchange-3.new.other.end } in
    let done : IsExchanged a.from a.to a.less a.more old others new taken = record {
      elements = moved-behind old.elements others.elements c.exchange-4.new.list.items new.elements a.from a.to c.len-count.result a.less a.more c.requires.order within count c.exchange-4.ensures.list c.move_elements.ensures.elements;
      facts = c.exchange.ensures.facts ∙ ap₂ (λ n m. with_facts old.facts n m others.facts) row end;
      row_starts = c.exchange-2.ensures.items
          ∙ ap₂ (λ n m. take a.from old.row_starts ++ (map (shifted 0 n) others.row_starts ++ map (shifted m (n + c.len-rows.result)) (drop a.to old.row_starts))) row end
          ∙ ap (λ n. take a.from old.row_starts ++ (map (shifted 0 (row_count (take a.from old.elements))) others.row_starts ++ map (shifted (row_count (take a.to old.elements)) (row_count (take a.from old.elements) + n)) (drop a.to old.row_starts))) rows;
      heading_starts = c.exchange-3.ensures.items
          ∙ ap₂ (λ n m. take a.from old.heading_starts ++ (map (shifted 0 n) others.heading_starts ++ map (shifted m (n + c.end-headings.result)) (drop a.to old.heading_starts))) heading heading_end
          ∙ ap (λ n. take a.from old.heading_starts ++ (map (shifted 0 (heading_count (take a.from old.elements))) others.heading_starts ++ map (shifted (heading_count (take a.to old.elements)) (heading_count (take a.from old.elements) + n)) (drop a.to old.heading_starts))) (c.end-headings.ensures ∙ c.other.invariant.headings);
      rows = omega (arith, c.exchange-2.ensures.end, row, end, rows, c.self.invariant.rows, fits.rows_within);
      headings = omega (arith, c.exchange-3.ensures.end, heading, heading_end, c.end-headings.ensures, c.self.invariant.headings, c.other.invariant.headings, fits.headings_within);
      taken_elements = c.exchange-4.ensures.items;
      taken_facts = c.exchange.ensures.taken ∙ ap₂ (λ n m. facts_between old.facts n m) row end;
      taken_row_starts = c.exchange-2.ensures.other ∙ ap (λ n. map (shifted n 0) (slice_range old.row_starts a.from a.to)) row;
      taken_heading_starts = c.exchange-3.ensures.other ∙ ap (λ n. map (shifted n 0) (slice_range old.heading_starts a.from a.to)) heading;
      taken_rows = omega (arith, c.exchange-2.ensures.other_end, row, end, fits.rows_order);
      taken_headings = omega (arith, c.exchange-3.ensures.other_end, heading, heading_end, fits.headings_order);
    } in
    IsBody-exchanged a.from a.to a.less a.more old others new taken c.requires.order within c.self.invariant c.other.invariant done

pub invariant_of-other : goal.invariant_of-other
invariant_of-other c =
    let a = c.args in
    let old : BodyParts = record { elements = c.self.inside.elements.items; facts = c.self.inside.facts.facts; row_starts = c.self.inside.row_starts.items; heading_starts = c.self.inside.heading_starts.items; rows = c.self.inside.row_starts.end; headings = c.self.inside.heading_starts.end } in
    let others : BodyParts = record { elements = c.other.inside.elements.items; facts = c.other.inside.facts.facts; row_starts = c.other.inside.row_starts.items; heading_starts = c.other.inside.heading_starts.items; rows = c.other.inside.row_starts.end; headings = c.other.inside.heading_starts.end } in
    let mine = ap (λ (b : BodyOf). length b.elements) c.self.view_is in
    let mine_rows = ap (λ (b : BodyOf). row_count b.elements) c.self.view_is in
    let theirs = ap (λ (b : BodyOf). length b.elements) c.other.view_is in
    let their_rows = ap (λ (b : BodyOf). row_count b.elements) c.other.view_is in
    let room = ap (λ (b : BodyOf). b.room) c.self.view_is in
    let row_room = ap (λ (b : BodyOf). b.row_room) c.self.view_is in
    let within : a.to ≤ length old.elements = omega (arith, c.requires.within, mine) in
    let fits = exchange-fits a.from a.to old others c.self.invariant c.other.invariant c.requires.order within
    (omega (arith, c.requires.row_room, mine_rows, their_rows, row_room, c.len-room.ensures.row_small))
    (omega (arith, c.requires.room, mine, theirs, room, c.self.inside.elements.small, c.self.inside.elements.ok)) in
    let row : c.rows_before-row.result ≡ row_count (take a.from old.elements) = c.rows_before-row.ensures ∙ sym (ap (λ (b : BodyOf). row_count (take a.from b.elements)) c.self.view_is) in
    let end : c.rows_before-row_end.result ≡ row_count (take a.to old.elements) = c.rows_before-row_end.ensures ∙ sym (ap (λ (b : BodyOf). row_count (take a.to b.elements)) c.self.view_is) in
    let heading : c.headings_before-heading.result ≡ heading_count (take a.from old.elements) = c.headings_before-heading.ensures ∙ sym (ap (λ (b : BodyOf). heading_count (take a.from b.elements)) c.self.view_is) in
    let heading_end : c.headings_before-heading_end.result ≡ heading_count (take a.to old.elements) = c.headings_before-heading_end.ensures ∙ sym (ap (λ (b : BodyOf). heading_count (take a.to b.elements)) c.self.view_is) in
    let rows : c.len-rows.result ≡ row_count others.elements = omega (arith, c.len-rows.ensures.len, fits.others_shapes) in
    let count : c.len-count.result ≡ length others.elements = omega (arith, c.len-count.ensures, c.other.inside.elements.ok.0) in
    let new : BodyParts = record { elements = c.move_elements.new.elements.items; facts = c.exchange.new.self.facts; row_starts = c.exchange-2.new.self.items; heading_starts = c.exchange-3.new.self.items; rows = c.exchange-2.new.self.end; headings = c.exchange-3.new.self.end } in
    let taken : BodyParts = record { elements = c.exchange-4.new.items.items; facts = c.exchange.new.other.facts; row_starts = c.exchange-2.new.other.items; heading_starts = c.exchange-3.new.other.items; rows = c.exchange-2.new.other.end; headings = c.exchange-3.new.other.end } in
    let done : IsExchanged a.from a.to a.less a.more old others new taken = record {
      elements = moved-behind old.elements others.elements c.exchange-4.new.list.items new.elements a.from a.to c.len-count.result a.less a.more c.requires.order within count c.exchange-4.ensures.list c.move_elements.ensures.elements;
      facts = c.exchange.ensures.facts ∙ ap₂ (λ n m. with_facts old.facts n m others.facts) row end;
      row_starts = c.exchange-2.ensures.items
          ∙ ap₂ (λ n m. take a.from old.row_starts ++ (map (shifted 0 n) others.row_starts ++ map (shifted m (n + c.len-rows.result)) (drop a.to old.row_starts))) row end
          ∙ ap (λ n. take a.from old.row_starts ++ (map (shifted 0 (row_count (take a.from old.elements))) others.row_starts ++ map (shifted (row_count (take a.to old.elements)) (row_count (take a.from old.elements) + n)) (drop a.to old.row_starts))) rows;
      heading_starts = c.exchange-3.ensures.items
          ∙ ap₂ (λ n m. take a.from old.heading_starts ++ (map (shifted 0 n) others.heading_starts ++ map (shifted m (n + c.end-headings.result)) (drop a.to old.heading_starts))) heading heading_end
          ∙ ap (λ n. take a.from old.heading_starts ++ (map (shifted 0 (heading_count (take a.from old.elements))) others.heading_starts ++ map (shifted (heading_count (take a.to old.elements)) (heading_count (take a.from old.elements) + n)) (drop a.to old.heading_starts))) (c.end-headings.ensures ∙ c.other.invariant.headings);
      rows = omega (arith, c.exchange-2.ensures.end, row, end, rows, c.self.invariant.rows, fits.rows_within);
      headings = omega (arith, c.exchange-3.ensures.end, heading, heading_end, c.end-headings.ensures, c.self.invariant.headings, c.other.invariant.headings, fits.headings_within);
      taken_elements = c.exchange-4.ensures.items;
      taken_facts = c.exchange.ensures.taken ∙ ap₂ (λ n m. facts_between old.facts n m) row end;
      taken_row_starts = c.exchange-2.ensures.other ∙ ap (λ n. map (shifted n 0) (slice_range old.row_starts a.from a.to)) row;
      taken_heading_starts = c.exchange-3.ensures.other ∙ ap (λ n. map (shifted n 0) (slice_range old.heading_starts a.from a.to)) heading;
      taken_rows = omega (arith, c.exchange-2.ensures.other_end, row, end, fits.rows_order);
      taken_headings = omega (arith, c.exchange-3.ensures.other_end, heading, heading_end, fits.headings_order);
    } in
    IsBody-taken a.from a.to a.less a.more old others new taken c.requires.order within c.self.invariant done

pub returns-clause-elements : goal.returns-clause-elements
returns-clause-elements c =
    let a = c.args in
    let old : BodyParts = record { elements = c.self.inside.elements.items; facts = c.self.inside.facts.facts; row_starts = c.self.inside.row_starts.items; heading_starts = c.self.inside.heading_starts.items; rows = c.self.inside.row_starts.end; headings = c.self.inside.heading_starts.end } in
    let others : BodyParts = record { elements = c.other.inside.elements.items; facts = c.other.inside.facts.facts; row_starts = c.other.inside.row_starts.items; heading_starts = c.other.inside.heading_starts.items; rows = c.other.inside.row_starts.end; headings = c.other.inside.heading_starts.end } in
    let mine = ap (λ (b : BodyOf). length b.elements) c.self.view_is in
    let mine_rows = ap (λ (b : BodyOf). row_count b.elements) c.self.view_is in
    let theirs = ap (λ (b : BodyOf). length b.elements) c.other.view_is in
    let their_rows = ap (λ (b : BodyOf). row_count b.elements) c.other.view_is in
    let room = ap (λ (b : BodyOf). b.room) c.self.view_is in
    let row_room = ap (λ (b : BodyOf). b.row_room) c.self.view_is in
    let within : a.to ≤ length old.elements = omega (arith, c.requires.within, mine) in
    let fits = exchange-fits a.from a.to old others c.self.invariant c.other.invariant c.requires.order within
    (omega (arith, c.requires.row_room, mine_rows, their_rows, row_room, c.len-room.ensures.row_small))
    (omega (arith, c.requires.room, mine, theirs, room, c.self.inside.elements.small, c.self.inside.elements.ok)) in
    let row : c.rows_before-row.result ≡ row_count (take a.from old.elements) = c.rows_before-row.ensures ∙ sym (ap (λ (b : BodyOf). row_count (take a.from b.elements)) c.self.view_is) in
    let end : c.rows_before-row_end.result ≡ row_count (take a.to old.elements) = c.rows_before-row_end.ensures ∙ sym (ap (λ (b : BodyOf). row_count (take a.to b.elements)) c.self.view_is) in
    let count : c.len-count.result ≡ length others.elements = omega (arith, c.len-count.ensures, c.other.inside.elements.ok.0) in
    ap₂ (λ (those : List ElementOf) (keys : List RowKey). record { elements = those; keys = keys })
    (moved-behind old.elements others.elements c.exchange-4.new.list.items c.move_elements.new.elements.items a.from a.to c.len-count.result a.less a.more c.requires.order within count c.exchange-4.ensures.list c.move_elements.ensures.elements)
    (ap (λ (facts : FactsOf). facts.keys) (c.exchange.ensures.facts ∙ ap₂ (λ n m. with_facts old.facts n m others.facts) row end))
    ∙ ap₂ (λ (b o : BodyOf). with_run (keyed_elements b) a.from a.to (keyed_elements o) a.less a.more) c.self.view_is c.other.view_is

pub exchange-requires-4-clause-within : goal.exchange-requires-4-clause-within
exchange-requires-4-clause-within c = grind (arith, common_steps)

pub exchange-requires-4-clause-room : goal.exchange-requires-4-clause-room
exchange-requires-4-clause-room c = grind (arith, common_steps)

pub exchange-requires-4-clause-items_room : goal.exchange-requires-4-clause-items_room
exchange-requires-4-clause-items_room c = grind (arith, common_steps)

pub exchange-requires-2-clause-other_room : goal.exchange-requires-2-clause-other_room
exchange-requires-2-clause-other_room c = grind (arith, common_steps)

pub exchange-requires-3-clause-other_room : goal.exchange-requires-3-clause-other_room
exchange-requires-3-clause-other_room c = grind (arith, common_steps)

pub move_elements-requires-clause-within : goal.move_elements-requires-clause-within
move_elements-requires-clause-within c = grind (arith, common_steps)

pub overflow_add-from : goal.overflow_add-from
overflow_add-from c = grind (arith, common_steps)

pub returns-clause-back_room : goal.returns-clause-back_room
returns-clause-back_room c = grind (arith, common_steps)

pub returns-clause-room : goal.returns-clause-room
returns-clause-room c = grind (arith, common_steps)

pub returns-clause-taken : goal.returns-clause-taken
returns-clause-taken c = grind (arith, common_steps)
