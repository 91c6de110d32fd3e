use Rattle.std.proofs.Common.{length, take, slice_range, ap, ◌∙◌, arith}
use Rattle.std.proofs.lemmas.Result.{on_ok_weaker}
use Rattle.sp_layout.specs.Bodies.{BodyOf, KeyedElements, row_count}
use Rattle.sp_layout.proofs.BodyExchanges.{count-append, till-is}
use Rattle.sp_layout.proofs.runs.make_run_room.Goals as goal

pub overflow_sub-run : goal.overflow_sub-run
overflow_sub-run c =
    let elements = c.args.body.now.elements in
    let till = ap row_count (till-is elements c.args.from c.args.to c.requires.order c.requires.within) ∙ count-append (take c.args.from elements) (slice_range elements c.args.from c.args.to) in
    omega (arith, till, c.rows_before.ensures, c.rows_before-2.ensures)

pub returns-clause-ok : goal.returns-clause-ok
returns-clause-ok c =
    let elements = c.args.body.now.elements in
    let till = ap row_count (till-is elements c.args.from c.args.to c.requires.order c.requires.within) ∙ count-append (take c.args.from elements) (slice_range elements c.args.from c.args.to) in
    let made = c.in_ok-make_room.ensures in
    let same = c.make_room.ensures.same in
    let other_same = c.make_room-2.ensures.same in
    let gaps = c.make_gaps.ensures in
    on_ok_weaker c.make_room-2.result (λ back. record {
      room = omega (arith, ap (λ (b : BodyOf). length b.elements) gaps, ap (λ (b : BodyOf). b.room) gaps, ap (λ (k : KeyedElements). length k.elements) same, ap (λ (k : KeyedElements). length k.elements) other_same, made.ok.0, c.len.ensures.len, c.len-2.ensures.len);
      row_room = omega (arith, ap (λ (b : BodyOf). row_count b.elements) gaps, ap (λ (b : BodyOf). b.row_room) gaps, ap (λ (k : KeyedElements). row_count k.elements) same, ap (λ (k : KeyedElements). row_count k.elements) other_same, made.ok.1, c.rows.ensures, c.rows-2.ensures);
      back_room = back.0;
      back_row_room = omega (arith, ap (λ (b : BodyOf). row_count (slice_range b.elements c.args.from c.args.to)) gaps, ap (λ (k : KeyedElements). row_count (slice_range k.elements c.args.from c.args.to)) same, till, c.rows_before.ensures, c.rows_before-2.ensures, back.1);
    }) c.make_room-2.ensures.ok

pub returns-clause-succeeds : goal.returns-clause-succeeds
returns-clause-succeeds c room =
    let elements = c.args.body.now.elements in
    let till = ap row_count (till-is elements c.args.from c.args.to c.requires.order c.requires.within) ∙ count-append (take c.args.from elements) (slice_range elements c.args.from c.args.to) in
    c.make_room-2.ensures.succeeds room.back_room (omega (arith, till, c.rows_before.ensures, c.rows_before-2.ensures, room.back_row_room))
