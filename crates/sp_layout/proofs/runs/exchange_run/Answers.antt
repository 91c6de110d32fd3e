use Rattle.std.proofs.Common.{◌+◌, length, slice_range, sym, ap, ap₂, subst, ◌∙◌, arith}
use Rattle.sp_layout.specs.Bodies.{KeyedElements, keyed_elements, row_count}
use Rattle.sp_layout.specs.Exchanges.{with_run}
use Rattle.sp_layout.specs.Runs.{CanExchange}
use Rattle.sp_layout.proofs.RunsBack.{run-back}
use Rattle.sp_layout.proofs.runs.exchange_run.Goals as goal

pub returns-clause-back : goal.returns-clause-back
returns-clause-back c =
    let a = c.args in
    let end = a.from + c.len-count.result in
    let back = run-back (keyed_elements a.body.now) (keyed_elements a.other.now) a.from a.to end a.less a.more c.requires.can c.len-len.ensures.keys c.len-count.ensures.keys (omega (arith, c.len-count.ensures.len)) in
    ap₂ (λ (new taken : KeyedElements). with_run new a.from end taken a.more a.less) c.exchange.ensures.elements c.exchange.ensures.taken ∙ back.back

pub returns-clause-can : goal.returns-clause-can
returns-clause-can c =
    let a = c.args in
    let end = a.from + c.len-count.result in
    let back = run-back (keyed_elements a.body.now) (keyed_elements a.other.now) a.from a.to end a.less a.more c.requires.can c.len-len.ensures.keys c.len-count.ensures.keys (omega (arith, c.len-count.ensures.len)) in
    subst (λ (new : KeyedElements). CanExchange new a.from end a.more a.less) (sym c.exchange.ensures.elements) back.can

pub returns-clause-room : goal.returns-clause-room
returns-clause-room c =
    let a = c.args in
    let end = a.from + c.len-count.result in
    let back = run-back (keyed_elements a.body.now) (keyed_elements a.other.now) a.from a.to end a.less a.more c.requires.can c.len-len.ensures.keys c.len-count.ensures.keys (omega (arith, c.len-count.ensures.len)) in
    let room = c.requires.room in
    record {
      room = omega (arith, ap (λ (k : KeyedElements). length k.elements) c.exchange.ensures.elements, ap (λ (k : KeyedElements). length k.elements) c.exchange.ensures.taken, back.count, back.taken_count, c.exchange.ensures.room.0, room.room);
      row_room = omega (arith, ap (λ (k : KeyedElements). row_count k.elements) c.exchange.ensures.elements, ap (λ (k : KeyedElements). row_count k.elements) c.exchange.ensures.taken, back.rows, c.exchange.ensures.room.1, room.row_room);
      back_room = omega (arith, c.exchange.ensures.back_room.0, c.len-count.ensures.len, c.len-count.ensures.enough);
      back_row_room = omega (arith, ap (λ (k : KeyedElements). row_count (slice_range k.elements a.from end)) c.exchange.ensures.elements, back.run_rows, c.exchange.ensures.back_room.1, c.len-count.ensures.row_enough);
    }

pub returns-clause-taken : goal.returns-clause-taken
returns-clause-taken c =
    let a = c.args in
    let end = a.from + c.len-count.result in
    let back = run-back (keyed_elements a.body.now) (keyed_elements a.other.now) a.from a.to end a.less a.more c.requires.can c.len-len.ensures.keys c.len-count.ensures.keys (omega (arith, c.len-count.ensures.len)) in
    omega (arith, ap (λ (k : KeyedElements). length k.elements) c.exchange.ensures.taken, back.taken_count, c.requires.can.order)
