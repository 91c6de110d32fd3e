use Rattle.std.proofs.Common.{◌-◌, ◌≤◌, map, reverse, slice_range, ap, ◌∙◌, arith}
use Rattle.std.proofs.lemmas.Bool.{OnTrue_at}
use Rattle.std.proofs.lemmas.List.Elements.{All-same}
use Rattle.sp_gap.specs.Gaps.{mirrored, round_gap}
use Rattle.sp_gap.specs.Moves.{shifted}
use Rattle.sp_gap.proofs.GapPlaceLaws.{run-behind, exchanged-behind, can-go, can-move, exchanged-ahead, run-ahead, front-low, back-low, taken-low}
use Rattle.sp_gap.proofs.gap_places.exchange_round.Goals as goal

pub trade_behind-requires-clause-run : goal.trade_behind-requires-clause-run
trade_behind-requires-clause-run c =
    let a = c.args in
    let ahead = c.len-ahead.result in
    let all = round_gap a.front.now.items a.back.now.items a.end in
    All-same (λ place. a.run.base ≤ place) (slice_range (map (mirrored a.end) (reverse a.back.now.items)) (a.run.from - ahead) (a.run.to - ahead)) (slice_range all a.run.from a.run.to)
    (run-behind a.front.now.items a.back.now.items ahead a.end a.run.from a.run.to (c.len-ahead.ensures ∙ a.front.now.ok.0) c.if-ahead-from.true c.requires.order) c.requires.can.from_base

pub returns-then-ahead-from-clause-list : goal.returns-then-ahead-from-clause-list
returns-then-ahead-from-clause-list c =
    let a = c.args in
    exchanged-behind a.front.now.items a.back.now.items c.len-ahead.result a.end a.run.from a.run.to (c.len-ahead.ensures ∙ a.front.now.ok.0) c.if-ahead-from.true c.requires.order
    a.items.now.items c.trade_behind.new.back.items a.run.base a.run.less a.run.more a.others_end (OnTrue_at c.if-stays.true c.none_moves-stays.ensures).1 c.requires.can c.trade_behind.ensures.back

pub returns-then-ahead-from-clause-items : goal.returns-then-ahead-from-clause-items
returns-then-ahead-from-clause-items c =
    let a = c.args in
    c.trade_behind.ensures.items
    ∙ ap (map (shifted a.run.base 0)) (run-behind a.front.now.items a.back.now.items c.len-ahead.result a.end a.run.from a.run.to (c.len-ahead.ensures ∙ a.front.now.ok.0) c.if-ahead-from.true c.requires.order)

pub returns-then-ahead-from-clause-items_low : goal.returns-then-ahead-from-clause-items_low
returns-then-ahead-from-clause-items_low c =
    let a = c.args in
    let run = slice_range (round_gap a.front.now.items a.back.now.items a.end) a.run.from a.run.to in
    All-same (λ place. place ≤ a.run.less - a.run.base) c.trade_behind.new.items.items (map (shifted a.run.base 0) run)
    (c.trade_behind.ensures.items
    ∙ ap (map (shifted a.run.base 0)) (run-behind a.front.now.items a.back.now.items c.len-ahead.result a.end a.run.from a.run.to (c.len-ahead.ensures ∙ a.front.now.ok.0) c.if-ahead-from.true c.requires.order))
    (taken-low a.run.base a.run.less run c.requires.can.to_less)

pub exchange_places-requires-clause-go : goal.exchange_places-requires-clause-go
exchange_places-requires-clause-go c =
    let a = c.args in
    can-go (round_gap a.front.now.items a.back.now.items a.end) c.seek.new.front.items c.seek.new.back.items a.end a.run.from a.run.to a.run.base a.run.less a.run.more a.others_end c.requires.order (omega (arith, c.seek.ensures.ahead, c.seek.new.front.ok.0)) c.seek.ensures.items
    c.seek.ensures.front_low c.seek.ensures.back_low c.requires.can c.ranges.end.fits

pub exchange_places-requires-clause-later : goal.exchange_places-requires-clause-later
exchange_places-requires-clause-later c =
    let a = c.args in
    can-move (round_gap a.front.now.items a.back.now.items a.end) c.seek.new.front.items c.seek.new.back.items a.end a.run.from a.run.to a.run.base a.run.less a.run.more a.others_end c.requires.order (omega (arith, c.seek.ensures.ahead, c.seek.new.front.ok.0)) c.seek.ensures.items
    c.seek.ensures.front_low c.seek.ensures.back_low c.requires.can

pub returns-clause-list : goal.returns-clause-list
returns-clause-list c =
    let a = c.args in
    exchanged-ahead (round_gap a.front.now.items a.back.now.items a.end) c.seek.new.front.items c.seek.new.back.items a.end a.run.from a.run.to a.run.base a.run.less a.run.more a.others_end c.requires.order (omega (arith, c.seek.ensures.ahead, c.seek.new.front.ok.0)) c.seek.ensures.items
    c.seek.ensures.front_low c.seek.ensures.back_low c.requires.can a.items.now.items c.exchange_places.new.list.items c.exchange_places.ensures.list

pub returns-clause-front_low : goal.returns-clause-front_low
returns-clause-front_low c =
    let a = c.args in
    front-low (round_gap a.front.now.items a.back.now.items a.end) c.seek.new.front.items c.seek.new.back.items a.end a.run.from a.run.to a.run.base a.run.less a.run.more a.others_end c.requires.order (omega (arith, c.seek.ensures.ahead, c.seek.new.front.ok.0)) c.seek.ensures.items
    c.seek.ensures.front_low c.seek.ensures.back_low c.requires.can a.items.now.items c.exchange_places.new.list.items c.requires.items_low c.exchange_places.ensures.list

pub returns-clause-back_low : goal.returns-clause-back_low
returns-clause-back_low c =
    let a = c.args in
    back-low (round_gap a.front.now.items a.back.now.items a.end) c.seek.new.front.items c.seek.new.back.items a.end a.run.from a.run.to a.run.base a.run.less a.run.more a.others_end c.requires.order (omega (arith, c.seek.ensures.ahead, c.seek.new.front.ok.0)) c.seek.ensures.items
    c.seek.ensures.front_low c.seek.ensures.back_low c.requires.can

pub returns-clause-items : goal.returns-clause-items
returns-clause-items c =
    let a = c.args in
    c.exchange_places.ensures.items ∙ ap (map (shifted a.run.base 0)) (run-ahead (round_gap a.front.now.items a.back.now.items a.end) c.seek.new.front.items c.seek.new.back.items a.end a.run.from a.run.to a.run.base a.run.less a.run.more a.others_end c.requires.order (omega (arith, c.seek.ensures.ahead, c.seek.new.front.ok.0)) c.seek.ensures.items
    c.seek.ensures.front_low c.seek.ensures.back_low c.requires.can)

pub returns-clause-items_low : goal.returns-clause-items_low
returns-clause-items_low c =
    let a = c.args in
    let run = slice_range (round_gap a.front.now.items a.back.now.items a.end) a.run.from a.run.to in
    All-same (λ place. place ≤ a.run.less - a.run.base) c.exchange_places.new.items.items (map (shifted a.run.base 0) run)
    (c.exchange_places.ensures.items ∙ ap (map (shifted a.run.base 0)) (run-ahead (round_gap a.front.now.items a.back.now.items a.end) c.seek.new.front.items c.seek.new.back.items a.end a.run.from a.run.to a.run.base a.run.less a.run.more a.others_end c.requires.order (omega (arith, c.seek.ensures.ahead, c.seek.new.front.ok.0)) c.seek.ensures.items
    c.seek.ensures.front_low c.seek.ensures.back_low c.requires.can))
    (taken-low a.run.base a.run.less run c.requires.can.to_less)
