use Rattle.std.proofs.Common.{◌-◌, ◌≤◌, ◌++◌, length, take, reverse, ap, ◌∙◌, arith}
use Rattle.sp_text.proofs.Exchanges.{poured-put, poured-left, poured-rest, tail-put, tail-left}
use Rattle.sp_text.proofs.sides.change_places.Goals as goal

pub returns-clause-front : goal.returns-clause-front
returns-clause-front c =
    let lines = c.args.lines.now.items in
    let kept = c.args.kept in
    let inside : kept ≤ length lines = omega (arith, c.requires.kept, c.args.lines.now.ok.0) in
    tail-put lines c.turn_tail.new.lines.items c.pour.new.from.items c.args.front.now.items c.pour.new.to.items kept (c.len.result - kept) inside (omega (arith, c.len.ensures, c.args.lines.now.ok.0)) c.turn_tail.ensures.items c.pour.ensures.poured

pub returns-clause-back : goal.returns-clause-back
returns-clause-back c = poured-left c.args.back.now.items c.pour.new.from.items c.pour-2.new.from.items c.pour-2.new.to.items c.args.count c.pour-2.ensures.poured

pub returns-clause-left : goal.returns-clause-left
returns-clause-left c =
    poured-rest c.args.back.now.items c.pour.new.from.items c.pour-2.new.from.items c.pour-2.new.to.items c.args.count _ c.pour-2.ensures.poured (omega (arith, c.args.back.now.ok.0))

pub returns-clause-out : goal.returns-clause-out
returns-clause-out c =
    let lines = c.args.lines.now.items in
    let kept = c.args.kept in
    let inside : kept ≤ length lines = omega (arith, c.requires.kept, c.args.lines.now.ok.0) in
    let left = tail-left lines c.turn_tail.new.lines.items c.pour.new.from.items c.args.front.now.items c.pour.new.to.items kept (c.len.result - kept) inside (omega (arith, c.len.ensures, c.args.lines.now.ok.0)) c.turn_tail.ensures.items c.pour.ensures.poured in
    poured-put c.args.back.now.items c.pour.new.from.items c.pour-2.new.from.items c.pour-2.new.to.items c.args.count c.pour-2.ensures.poured ∙ ap (λ xs. xs ++ take c.args.count (reverse c.args.back.now.items)) left
