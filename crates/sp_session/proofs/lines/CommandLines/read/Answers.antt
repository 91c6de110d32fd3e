use Rattle.std.proofs.Common.{◌∙◌, arith, vec_len}
use Rattle.sp_session.proofs.BufferLaws.{buffer-budget}
use Rattle.sp_session.proofs.ReadLaws.{read-buffered}
use Rattle.sp_session.proofs.lines.CommandLines.read.Goals as goal

pub invariant_of-self : goal.invariant_of-self
invariant_of-self g c =
    let it = c.self.inside in
    let a = c.min-most.ensures in
    let b = c.min.ensures in
    let d = c.len.ensures in
    rw c.len-self-inside.ensures
    (read-buffered (g.I.Source.state c.args.input.now) (g.I.Source.state c.read_behind.new.input) it.bytes c.drop_front.new.bytes c.read_behind.new.bytes it.piece c.read_behind.new.piece
    it.line_from it.line_to it.from it.scanned it.count c.min-most.result c.read_behind.result c.self.invariant
    (rw (← c.self.view_is) at c.requires.plain) (rw (← c.self.view_is) at c.requires.short) (rw (← c.self.view_is) at c.requires.room)
    c.drop_front.ensures.items c.drop_front.ensures.capacity c.read_behind.ensures.read c.read_behind.ensures.capacity
    (omega (arith, a, b, d)) (omega (arith, a, b)) (c.read_behind.ensures.piece ∙ c.self.invariant.piece_is))

pub returns-clause-budget : goal.returns-clause-budget
returns-clause-budget g c =
    let it = c.self.inside in
    let a = c.min-most.ensures in
    let b = c.min.ensures in
    let d = c.len.ensures in
    buffer-budget c.read_behind.new.bytes c.read_behind.new.piece 0 0 0 (vec_len c.drop_front.new.bytes) it.count
    (read-buffered (g.I.Source.state c.args.input.now) (g.I.Source.state c.read_behind.new.input) it.bytes c.drop_front.new.bytes c.read_behind.new.bytes it.piece c.read_behind.new.piece
    it.line_from it.line_to it.from it.scanned it.count c.min-most.result c.read_behind.result c.self.invariant
    (rw (← c.self.view_is) at c.requires.plain) (rw (← c.self.view_is) at c.requires.short) (rw (← c.self.view_is) at c.requires.room)
    c.drop_front.ensures.items c.drop_front.ensures.capacity c.read_behind.ensures.read c.read_behind.ensures.capacity
    (omega (arith, a, b, d)) (omega (arith, a, b)) (c.read_behind.ensures.piece ∙ c.self.invariant.piece_is))
