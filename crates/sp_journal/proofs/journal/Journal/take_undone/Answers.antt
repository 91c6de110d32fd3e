use Rattle.std.proofs.Common.{arith}
use Rattle.sp_journal.proofs.Queues.{taken, taken-leaves}
use Rattle.sp_journal.proofs.journal.Journal.take_undone.Goals as goal

pub returns-clause-some : goal.returns-clause-some
returns-clause-some g c =
    let was = c.self.inside in
    taken c.pop_front.result was.undone was.entries.items c.pop_front.new.self.items _ c.args.self.now c.self.view_is c.if-self-eq0.false c.pop_front.ensures.items

pub returns-clause-some_leaves : goal.returns-clause-some_leaves
returns-clause-some_leaves g c =
    let was = c.self.inside in
    let out = c.pop_front.ensures in
    taken-leaves c.pop_front.result was.undone was.entries.items c.pop_front.new.self.items _ _ c.args.self.now c.self.view_is c.if-self-eq0.false out.items (omega (arith, out.len, out.capacity, was.entries.ok))
