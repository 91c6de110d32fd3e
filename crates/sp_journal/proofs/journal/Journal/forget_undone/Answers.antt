use Rattle.std.proofs.Common.{◌≡◌, ap, ◌∙◌, drop, length, length-drop, arith}
use Rattle.sp_journal.proofs.Queues.{emptied}
use Rattle.sp_journal.proofs.journal.Journal.forget_undone.Goals as goal

pub returns : goal.returns
returns g c =
    let was = c.self.inside in
    let now = c.loop.self-inside in
    let all : c.loop.counter ≡ was.undone = omega (arith, c.loop-test.false, c.loop.auto.counter-end) in
    let gone = c.loop.invariant.0 ∙ ap (λ n. drop n was.entries.items) all in
    let left = ap length gone ∙ length-drop was.undone was.entries.items in
    emptied was.undone was.entries.items now.entries.items _ _ c.args.self.now c.self.view_is c.self.invariant gone (omega (arith, left, c.self.invariant, c.loop.invariant.2, was.entries.ok, now.entries.ok))
