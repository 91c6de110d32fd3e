use Rattle.std.proofs.Common.{refl}
use Rattle.sp_session.proofs.WaitLaws.{is-over}
use Rattle.sp_session.proofs.lines.CommandLines.next.Goals as goal

pub returns-then-is_over-clause-next : goal.returns-then-is_over-clause-next
returns-then-is_over-clause-next g c =
    let (full, some) = c.if-is_over.ensures.over.0 refl in is-over (g.I.Source.state c.args.input.now) c.args.self.now c.if-is_over.ensures.budget full some
