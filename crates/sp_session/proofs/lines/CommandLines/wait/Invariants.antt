use Rattle.std.proofs.Common.{◌+◌, ◌-◌, length}
use Rattle.spec_session.specs.CommandLines.{command_limit}
use Rattle.sp_session.proofs.WaitLaws.{Waited}
use Rattle.sp_session.proofs.lines.CommandLines.wait.Given as goal

abbrev pub invariant-loop-self : goal.invariant-loop-self
invariant-loop-self g l = Waited (g.I.Source.state l.fn.input) (g.I.Source.state l.input) l.fn.self l.self

abbrev pub decreases-loop-self : goal.decreases-loop-self
decreases-loop-self g l = command_limit + 2 - length l.self.pending
