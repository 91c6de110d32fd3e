use Rattle.std.proofs.Common.{ap, ◌∙◌}
use Rattle.spec_state.specs.State.{State}
use Rattle.spec_wire.specs.Replies as replies
use Rattle.spec_machine.specs.Machine.{Memory}
use Rattle.spec_machine.specs.Outlines.{outline_of}
use Rattle.sp_desk.specs.Answers.{step_to}
use Rattle.sp_desk.proofs.desk.Desk.outline_answer.Goals as goal

pub returns-clause-step : goal.returns-clause-step
returns-clause-step c =
    ap (step_to c.args.self.now)
    (c.in_ok-outline_reply.ensures
    ∙ ap (λ (s : State). replies.outline (outline_of s)) c.view.ensures
    ∙ ap (λ (m : Memory). replies.outline (outline_of m.state)) c.self.view_is)
