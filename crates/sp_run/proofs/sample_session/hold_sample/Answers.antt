use Rattle.std.proofs.Common.{◌≡◌, IfOk, subst, ap, ◌∙◌}
use Rattle.std.specs.Prelude.{fold, List}
use Rattle.spec_wire.specs.Commands.{CommandOf}
use Rattle.spec_state.specs.State.{State}
use Rattle.spec_machine.specs.Machine.{Memory, opened_memory}
use Rattle.spec_sample.specs.Sample.{sample_commands, sample_opened, state_line, stepped}
use Rattle.sp_desk.specs.Outcomes.{FillsAtMost, FillsOf, ReadsAtMost, ReadsOf}
use Rattle.sp_run.proofs.SampleLaws.{on-err, on-ok}
use Rattle.sp_run.proofs.SampleLaws.{all-along, along, fills-unbegun, reads-unbegun, up-to}
use Rattle.sp_run.proofs.sample_session.hold_sample.Goals as goal

pub returns-clause-line : goal.returns-clause-line
returns-clause-line g c =
    let behind : c.answer_all.new.desk ≡ fold stepped (opened_memory (sample_opened c.args.rooms)) (sample_commands c.args.rooms) =
    c.in_ok-answer_all.ensures.memory ∙ ap (λ (commands : List CommandOf). fold stepped c.args.desk.now commands) c.in_ok-commands.ensures
    ∙ ap (λ (m : Memory). fold stepped m (sample_commands c.args.rooms)) c.requires in
    subst (λ (s : State). IfOk c.state_line.result (λ line. line.items ≡ state_line c.args.rooms s)) (c.script.ensures ∙ ap (λ (m : Memory). m.state) behind) c.state_line.ensures

pub returns-clause-reads : goal.returns-clause-reads
returns-clause-reads g c =
    on-ok c.state_line.result
    (along ReadsOf c.args.desk.now (opened_memory (sample_opened c.args.rooms)) _ (sample_commands c.args.rooms) (g.S.Steps.reads c.args.steps.now) (g.S.Steps.reads c.answer_all.new.steps)
    c.requires c.in_ok-commands.ensures c.in_ok-answer_all.ensures.reads)

pub returns-clause-fills : goal.returns-clause-fills
returns-clause-fills g c =
    on-ok c.state_line.result
    (along FillsOf c.args.desk.now (opened_memory (sample_opened c.args.rooms)) _ (sample_commands c.args.rooms) (g.S.Steps.fills c.args.steps.now) (g.S.Steps.fills c.answer_all.new.steps)
    c.requires c.in_ok-commands.ensures c.in_ok-answer_all.ensures.fills)

pub returns-in_err-commands-clause-reads_at_most : goal.returns-in_err-commands-clause-reads_at_most
returns-in_err-commands-clause-reads_at_most g c =
    on-err c.from_residual.result (reads-unbegun (opened_memory (sample_opened c.args.rooms)) (sample_commands c.args.rooms) (g.S.Steps.reads c.args.steps.now))

pub returns-in_err-answer_all-clause-reads_at_most : goal.returns-in_err-answer_all-clause-reads_at_most
returns-in_err-answer_all-clause-reads_at_most g c =
    on-err c.from_residual-in_err-answer_all.result
    (up-to ReadsOf ReadsAtMost c.args.desk.now (opened_memory (sample_opened c.args.rooms)) _ (sample_commands c.args.rooms) (g.S.Steps.reads c.args.steps.now) (g.S.Steps.reads c.answer_all.new.steps)
    c.requires c.in_ok-commands.ensures c.in_err-answer_all.ensures.reads_at_most)

pub returns-clause-reads_at_most : goal.returns-clause-reads_at_most
returns-clause-reads_at_most g c =
    on-err c.state_line.result
    (all-along ReadsOf ReadsAtMost (opened_memory (sample_opened c.args.rooms)) (sample_commands c.args.rooms) (g.S.Steps.reads c.args.steps.now) (g.S.Steps.reads c.answer_all.new.steps)
    (along ReadsOf c.args.desk.now (opened_memory (sample_opened c.args.rooms)) _ (sample_commands c.args.rooms) (g.S.Steps.reads c.args.steps.now) (g.S.Steps.reads c.answer_all.new.steps)
    c.requires c.in_ok-commands.ensures c.in_ok-answer_all.ensures.reads))

pub returns-in_err-commands-clause-fills_at_most : goal.returns-in_err-commands-clause-fills_at_most
returns-in_err-commands-clause-fills_at_most g c =
    on-err c.from_residual.result (fills-unbegun (opened_memory (sample_opened c.args.rooms)) (sample_commands c.args.rooms) (g.S.Steps.fills c.args.steps.now))

pub returns-in_err-answer_all-clause-fills_at_most : goal.returns-in_err-answer_all-clause-fills_at_most
returns-in_err-answer_all-clause-fills_at_most g c =
    on-err c.from_residual-in_err-answer_all.result
    (up-to FillsOf FillsAtMost c.args.desk.now (opened_memory (sample_opened c.args.rooms)) _ (sample_commands c.args.rooms) (g.S.Steps.fills c.args.steps.now) (g.S.Steps.fills c.answer_all.new.steps)
    c.requires c.in_ok-commands.ensures c.in_err-answer_all.ensures.fills_at_most)

pub returns-clause-fills_at_most : goal.returns-clause-fills_at_most
returns-clause-fills_at_most g c =
    on-err c.state_line.result
    (all-along FillsOf FillsAtMost (opened_memory (sample_opened c.args.rooms)) (sample_commands c.args.rooms) (g.S.Steps.fills c.args.steps.now) (g.S.Steps.fills c.answer_all.new.steps)
    (along FillsOf c.args.desk.now (opened_memory (sample_opened c.args.rooms)) _ (sample_commands c.args.rooms) (g.S.Steps.fills c.args.steps.now) (g.S.Steps.fills c.answer_all.new.steps)
    c.requires c.in_ok-commands.ensures c.in_ok-answer_all.ensures.fills))
