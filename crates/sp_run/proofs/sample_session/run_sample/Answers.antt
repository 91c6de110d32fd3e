use Rattle.std.proofs.Common.{inl, inr}
use Rattle.std.proofs.lemmas.Result.{on_err_weaker, on_ok_weaker}
use Rattle.sp_run.proofs.SampleLaws.{on-err}
use Rattle.sp_run.proofs.sample_session.run_sample.Goals as goal

pub returns-clause-reads : goal.returns-clause-reads
returns-clause-reads g c =
    on_ok_weaker c.hold_sample.result (λ those. record { opened = g.S.Steps.reads c.open_sample.new.steps; opening = c.in_ok-desk.ensures.reads; session = those }) c.hold_sample.ensures.reads

pub returns-clause-fills : goal.returns-clause-fills
returns-clause-fills g c =
    on_ok_weaker c.hold_sample.result (λ those. record { opened = g.S.Steps.fills c.open_sample.new.steps; opening = c.in_ok-desk.ensures.fills; session = those }) c.hold_sample.ensures.fills

pub returns-in_err-desk-clause-reads_at_most : goal.returns-in_err-desk-clause-reads_at_most
returns-in_err-desk-clause-reads_at_most g c = on-err c.from_residual.result (inl c.open_sample.ensures.reads_at_most)

pub returns-clause-reads_at_most : goal.returns-clause-reads_at_most
returns-clause-reads_at_most g c = on_err_weaker c.hold_sample.result (λ those. inr (g.S.Steps.reads c.open_sample.new.steps, c.in_ok-desk.ensures.reads, those)) c.hold_sample.ensures.reads_at_most

pub returns-in_err-desk-clause-fills_at_most : goal.returns-in_err-desk-clause-fills_at_most
returns-in_err-desk-clause-fills_at_most g c = on-err c.from_residual.result (inl c.open_sample.ensures.fills_at_most)

pub returns-clause-fills_at_most : goal.returns-clause-fills_at_most
returns-clause-fills_at_most g c = on_err_weaker c.hold_sample.result (λ those. inr (g.S.Steps.fills c.open_sample.new.steps, c.in_ok-desk.ensures.fills, those)) c.hold_sample.ensures.fills_at_most
