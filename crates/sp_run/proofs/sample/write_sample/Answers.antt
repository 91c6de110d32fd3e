use Rattle.std.proofs.Common.{◌≡◌, ℕ, Result, Ok, Err, refl, sym, subst}
use Rattle.std.specs.Prelude.{IsErrAnd}
use Rattle.std.proofs.KnownBytes.{Keeps-refl}
use Rattle.spec_session.specs.Runs.{Counts, counts_of}
use Rattle.sp_kit.specs.Outside.{SinkState}
use Rattle.sp_run.specs.declared.status.Status.{Status}
use Rattle.sp_run.specs.declared.status.Status.TheVariants as statuses
use Rattle.sp_run.specs.Ending.{SampleCountsAtMost, SampleEndsAs}
use Rattle.sp_run.proofs.sample.write_sample.Goals as goal

-- There was no memory for the line.
lacking-ends : (rooms : ℕ) (sink : SinkState) (from to : Counts) (result : Result (Unit {0}) Status) → IsErrAnd result (λ (s : Status). s ≡ statuses.NoMemory) → SampleCountsAtMost rooms from to
    → SampleEndsAs rooms sink sink from to result
lacking-ends rooms sink from to (Ok done) is counts = absurd is
lacking-ends rooms sink from to (Err status) is counts = subst (λ (s : Status). SampleEndsAs rooms sink sink from to (Err s)) (sym is) (Keeps-refl sink.taken, refl, counts)

pub returns-in_err-line : goal.returns-in_err-line
returns-in_err-line g c =
    let it = c.in_err-line.ensures in
    let steps = g.S.Steps in
    lacking-ends c.args.rooms (g.O.Sink.state c.args.output.now) (counts_of (steps.reads c.args.steps.now) (steps.fills c.args.steps.now)) (counts_of (steps.reads c.run_sample.new.steps) (steps.fills c.run_sample.new.steps))
    c.from_residual.result c.from_residual.ensures.1 (record { reads = it.reads_at_most; fills = it.fills_at_most })
