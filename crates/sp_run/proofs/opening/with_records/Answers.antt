use Rattle.sp_run.specs.Opening.{RefusesFresh}
use Rattle.sp_run.specs.Statuses.{status_of_records}
use Rattle.sp_run.proofs.OpenedStates.{decode-refuses, decoded-opens, err-is}
use Rattle.sp_run.proofs.opening.with_records.Goals as goal

pub returns-in_err-records-clause-refused : goal.returns-in_err-records-clause-refused
returns-in_err-records-clause-refused c =
    err-is (RefusesFresh c.args.lines c.args.bytes.now) (status_of_records c.in_err-records.field-0.0) c.from_residual.result c.from_residual.ensures.1
    (decode-refuses c.args.bytes.now c.args.lines c.decode.new.lines c.in_err-records.field-0.0 c.requires c.in_err-records.ensures)

pub returns-clause-opened : goal.returns-clause-opened
returns-clause-opened c = decoded-opens c.args.bytes.now c.args.lines c.decode.new.lines c.in_ok-records.records c.requires c.len-count.ensures.keeps c.in_ok-records.ensures
