use Rattle.std.proofs.Common.{rules}
use Rattle.std.specs.List.{flat_map}
use Rattle.spec_state.specs.StateSheets.{sheets_of_state}
use Rattle.sp_run.specs.SheetForms.{sheet_in}
use Rattle.sp_run.proofs.WrittenParts.{as_error}
use Rattle.sp_run.proofs.WrittenSheets.{wrote_next, wrote_stopped}
use Rattle.sp_run.proofs.sheets.write_all.Goals as goal

pub returns-in_err-write_sheet : goal.returns-in_err-write_sheet
returns-in_err-write_sheet g c =
    let sheets = sheets_of_state c.args.script.now in
    let form = sheet_in c.args.form in
    as_error (g.O.Sink.state c.args.output.now) (g.O.Sink.state c.write_sheet.new.output) (flat_map form sheets) c.in_err-write_sheet.field-0.0 c.from_residual.result c.from_residual.ensures.1
    (wrote_stopped form (g.O.Sink.state c.args.output.now) (g.O.Sink.state c.loop-i.output) (g.O.Sink.state c.write_sheet.new.output) sheets c.loop-i.i c.in-Some.page c.in_err-write_sheet.field-0.0
    c.loop-i.invariant.wrote c.in-Some.ensures.some c.in_err-write_sheet.ensures.written)

pub loop-i-preserved : goal.loop-i-preserved
loop-i-preserved g c = record {
  empty = c.in_ok-write_sheet.ensures.empty;
  wrote = wrote_next (sheet_in c.args.form) (g.O.Sink.state c.args.output.now) (g.O.Sink.state c.loop-i.output) (g.O.Sink.state c.write_sheet.new.output) (sheets_of_state c.args.script.now) c.loop-i.i c.in-Some.page
      c.loop-i.invariant.wrote c.in-Some.ensures.some c.in_ok-write_sheet.ensures.written;
}

pub loop-i-init : goal.loop-i-init
loop-i-init g c = search rules
