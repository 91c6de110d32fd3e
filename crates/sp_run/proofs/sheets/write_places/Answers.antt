use Rattle.std.specs.List.{flat_map}
use Rattle.spec_sheets.specs.Sheets.{sheet_bytes}
use Rattle.spec_state.specs.StateSheets.{sheets_of_state}
use Rattle.spec_packet.specs.StatePackets.{sheets_at}
use Rattle.sp_run.proofs.PacketSheets.{sheet-found}
use Rattle.sp_run.proofs.WrittenParts.{as_error}
use Rattle.sp_run.proofs.WrittenSheets.{wrote_next, wrote_stopped}
use Rattle.sp_run.proofs.sheets.write_places.Goals as goal

pub returns-in_err-write_sheet : goal.returns-in_err-write_sheet
returns-in_err-write_sheet g c =
    let sheets = sheets_at (sheets_of_state c.args.script.now) c.args.places.now in
    as_error (g.O.Sink.state c.args.output.now) (g.O.Sink.state c.write_sheet.new.output) (flat_map sheet_bytes sheets) c.in_err-write_sheet.field-0.0 c.from_residual.result c.from_residual.ensures.1
    (wrote_stopped sheet_bytes (g.O.Sink.state c.args.output.now) (g.O.Sink.state c.loop-place.output) (g.O.Sink.state c.write_sheet.new.output) sheets c.loop-place.place-index c.in-Some.page c.in_err-write_sheet.field-0.0
    c.loop-place.invariant.wrote (sheet-found (sheets_of_state c.args.script.now) c.args.places.now c.loop-place.place-index c.in-Some.page c.in-Some.ensures.some c.loop-place-test.true) c.in_err-write_sheet.ensures.written)

pub loop-place-preserved : goal.loop-place-preserved
loop-place-preserved g c = record {
  empty = c.in_ok-write_sheet.ensures.empty;
  wrote = wrote_next sheet_bytes (g.O.Sink.state c.args.output.now) (g.O.Sink.state c.loop-place.output) (g.O.Sink.state c.write_sheet.new.output) (sheets_at (sheets_of_state c.args.script.now) c.args.places.now) c.loop-place.place-index
      c.in-Some.page c.loop-place.invariant.wrote (sheet-found (sheets_of_state c.args.script.now) c.args.places.now c.loop-place.place-index c.in-Some.page c.in-Some.ensures.some c.loop-place-test.true)
      c.in_ok-write_sheet.ensures.written;
}
