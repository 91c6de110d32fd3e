use Rattle.std.proofs.Common.{◌≡◌, []}
use Rattle.spec_sheets.specs.Sheets.{sheet_bytes}
use Rattle.spec_state.specs.StateSheets.{sheets_of_state}
use Rattle.spec_packet.specs.StatePackets.{sheets_at}
use Rattle.sp_run.proofs.WrittenSheets.{WroteFirst}
use Rattle.sp_run.proofs.sheets.write_places.Given as goal

-- The sheets at the first places are written, and the buffer is empty.
abbrev pub invariant-loop-place : goal.invariant-loop-place
invariant-loop-place g l = record {
  empty : l.buffer.taken ≡ [];
  wrote : WroteFirst sheet_bytes (g.O.Sink.state l.fn.output) (g.O.Sink.state l.output) (sheets_at (sheets_of_state l.script) l.places) l.place-index;
}
