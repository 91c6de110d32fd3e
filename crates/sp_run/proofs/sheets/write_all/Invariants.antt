use Rattle.std.proofs.Common.{◌≡◌, []}
use Rattle.spec_state.specs.StateSheets.{sheets_of_state}
use Rattle.sp_run.specs.SheetForms.{sheet_in}
use Rattle.sp_run.proofs.WrittenSheets.{WroteFirst}
use Rattle.sp_run.proofs.sheets.write_all.Given as goal

-- The first sheets are written, and the buffer is empty.
abbrev pub invariant-loop-i : goal.invariant-loop-i
invariant-loop-i g l = record {
  empty : l.buffer.taken ≡ [];
  wrote : WroteFirst (sheet_in l.fn.form) (g.O.Sink.state l.fn.output) (g.O.Sink.state l.output) (sheets_of_state l.script) l.i;
}
