use Rattle.std.proofs.Common.{take}
use Rattle.std.specs.List.{flat_map}
use Rattle.sha2.specs.Hashers.{Holds256}
use Rattle.spec_sheets.specs.Sheets.{sheet_bytes}
use Rattle.spec_state.specs.StateSheets.{sheets_of_state}
use Rattle.sp_run.proofs.script_line.sheets_digest.Given as goal

-- The first sheets are taken.
abbrev pub invariant-loop-i : goal.invariant-loop-i
invariant-loop-i l = Holds256 l.hasher (flat_map sheet_bytes (take l.i (sheets_of_state l.script)))
