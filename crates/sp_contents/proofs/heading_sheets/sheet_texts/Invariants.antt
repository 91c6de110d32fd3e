use Rattle.std.proofs.Common.{◌≡◌, take, map}
use Rattle.std.specs.Prelude.{string_bytes}
use Rattle.spec_machine.specs.Outlines.{sheet_text}
use Rattle.sp_contents.proofs.heading_sheets.sheet_texts.Given as goal

abbrev pub invariant-loop-row : goal.invariant-loop-row
invariant-loop-row l = map string_bytes l.texts.items ≡ map (sheet_text l.sheets) (take l.row-index l.rows)
