use Rattle.std.proofs.Common.{◌≡◌, ◌≤◌, ◌-◌, length, take, map, string_bytes}
use Rattle.spec_state.specs.StateSheets.{sheets_of_state}
use Rattle.spec_machine.specs.Answers.{label_of_sheet}
use Rattle.sp_desk.proofs.replies.sheet_labels.Given as goal

abbrev pub invariant-loop-page : goal.invariant-loop-page
invariant-loop-page l = record {
  few : length l.texts.items ≤ length (sheets_of_state l.script);
  labels : map string_bytes l.texts.items ≡ map label_of_sheet (take (length l.texts.items) (sheets_of_state l.script));
}

abbrev pub decreases-loop-page : goal.decreases-loop-page
decreases-loop-page l = length (sheets_of_state l.script) - length l.texts.items
