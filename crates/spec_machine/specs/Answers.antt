-- What is answered to commands (docs/RULES.md, "Replies").
use Rattle.std.specs.Prelude.{ℕ, List, [], length, map, slice_get, Option, Some, None}
use Rattle.std.specs.Option.{option_map_or}
use Rattle.spec_text.specs.Lines.{line_texts}
use Rattle.spec_wire.specs.Commands.{CommandOf, edit, undo, redo, lock_scenes, lock_pages, next_round, sheet, labels, blocks, outline, speakers, paper, unknown_command}
use Rattle.spec_wire.specs.Replies as replies
use Rattle.spec_wire.specs.Replies.{ReplyOf, RefusalOf, refused, edited, set, scenes, pages, round}
use Rattle.spec_sheets.specs.Rounds.{round_name}
use Rattle.spec_sheets.specs.Sheets.{Sheet, sheet_label_text, sheet_bytes}
use Rattle.spec_state.specs.State.{State}
use Rattle.spec_state.specs.StateSheets.{sheets_of_state}
use Rattle.spec_machine.specs.Machine.{Memory, memory_after}
use Rattle.spec_machine.specs.Refusals.{refusal_to}
use Rattle.spec_machine.specs.Blocks.{block_replies}
use Rattle.spec_machine.specs.Outlines.{outline_of}

-- How many records there are.
abbrev pub record_count : {X : Type 0} → Option (List X) → ℕ
record_count records = option_map_or length records 0

-- The text of a sheet's label: that of a title sheet is empty.
abbrev pub label_of_sheet : Sheet → List ℕ
label_of_sheet it = option_map_or sheet_label_text it.label []

-- How many sheets a state has.
abbrev pub sheet_count : State → ℕ
sheet_count state = length (sheets_of_state state)

abbrev pub edited_reply : State → ReplyOf
edited_reply state = edited (length state.lines) (sheet_count state)

abbrev pub sheet_reply : Sheet → ReplyOf
sheet_reply it = replies.sheet (label_of_sheet it) it.round (sheet_bytes it)

abbrev pub round_reply : State → ReplyOf
round_reply state = round (round_name state.round) state.round

-- A sheet, where there is one.
abbrev pub found_sheet : Option Sheet → ReplyOf
found_sheet None = refused replies.no_sheet
found_sheet (Some it) = sheet_reply it

-- What is answered to a command by the memory before it and the state after it, where it is accepted.
abbrev pub accepted_reply : Memory → State → CommandOf → ReplyOf
accepted_reply memory after (edit it) = edited_reply after
accepted_reply memory after undo = edited_reply after
accepted_reply memory after redo = edited_reply after
accepted_reply memory after lock_scenes = scenes (record_count after.scenes)
accepted_reply memory after lock_pages = pages (record_count after.pages)
accepted_reply memory after next_round = round_reply after
accepted_reply memory after (speakers on) = set (sheet_count after)
accepted_reply memory after (paper size) = set (sheet_count after)
accepted_reply memory after (sheet index) = found_sheet (slice_get (sheets_of_state after) index)
accepted_reply memory after labels = replies.labels (map label_of_sheet (sheets_of_state after))
accepted_reply memory after blocks = replies.blocks (block_replies (line_texts after.lines))
accepted_reply memory after outline = replies.outline (outline_of after)
accepted_reply memory after _ = refused (replies.unreadable unknown_command)

-- What becomes of a memory by a command, and the reply: a refused command changes nothing.
pub record Step : Type 0 where
  pub after : Memory
  pub reply : ReplyOf

abbrev pub step_by : Memory → CommandOf → Option RefusalOf → Step
step_by memory command None = record { after = memory_after memory command; reply = accepted_reply memory (memory_after memory command).state command }
step_by memory command (Some reason) = record { after = memory; reply = refused reason }

abbrev pub step_of : Memory → CommandOf → Step
step_of memory command = step_by memory command (refusal_to memory command)
