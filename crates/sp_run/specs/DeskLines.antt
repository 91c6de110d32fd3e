-- What a desk makes of command lines (docs/RULES.md, "Sessions").
use Rattle.std.specs.Prelude.{◌≡◌, ℕ, ◌+◌, ◌⊎◌, Bool, true, false, ◌&&◌, if◌then◌else◌, List, [], ◌∷◌, map, is_some}
use Rattle.std.specs.Str.{bytes_eq}
use Rattle.std.specs.declared.result.Result.{Result}
use Rattle.std.specs.declared.result.Result.TheVariants.{Ok, Err}
use Rattle.spec_records.specs.RecordFile.{digest_of}
use Rattle.spec_wire.specs.Commands.{CommandOf, FaultOf, save, packet}
use Rattle.spec_wire.specs.Lines.{command_of_line}
use Rattle.spec_wire.specs.Replies as replies
use Rattle.spec_wire.specs.Replies.{ReplyOf, refused, saved, shelf, unreadable, pages_not_locked, reply_line}
use Rattle.spec_session.specs.Runs.{Answered, AtShelf, Counts, at_shelf}
use Rattle.spec_state.specs.State.{State}
use Rattle.spec_machine.specs.Machine.{Memory}
use Rattle.spec_machine.specs.Answers.{Step, step_of}
use Rattle.spec_packet.specs.StatePackets.{packet_places}
use Rattle.sp_kit.specs.Files.{ShelfState}
use Rattle.sp_run.specs.CountedLines.{LineCounts, LineCountsAtMost}
use Rattle.sp_run.specs.Promises.{Follows}
use Rattle.sp_run.specs.Saving.{SavesState, StoreFailed, StoreLeft, files_of}

-- A desk of the script that has this name.
pub record NamedDesk : Type 0 where
  pub name : List ℕ
  pub memory : Memory

-- A desk, its script's name, the shelf, and what was counted.
abbrev pub desk_at : List ℕ → Memory → ShelfState → Counts → AtShelf NamedDesk
desk_at name memory files counts = at_shelf (record { name = name; memory = memory }) files counts

-- A desk seen as itself.
abbrev pub desk_itself : NamedDesk → NamedDesk
desk_itself desk = desk

-- ---- what a line asks for

abbrev pub is_save : CommandOf → Bool
is_save save = true
is_save _ = false

abbrev pub is_packet : CommandOf → Bool
is_packet packet = true
is_packet _ = false

-- What was read of a line is the command to save.
abbrev pub asks_save : Result CommandOf FaultOf → Bool
asks_save (Ok command) = is_save command
asks_save (Err fault) = false

-- ---- what becomes of a memory where no store fails

abbrev pub unread_step : Memory → FaultOf → Step
unread_step memory fault = record { after = memory; reply = refused (unreadable fault) }

abbrev pub saved_step : Memory → Step
saved_step memory = record { after = memory; reply = saved (digest_of memory.state.lines) }

-- The packet of a state, or the refusal where pages aren't locked.
abbrev pub packet_reply : State → ReplyOf
packet_reply state = if is_some state.pages then replies.packet (packet_places state) else refused pages_not_locked

abbrev pub packet_step : Memory → Step
packet_step memory = record { after = memory; reply = packet_reply memory.state }

-- A command that isn't to save: the packet, or what the machine does.
abbrev pub other_step : Memory → CommandOf → Step
other_step memory command = if is_packet command then packet_step memory else step_of memory command

-- What becomes of a memory by what was read of a line, and the reply: a line that is no command changes nothing.
abbrev pub line_step_by : Memory → Result CommandOf FaultOf → Step
line_step_by memory (Ok command) = if is_save command then saved_step memory else other_step memory command
line_step_by memory (Err fault) = unread_step memory fault

abbrev pub line_step : Memory → List ℕ → Step
line_step memory line = line_step_by memory (command_of_line line)

-- A line answered where no store fails: the memory after it, and the bytes of the reply.
abbrev pub answered_line : Memory → List ℕ → Answered Memory
answered_line memory line = record { after = (line_step memory line).after; reply = reply_line (line_step memory line).reply }

-- Lines answered one after another, each by what the answer before it left.
abbrev pub answered_in_order : {M : Type 0} → (M → List ℕ → Answered M) → M → List (List ℕ) → List (Answered M)
answered_in_order answer before [] = []
answered_in_order answer before (line ∷ lines) = answer before line ∷ answered_in_order answer (answer before line).after lines

-- Lines answered in order, where no store fails.
abbrev pub answered_lines : Memory → List (List ℕ) → List (Answered Memory)
answered_lines memory lines = answered_in_order answered_line memory lines

-- ---- how a line is answered

-- A save that was done stored its files; anything else leaves the shelf as it was.
abbrev pub Stores : Bool → AtShelf NamedDesk → AtShelf NamedDesk → Type 0
Stores true before after = SavesState before.it.name before.it.memory.state before.shelf after.shelf
Stores false before after = after.shelf ≡ before.shelf

-- What was read of a line was done: the machine's step, or the save.
pub record IsDone (before : AtShelf NamedDesk) (asked : Result CommandOf FaultOf) (after : AtShelf NamedDesk) (reply : ReplyOf) : Type 0 where
  pub step : record { after = after.it.memory; reply = reply } ≡ line_step_by before.it.memory asked
  pub name : after.it.name ≡ before.it.name
  pub stores : Stores (asks_save asked) before after

-- A save that wasn't done, since a store failed; the desk is as it was.
pub record IsUnsaved (before : AtShelf NamedDesk) (asked : Result CommandOf FaultOf) (after : AtShelf NamedDesk) (reply : ReplyOf) : Type 0 where
  pub asks : asks_save asked ≡ true
  pub same : after.it ≡ before.it
  pub told : reply ≡ refused shelf
  pub failed : StoreFailed (files_of before.it.name before.it.memory.state) before.shelf after.shelf

-- How a desk replies to what was read of a line.
abbrev pub RepliesTo : AtShelf NamedDesk → Result CommandOf FaultOf → AtShelf NamedDesk → ReplyOf → Type 0
RepliesTo before asked after reply = IsDone before asked after reply ⊎ IsUnsaved before asked after reply

-- How a desk answers a line.
pub record AnswersLine (before : AtShelf NamedDesk) (line : List ℕ) (after : AtShelf NamedDesk) (bytes : List ℕ) : Type 0 where
  pub reply : ReplyOf
  pub is : bytes ≡ reply_line reply
  pub replies : RepliesTo before (command_of_line line) after reply
  pub counts : LineCounts before.it.memory (command_of_line line) before.counts after.counts
  pub follows : Follows before.it.memory after.it.memory

-- The memory of a desk, and behind it those that these steps left.
abbrev pub memories_of : {R : Type 0} → (R → NamedDesk) → Memory → List (Answered (AtShelf R)) → List Memory
memories_of {R} desk memory steps = memory ∷ map (λ (step : Answered (AtShelf R)). (desk step.after.it).memory) steps

-- The line asks to save.
abbrev pub saves : List ℕ → Bool
saves line = asks_save (command_of_line line)

-- How many of these lines are saves, by this test, that were answered that a store failed.
abbrev pub unsaved_count : {R : Type 0} → (List ℕ → Bool) → List (List ℕ) → List (Answered R) → ℕ
unsaved_count test [] steps = 0
unsaved_count test (line ∷ lines) [] = 0
unsaved_count test (line ∷ lines) (step ∷ steps) = (if test line && bytes_eq step.reply (reply_line (refused shelf)) then 1 else 0) + unsaved_count test lines steps

-- The shelf as the last save of these lines left it, which were answered by these steps; as it was, where none is a save.
abbrev pub shelf_behind : {R : Type 0} → (List ℕ → Bool) → ShelfState → List (List ℕ) → List (Answered (AtShelf R)) → ShelfState
shelf_behind test files [] steps = files
shelf_behind test files (line ∷ lines) [] = files
shelf_behind test files (line ∷ lines) (step ∷ steps) = shelf_behind test (if test line then step.after.shelf else files) lines steps

-- What want of memory leaves of a shelf: what a save may leave, and else all.
abbrev pub Leaves : Bool → AtShelf NamedDesk → AtShelf NamedDesk → Type 0
Leaves true before after = StoreLeft (files_of before.it.name before.it.memory.state) before.shelf after.shelf
Leaves false before after = after.shelf ≡ before.shelf

-- How want of memory leaves a desk and its shelf, for what the line asks or for the line of the reply: the desk is as it was.
pub record StopsAt (before : AtShelf NamedDesk) (asked : Result CommandOf FaultOf) (after : AtShelf NamedDesk) : Type 0 where
  pub memory : after.it.memory ≡ before.it.memory
  pub name : after.it.name ≡ before.it.name
  pub leaves : Leaves (asks_save asked) before after

pub record StopsAtLine (before : AtShelf NamedDesk) (line : List ℕ) (after : AtShelf NamedDesk) : Type 0 where
  pub stops : StopsAt before (command_of_line line) after
  pub counts : LineCountsAtMost before.it.memory (command_of_line line) before.counts after.counts
