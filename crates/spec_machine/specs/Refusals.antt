-- Why a command is refused: the first reason in order (docs/RULES.md, "Commands").
use Rattle.std.specs.Prelude.{ℕ, ◌==◌, ◌||◌, Bool, false, not, nat_lt, nat_le, if◌then◌else◌, List, length, Option, Some, None, option_map, is_some}
use Rattle.std.specs.Option.{option_map_or}
use Rattle.spec_text.specs.Edits.{Refusal, range, boundary, line_break, line_full, text_full, ids_spent, refusal_of}
use Rattle.spec_labels.specs.Scenes.{scene_record_limit, unlockable_place, disordered_place}
use Rattle.spec_labels.specs.PageRecords.{page_record_limit}
use Rattle.spec_records.specs.Kept.{round_limit}
use Rattle.spec_wire.specs.Commands.{CommandOf, edit, undo, redo, lock_scenes, lock_pages, next_round, sheet, speakers, paper}
use Rattle.spec_wire.specs.Replies as replies
use Rattle.spec_wire.specs.Replies.{RefusalOf, nothing_to_undo, nothing_to_redo, scenes_locked, scene_form, scene_order, scenes_not_locked, pages_locked, no_pages, rounds_full, records_full, no_sheet}
use Rattle.spec_state.specs.State.{State, text_of}
use Rattle.spec_state.specs.Headings.{headings_of}
use Rattle.spec_state.specs.StateSheets.{rows_in, sheets_of_state}
use Rattle.spec_state.specs.Openings.{round_begun}
use Rattle.spec_state.specs.Openings as openings
use Rattle.spec_machine.specs.Machine.{Memory}

-- An edit's refusal as a reply tells it.
abbrev pub edit_refusal : Refusal → RefusalOf
edit_refusal range = replies.range
edit_refusal boundary = replies.boundary
edit_refusal line_break = replies.line_break
edit_refusal line_full = replies.line_full
edit_refusal text_full = replies.text_full
edit_refusal ids_spent = replies.ids_spent

-- The first of two reasons, if there is one.
abbrev pub first_of : Option RefusalOf → Option RefusalOf → Option RefusalOf
first_of None other = other
first_of (Some reason) other = Some reason

-- The reason, where it holds.
abbrev pub reason_if : Bool → RefusalOf → Option RefusalOf
reason_if holds reason = if holds then Some reason else None

-- There are records, and more than these.
abbrev pub are_more : {X : Type 0} → ℕ → Option (List X) → Bool
are_more limit records = option_map_or (λ those. nat_lt limit (length those)) records false

-- A lock or a round would make too many records of either kind.
abbrev pub are_too_many : State → Bool
are_too_many after = are_more scene_record_limit after.scenes || are_more page_record_limit after.pages

abbrev pub scenes_refusal : State → Option RefusalOf
scenes_refusal state =
    first_of (reason_if (is_some state.scenes) scenes_locked)
    (first_of (option_map scene_form (unlockable_place (headings_of state.lines)))
    (first_of (option_map scene_order (disordered_place (headings_of state.lines)))
    (reason_if (nat_lt scene_record_limit (length (headings_of state.lines))) records_full)))

abbrev pub pages_refusal : State → Option RefusalOf
pages_refusal state =
    first_of (reason_if (not (is_some state.scenes)) scenes_not_locked)
    (first_of (reason_if (is_some state.pages) pages_locked)
    (first_of (reason_if (length (rows_in state) == 0) no_pages)
    (reason_if (are_too_many (openings.pages_locked state)) records_full)))

abbrev pub round_refusal : State → Option RefusalOf
round_refusal state = first_of (reason_if (nat_le round_limit state.round) rounds_full) (reason_if (are_too_many (round_begun state)) records_full)

-- Settings change only before pages are locked.
abbrev pub setting_refusal : State → Option RefusalOf
setting_refusal state = reason_if (is_some state.pages) pages_locked

abbrev pub refusal_to : Memory → CommandOf → Option RefusalOf
refusal_to memory (edit it) = option_map edit_refusal (refusal_of (text_of memory.state) it)
refusal_to memory undo = reason_if (length memory.done == 0) nothing_to_undo
refusal_to memory redo = reason_if (length memory.undone == 0) nothing_to_redo
refusal_to memory lock_scenes = scenes_refusal memory.state
refusal_to memory lock_pages = pages_refusal memory.state
refusal_to memory next_round = round_refusal memory.state
refusal_to memory (sheet index) = reason_if (nat_le (length (sheets_of_state memory.state)) index) no_sheet
refusal_to memory (speakers on) = setting_refusal memory.state
refusal_to memory (paper size) = setting_refusal memory.state
refusal_to memory _ = None
