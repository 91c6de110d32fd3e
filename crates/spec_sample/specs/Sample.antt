-- The large sample of a number: a script, a session, and one line that tells what comes of it (docs/RULES.md, "The sample").
use Rattle.std.specs.Prelude.{ℕ, zero, suc, ◌+◌, ◌-◌, ◌*◌, ◌%◌, ◌==◌, if◌then◌else◌, List, [], ◌∷◌, ◌++◌, length, fold, replicate, codes, decimal}
use Rattle.std.specs.List.{flat_map}
use Rattle.hex.specs.Hex.{encode_lower}
use Rattle.sha2.specs.Sha256.{sha256}
use Rattle.spec_text.specs.Edits.{replace, splice}
use Rattle.spec_state.specs.State.{State, opened_state}
use Rattle.spec_state.specs.StateSheets.{sheets_of_state}
use Rattle.spec_state.specs.Printing.{printed_state}
use Rattle.spec_wire.specs.Commands.{CommandOf, edit, undo, redo, lock_scenes, lock_pages, next_round}
use Rattle.spec_machine.specs.Machine.{Memory, opened_memory}
use Rattle.spec_machine.specs.Answers.{step_of}

-- How many lines each room has in the script.
abbrev pub room_height : ℕ
room_height = 11

-- The cue of a room's second speech: beside the first where 5 divides the number.
abbrev pub second_cue : ℕ → List ℕ
second_cue i = if i % 5 == 0 then codes "BERT ^" else codes "BERT"

-- The lines of a room.
abbrev pub room_lines : ℕ → List (List ℕ)
room_lines i =
    (codes "INT. ROOM " ++ decimal i ++ codes " - DAY") ∷ [] ∷ (codes "The lamp in room " ++ decimal i ++ codes " is lit.") ∷ [] ∷ codes "ANNA" ∷ codes "(to BERT)"
    ∷ (codes "I have counted " ++ decimal i ++ codes " lamps today. They are all lit.") ∷ [] ∷ second_cue i ∷ codes "Count them again." ∷ [] ∷ []

-- The lines of rooms 1 to a number.
abbrev pub sample_lines : ℕ → List (List ℕ)
sample_lines zero = []
sample_lines (suc n) = sample_lines n ++ room_lines (suc n)

abbrev pub ended_line : List ℕ → List ℕ
ended_line line = line ++ codes "\n"

-- The script of a sample, each line ended.
abbrev pub sample_script : ℕ → List ℕ
sample_script n = flat_map ended_line (sample_lines n)

-- ---- the session

-- The line of a room that tells of its lamp.
abbrev pub lamp_line : ℕ → ℕ
lamp_line i = room_height * (i - 1) + 2

-- What is put into that line where 3 divides the room's number, and the lines that go before it where 10 does.
abbrev pub told_more : ℕ → List CommandOf
told_more i = if i % 3 == 0 then edit (splice (lamp_line i) 0 0 (codes "Now and then. ")) ∷ [] else []

abbrev pub added_lines : ℕ → List CommandOf
added_lines i = if i % 10 == 0 then edit (replace (lamp_line i) 0 (replicate 10 (codes "A new line of action."))) ∷ [] else []

-- The edits of rooms, the last one first.
abbrev pub edits_down : ℕ → List CommandOf
edits_down zero = []
edits_down (suc n) = told_more (suc n) ++ (added_lines (suc n) ++ edits_down n)

-- Scenes and pages are locked and a round is begun, then come the edits; the last one is undone and redone.
abbrev pub sample_commands : ℕ → List CommandOf
sample_commands n = lock_scenes ∷ lock_pages ∷ next_round ∷ (edits_down n ++ (undo ∷ redo ∷ []))

-- ---- what comes of it

-- The memory behind a command, whether it is accepted or refused.
abbrev pub stepped : Memory → CommandOf → Memory
stepped memory command = (step_of memory command).after

-- The state of the script's lines, which are all that reading it comes to, and the state behind the session.
abbrev pub sample_opened : ℕ → State
sample_opened n = opened_state (sample_lines n)

abbrev pub sample_state : ℕ → State
sample_state n = (fold stepped (opened_memory (sample_opened n)) (sample_commands n)).state

-- The line of a sample of so many rooms: how many lines and sheets its state has, the state's round, and the digest of all its sheets.
abbrev pub told_line : ℕ → ℕ → ℕ → ℕ → List ℕ → List ℕ
told_line n lines sheets round digest =
    codes "sample " ++ decimal n ++ codes ": " ++ decimal lines ++ codes " lines, " ++ decimal sheets ++ codes " sheets, round " ++ decimal round ++ codes ", sha256 " ++ digest ++ codes "\n"

-- The line that tells of a state.
abbrev pub state_line : ℕ → State → List ℕ
state_line n state = told_line n (length state.lines) (length (sheets_of_state state)) state.round (encode_lower (sha256 (printed_state state)))

-- What a sample writes.
abbrev pub sample_output : ℕ → List ℕ
sample_output n = state_line n (sample_state n)
