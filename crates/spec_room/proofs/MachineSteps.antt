-- What the machine of a desk makes of its memory, by the kind of a command.
use Rattle.std.proofs.Common.{◌≡◌, ℕ, suc, ◌-◌, ◌<◌, ◌==◌, false, Option, Some, None, List, [], ◌∷◌, ◌++◌, length, take, drop, get_or, refl, sym, ap, subst, ◌∙◌, arith}
use Rattle.std.specs.Prelude.{option_map}
use Rattle.std.proofs.Math.Seq.{drop-cons}
use Rattle.std.proofs.lemmas.Bool.Decides.{nat_tests}
use Rattle.std.proofs.lemmas.List.{length-map, take-append-drop, drop_all}
use Rattle.std.proofs.lemmas.Option.{slice_get_within, get_or_from_slice_get, slice_get-get_or}
use Rattle.spec_text.specs.Lines.{LineState, line_text}
use Rattle.spec_text.specs.Edits.{EditOf, replace, splice, Refusal, replacement_of, refusal_of, put_by, stretch, line_ids}
use Rattle.spec_text.specs.Ranges.{RangeOf, range_of}
use Rattle.spec_text.proofs.EditLaws.{length-lines_put}
use Rattle.spec_text.proofs.TakenEdits.{taken-inside}
use Rattle.spec_state.specs.State.{text_of}
use Rattle.spec_wire.specs.Commands.{CommandOf, edit, undo, redo, lock_scenes, lock_pages, next_round, sheet, labels, blocks, outline, save, speakers, paper, packet}
use Rattle.spec_wire.specs.Replies.{RefusalOf, nothing_to_undo, nothing_to_redo, refused, is_refused}
use Rattle.spec_machine.specs.Machine.{EntryOf, Memory, entry_of, last_entry, without_last, undone_to, redone_to, memory_after, CanDo}
use Rattle.spec_machine.specs.Refusals.{edit_refusal, refusal_to}
use Rattle.spec_machine.specs.Answers.{step_by, step_of, accepted_reply}
use Rattle.spec_machine.proofs.RefusalLaws.{no-reason}
use Rattle.spec_room.specs.Changes.{Changes}
use Rattle.spec_room.specs.Kinds.{Kind, edits, undoes, redoes, forgets, looks, edit_range, kind_of}
use Rattle.spec_room.proofs.ChangeLaws.{exchanged-Changes}

-- An edit keeps the state before it and forgets what was undone; the lines of its range are replaced and no others.
pub record IsEdited (old : Memory) (range : RangeOf) (new : Memory) : Type 0 where
  pub lines : Changes range old.state.lines new.state.lines
  pub done : new.done ≡ old.done ++ entry_of old.state range ∷ []
  pub undone : new.undone ≡ []

-- An undo goes back to the state of the last entry, and keeps the state that it leaves.
pub record IsUndone (old new : Memory) : Type 0 where
  pub last : EntryOf
  pub done : old.done ≡ new.done ++ last ∷ []
  pub state : new.state ≡ last.state
  pub undone : new.undone ≡ old.undone ++ entry_of old.state last.range ∷ []

-- A redo does the same the other way.
pub record IsRedone (old new : Memory) : Type 0 where
  pub last : EntryOf
  pub undone : old.undone ≡ new.undone ++ last ∷ []
  pub state : new.state ≡ last.state
  pub done : new.done ≡ old.done ++ entry_of old.state last.range ∷ []

-- A lock, a new round or a setting leaves the lines, and empties both lists.
pub record IsForgotten (old new : Memory) : Type 0 where
  pub lines : new.state.lines ≡ old.state.lines
  pub done : new.done ≡ []
  pub undone : new.undone ≡ []

abbrev pub Step : Memory → Kind → Memory → Type 0
Step old (edits range) new = IsEdited old range new
Step old undoes new = IsUndone old new
Step old redoes new = IsRedone old new
Step old forgets new = IsForgotten old new
Step old looks new = new ≡ old

-- ---- an edit

-- The lines that an edit names are those of its replacement.
edit_range-is : (lines : List LineState) (it : EditOf) → edit_range it ≡ range_of (replacement_of lines it)
edit_range-is lines (replace first count texts) =
    ap (λ (n : ℕ). let range : RangeOf = record { first = first; old = count; new = n } in range) (sym (length-map texts line_text))
edit_range-is lines (splice line from to text) = refl

edited : (memory : Memory) (it : EditOf) → refusal_of (text_of memory.state) it ≡ None → IsEdited memory (range_of (replacement_of memory.state.lines it)) (memory_after memory (edit it))
edited memory it taken =
    let made = replacement_of memory.state.lines it in
    let inside = taken-inside (text_of memory.state) it taken in
    record {
      lines = exchanged-Changes made.first made.old (length made.texts) memory.state.lines (put_by (text_of memory.state) made memory.state.round) inside
          (length-lines_put (stretch (line_ids memory.state.lines) made.first made.old) memory.state.next memory.state.round made.texts);
      done = refl;
      undone = refl;
    }

-- ---- the last entry

-- A list that has a last entry is what stands before it, and that.
last-split : (entries : List EntryOf) (entry : EntryOf) → last_entry entries ≡ Some entry → entries ≡ without_last entries ++ entry ∷ []
last-split entries entry is =
    let n : ℕ = length entries - 1 in
    let low : n < length entries = slice_get_within entries n entry is in
    let at : get_or entries n entry ≡ entry = get_or_from_slice_get entries n entry entry is in
    let none : drop (suc n) entries ≡ [] = drop_all (suc n) entries (omega arith) in
    sym (take-append-drop n entries)
    ∙ ap (λ (rest : List EntryOf). take n entries ++ rest) (drop-cons entries n entry low ∙ ap (λ (e : EntryOf). e ∷ drop (suc n) entries) at ∙ ap (λ (rest : List EntryOf). entry ∷ rest) none)

-- A list that isn't empty has one.
has-last : (entries : List EntryOf) → 0 < length entries → (entry : EntryOf) × (last_entry entries ≡ Some entry)
has-last [] some = absurd (omega arith)
has-last (it ∷ entries) some =
    (get_or (it ∷ entries) (length (it ∷ entries) - 1) it, slice_get-get_or (it ∷ entries) (length (it ∷ entries) - 1) it (omega arith))

undone : (memory : Memory) → 0 < length memory.done → IsUndone memory (memory_after memory undo)
undone memory some =
    let last = has-last memory.done some in
    subst (λ (entry : Option EntryOf). IsUndone memory (undone_to memory entry)) (sym last.1)
    (record { last = last.0; done = last-split memory.done last.0 last.1; state = refl; undone = refl })

redone : (memory : Memory) → 0 < length memory.undone → IsRedone memory (memory_after memory redo)
redone memory some =
    let last = has-last memory.undone some in
    subst (λ (entry : Option EntryOf). IsRedone memory (redone_to memory entry)) (sym last.1)
    (record { last = last.0; undone = last-split memory.undone last.0 last.1; state = refl; done = refl })

-- ---- a command that is accepted

-- What of that its step rests on.
abbrev IsTaken : Memory → CommandOf → Type 0
IsTaken memory (edit it) = refusal_of (text_of memory.state) it ≡ None
IsTaken memory undo = 0 < length memory.done
IsTaken memory redo = 0 < length memory.undone
IsTaken memory _ = Unit {0}

step-made : (memory : Memory) (command : CommandOf) → IsTaken memory command → Step memory (kind_of command) (memory_after memory command)
step-made memory (edit it) taken =
    subst (λ (range : RangeOf). IsEdited memory range (memory_after memory (edit it))) (sym (edit_range-is memory.state.lines it)) (edited memory it taken)
step-made memory undo taken = undone memory taken
step-made memory redo taken = redone memory taken
step-made memory lock_scenes taken = record { lines = refl; done = refl; undone = refl }
step-made memory lock_pages taken = record { lines = refl; done = refl; undone = refl }
step-made memory next_round taken = record { lines = refl; done = refl; undone = refl }
step-made memory (speakers on) taken = record { lines = refl; done = refl; undone = refl }
step-made memory (paper size) taken = record { lines = refl; done = refl; undone = refl }
step-made memory (sheet index) taken = refl
step-made memory labels taken = refl
step-made memory blocks taken = refl
step-made memory outline taken = refl
step-made memory save taken = refl
step-made memory packet taken = refl

accepted-taken : (memory : Memory) (command : CommandOf) → CanDo memory command → IsTaken memory command
accepted-taken memory (edit it) can = can.taken
accepted-taken memory undo can = can
accepted-taken memory redo can = can
accepted-taken memory lock_scenes can = tt
accepted-taken memory lock_pages can = tt
accepted-taken memory next_round can = tt
accepted-taken memory (speakers on) can = tt
accepted-taken memory (paper size) can = tt
accepted-taken memory (sheet index) can = tt
accepted-taken memory labels can = tt
accepted-taken memory blocks can = tt
accepted-taken memory outline can = tt
accepted-taken memory save can = tt
accepted-taken memory packet can = tt

-- It makes a step of its kind.
pub accepted-made : (memory : Memory) (command : CommandOf) → CanDo memory command → Step memory (kind_of command) (memory_after memory command)
accepted-made memory command can = step-made memory command (accepted-taken memory command can)

no-edit : (refusal : Option Refusal) → option_map edit_refusal refusal ≡ None → refusal ≡ None
no-edit None is = refl
no-edit (Some reason) is = absurd (let bad : ⊥ = cc in bad)

some-entry : (count : ℕ) → (count == 0) ≡ false → 0 < count
some-entry count some = grind (arith, nat_tests)

free-taken : (memory : Memory) (command : CommandOf) → refusal_to memory command ≡ None → IsTaken memory command
free-taken memory (edit it) free = no-edit (refusal_of (text_of memory.state) it) free
free-taken memory undo free = some-entry (length memory.done) (no-reason (length memory.done == 0) nothing_to_undo free)
free-taken memory redo free = some-entry (length memory.undone) (no-reason (length memory.undone == 0) nothing_to_redo free)
free-taken memory lock_scenes free = tt
free-taken memory lock_pages free = tt
free-taken memory next_round free = tt
free-taken memory (speakers on) free = tt
free-taken memory (paper size) free = tt
free-taken memory (sheet index) free = tt
free-taken memory labels free = tt
free-taken memory blocks free = tt
free-taken memory outline free = tt
free-taken memory save free = tt
free-taken memory packet free = tt

-- ---- a command that the machine refuses

-- Nothing that was accepted and is answered by a refusal changes the memory.
accepted-same : (memory : Memory) (command : CommandOf) (reason : RefusalOf) → accepted_reply memory (memory_after memory command).state command ≡ refused reason → memory_after memory command ≡ memory
accepted-same memory (edit it) reason is = absurd (let bad : ⊥ = cc in bad)
accepted-same memory undo reason is = absurd (let bad : ⊥ = cc in bad)
accepted-same memory redo reason is = absurd (let bad : ⊥ = cc in bad)
accepted-same memory lock_scenes reason is = absurd (let bad : ⊥ = cc in bad)
accepted-same memory lock_pages reason is = absurd (let bad : ⊥ = cc in bad)
accepted-same memory next_round reason is = absurd (let bad : ⊥ = cc in bad)
accepted-same memory (speakers on) reason is = absurd (let bad : ⊥ = cc in bad)
accepted-same memory (paper size) reason is = absurd (let bad : ⊥ = cc in bad)
accepted-same memory (sheet index) reason is = refl
accepted-same memory labels reason is = refl
accepted-same memory blocks reason is = refl
accepted-same memory outline reason is = refl
accepted-same memory save reason is = refl
accepted-same memory packet reason is = refl

-- A step that is answered by a refusal changes nothing.
pub refused-same : (memory : Memory) (command : CommandOf) (reason : RefusalOf) → (step_of memory command).reply ≡ refused reason → (step_of memory command).after ≡ memory
refused-same memory command reason is = by (refusal_to memory command) is
  where
    by : (refusal : Option RefusalOf) → (step_by memory command refusal).reply ≡ refused reason → (step_by memory command refusal).after ≡ memory
    by None same = accepted-same memory command reason same
    by (Some other) same = refl

-- A step that isn't answered by a refusal is that of its kind.
pub unrefused-made : (memory : Memory) (command : CommandOf) → is_refused (step_of memory command).reply ≡ false → Step memory (kind_of command) (step_of memory command).after
unrefused-made memory command is = by (refusal_to memory command) refl is
  where
    by : (refusal : Option RefusalOf) → refusal_to memory command ≡ refusal → is_refused (step_by memory command refusal).reply ≡ false → Step memory (kind_of command) (step_by memory command refusal).after
    by None free same = step-made memory command (free-taken memory command free)
    by (Some other) free same = absurd (let bad : ⊥ = cc in bad)
