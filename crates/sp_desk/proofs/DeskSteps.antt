-- What the calls of a script make of a desk are the steps of its machine.
use Rattle.std.proofs.Common.{◌≡◌, ℕ, ◌<◌, ◌==◌, Bool, false, Option, Some, None, Result, Ok, Err, List, [], ◌∷◌, ◌++◌, length, get_or, refl, sym, ap, subst, ◌∙◌, arith}
use Rattle.std.specs.Prelude.{All, IsErrAnd, option_map, nat_le, slice_get}
use Rattle.std.proofs.lemmas.List.{length-append}
use Rattle.std.proofs.Math.Seq.{get_or-append_seam}
use Rattle.std.proofs.lemmas.Bool.Decides.{nat_tests}
use Rattle.std.proofs.lemmas.Option.{slice_get_within}
use Rattle.spec_text.specs.Lines.{IsText}
use Rattle.spec_text.specs.Edits.{EditOf, Replacement, replacement_of, refusal_of}
use Rattle.spec_text.specs.Ranges.{RangeOf, range_of}
use Rattle.spec_state.specs.State.{State, text_of}
use Rattle.spec_state.specs.Changes.{text_after, edited_state}
use Rattle.spec_state.specs.Openings.{scenes_locked, pages_locked, round_begun}
use Rattle.spec_state.specs.Keeping.{IsWhole}
use Rattle.spec_state.specs.StateSheets.{sheets_of_state}
use Rattle.spec_sheets.specs.Sheets.{Sheet}
use Rattle.spec_wire.specs.Commands.{CommandOf, edit, undo, redo, lock_scenes, lock_pages, next_round, sheet}
use Rattle.spec_wire.specs.Replies as replies
use Rattle.spec_wire.specs.Replies.{RefusalOf, refused, nothing_to_undo, nothing_to_redo, no_sheet}
use Rattle.spec_machine.specs.Machine.{EntryOf, Memory, opened_memory, last_entry, without_last, entry_of, edited_memory, undone_to, redone_to, memory_after, CanDo}
use Rattle.spec_machine.specs.KeptMemories.{IsEntry, IsWholeMemory}
use Rattle.spec_machine.specs.Refusals.{refusal_to, edit_refusal, reason_if, scenes_refusal, pages_refusal, round_refusal}
use Rattle.spec_machine.specs.Answers.{Step, step_by, step_of, accepted_reply, found_sheet, sheet_reply}
use Rattle.spec_machine.proofs.MachineLaws.{step-whole}
use Rattle.spec_machine.proofs.StepLaws.{Keeps, free-CanDo, same-Keeps, step-Keeps}
use Rattle.spec_locked_pages.specs.Chains.{AreLinked}
use Rattle.spec_locked_pages.specs.Promises.{KeepsPages}
use Rattle.spec_locked_pages.proofs.ChainLaws.{step-linked}
use Rattle.spec_locked_pages.proofs.PageLaws.{command-keeps, unchanged-keeps}
use Rattle.spec_machine.proofs.RefusalLaws.{free-scenes, free-pages, free-round}
use Rattle.sp_state.specs.Entries.{CanTurn, EntryState, Leads, done_range, turned_range, turned_state}
use Rattle.sp_wire.specs.declared.reply.Reply.{Reply}
use Rattle.sp_wire.specs.Values.{reply_of}
use Rattle.sp_wire.specs.Values as values
use Rattle.sp_desk.specs.declared.fault.DeskFault.{DeskFault}
use Rattle.sp_desk.specs.declared.fault.DeskFault.TheVariants.{Refused, NoMemory}
use Rattle.sp_desk.specs.Memories.{entries_by, CanTurnAll, memory_by, IsDesk}
use Rattle.sp_records.specs.declared.opening_fault.OpeningFault.{OpeningFault}
use Rattle.sp_records.specs.declared.opening_fault.OpeningFault.TheVariants as faults
use Rattle.sp_sheets.specs.Openings.{IsReason}
use Rattle.sp_text.specs.declared.fault.EditFault.{EditFault}
use Rattle.sp_text.specs.declared.fault.EditFault.TheVariants as edit_faults
use Rattle.sp_text.specs.Changing.{Refuses}
use Rattle.sp_desk.specs.Answers.{IsAnswer, fault_of, opening_fault_of, step_to}
use Rattle.sp_state.proofs.EntryLaws.{turned-range}
use Rattle.sp_desk.proofs.EntryLaws.{last-more, front-more, entries-more, can-more, can-last, can-front, entries-same, can-same}

-- ---- steps

-- An accepted command makes the machine's memory and answers its reply.
accepted-step : (memory after : Memory) (command : CommandOf) → refusal_to memory command ≡ None → after ≡ memory_after memory command
    → step_to after (accepted_reply memory after.state command) ≡ step_of memory command
accepted-step memory after command free is =
    ap (λ (m : Memory). step_to m (accepted_reply memory m.state command)) is ∙ ap (step_by memory command) (sym free)

pub refused-step : (memory : Memory) (command : CommandOf) (reason : RefusalOf) → refusal_to memory command ≡ Some reason → step_to memory (refused reason) ≡ step_of memory command
refused-step memory command reason is = ap (step_by memory command) (sym is)

-- A step of the machine to a desk of this state with these entries.
pub record IsStep (old : Memory) (command : CommandOf) (state : State) (done undone : List EntryState) : Type 0 where
  pub step : step_to (memory_by state done undone) (accepted_reply old state command) ≡ step_of old command
  pub desk : IsDesk state done undone

memory-same : (state : State) (done undone : List EntryOf) (other : State) (others more : List EntryOf) → state ≡ other → done ≡ others → undone ≡ more
    → (let one : Memory = record { state = state; done = done; undone = undone } in one) ≡ (let two : Memory = record { state = other; done = others; undone = more } in two)
memory-same state done undone other others more s d u = cc

-- ---- one entry

-- One that leads from the new state to the old one is added.
added : (range : EntryState → RangeOf) (old new : State) (entries : List EntryState) (entry : EntryState) (place : RangeOf)
    → turned_state new entry ≡ old → range entry ≡ place → entries_by range new (entries ++ entry ∷ []) ≡ entries_by range old entries ++ entry_of old place ∷ []
added range old new entries entry place back is =
    entries-more range new entries entry
    ∙ ap (λ (s : State). entries_by range s entries ++ entry_of s (range entry) ∷ []) back
    ∙ ap (λ (r : RangeOf). entries_by range old entries ++ entry_of old r ∷ []) is

can-added : (old new : State) (entries : List EntryState) (entry : EntryState) → Leads new old entry → CanTurnAll old entries → CanTurnAll new (entries ++ entry ∷ [])
can-added old new entries entry leads all = can-more new entries entry leads.can (subst (λ (s : State). CanTurnAll s entries) (sym leads.there) all)

-- The last one is taken.
taken : (range : EntryState → RangeOf) (old new : State) (entries : List EntryState) (entry : EntryState)
    → new ≡ turned_state old entry → entries_by range new entries ≡ without_last (entries_by range old (entries ++ entry ∷ []))
taken range old new entries entry is =
    ap (λ (s : State). entries_by range s entries) is
    ∙ sym (front-more (entries_by range (turned_state old entry) entries) (entry_of (turned_state old entry) (range entry)))
    ∙ ap without_last (sym (entries-more range old entries entry))

can-taken : (old new : State) (entries : List EntryState) (entry : EntryState) → new ≡ turned_state old entry → CanTurnAll old (entries ++ entry ∷ []) → CanTurnAll new entries
can-taken old new entries entry is all = subst (λ (s : State). CanTurnAll s entries) (sym is) (can-front old entries entry all)

last-of : (range : EntryState → RangeOf) (state : State) (entries : List EntryState) (entry : EntryState)
    → last_entry (entries_by range state (entries ++ entry ∷ [])) ≡ Some (entry_of (turned_state state entry) (range entry))
last-of range state entries entry =
    ap last_entry (entries-more range state entries entry) ∙ last-more (entries_by range (turned_state state entry) entries) (entry_of (turned_state state entry) (range entry))

-- Where there is an entry, the list isn't empty.
longer : (range : EntryState → RangeOf) (state : State) (entries : List EntryState) (entry : EntryState) → 0 < length (entries_by range state (entries ++ entry ∷ []))
longer range state [] entry = omega arith
longer range state (it ∷ entries) entry = omega arith

some-of : (range : EntryState → RangeOf) (state : State) (entries : List EntryState) (entry : EntryState) (reason : RefusalOf)
    → reason_if (length (entries_by range state (entries ++ entry ∷ [])) == 0) reason ≡ None
some-of range state entries entry reason = ap (λ (b : Bool). reason_if b reason) (not-none (length (entries_by range state (entries ++ entry ∷ []))) (longer range state entries entry))
  where
    not-none : (n : ℕ) → 0 < n → (n == 0) ≡ false
    not-none n positive = grind (arith, nat_tests)

-- The state that the last entry leads to is whole.
last-whole : (range : EntryState → RangeOf) (state other : State) (entries : List EntryState) (entry : EntryState)
    → All (IsEntry other) (entries_by range state (entries ++ entry ∷ [])) → IsWhole (turned_state state entry)
last-whole range state other entries entry all =
    let front = entries_by range (turned_state state entry) entries in
    let last = entry_of (turned_state state entry) (range entry) in
    let those : All (IsEntry other) (front ++ last ∷ []) = subst (All (IsEntry other)) (entries-more range state entries entry) all in
    let here : IsEntry other (get_or (front ++ last ∷ []) (length front) last) = those (length front) last (omega (arith, length-append front (last ∷ []))) in
    (subst (IsEntry other) (get_or-append_seam front last [] last) here).whole

-- Lists as the journal has them.
listed : (P : List EntryState → List EntryState → Type 0) (dones undones done undone : List EntryState) → dones ≡ done → undones ≡ undone → P done undone → P dones undones
listed P dones undones done undone first second it = subst (λ (es : List EntryState). P es undones) (sym first) (subst (P done) (sym second) it)

-- ---- an edit

edited-memory : (old new : State) (done undone : List EntryState) (entry : EntryState) (it : Replacement) → new ≡ edited_state old it → Leads new old entry → done_range entry ≡ range_of it
    → memory_by new (done ++ entry ∷ []) [] ≡ edited_memory (memory_by old done undone) it
edited-memory old new done undone entry it is leads range =
    memory-same _ _ _ _ _ _ is (added done_range old new done entry (range_of it) leads.there range) refl

edit-step : (old new : State) (done undone : List EntryState) (entry : EntryState) (it : EditOf) → IsDesk old done undone → refusal_of (text_of old) it ≡ None
    → new ≡ edited_state old (replacement_of old.lines it) → IsText (text_of new) → Leads new old entry → done_range entry ≡ range_of (replacement_of old.lines it)
    → IsStep (memory_by old done undone) (edit it) new (done ++ entry ∷ []) []
edit-step old new done undone entry it desk free is text leads range =
    let memory = memory_by old done undone in
    let same = edited-memory old new done undone entry (replacement_of old.lines it) is leads range in
    let there : IsText (text_after old (replacement_of old.lines it)) = subst (λ (s : State). IsText (text_of s)) is text in
    record {
      step = accepted-step memory (memory_by new (done ++ entry ∷ []) []) (edit it) (ap (option_map edit_refusal) free) same;
      desk = record {
        whole = subst IsWholeMemory (sym same) (step-whole memory (edit it) desk.whole (record { taken = free; text = there }));
        linked = subst AreLinked (sym same) (step-linked memory (edit it) desk.linked (record { taken = free; text = there }));
        can_undo = can-added old new done entry leads desk.can_undo;
        can_redo = tt;
      };
    }

pub edited-step : (old new : State) (done undone dones undones : List EntryState) (entry : EntryState) (it : EditOf) → IsDesk old done undone → refusal_of (text_of old) it ≡ None
    → new ≡ edited_state old (replacement_of old.lines it) → IsText (text_of new) → Leads new old entry → done_range entry ≡ range_of (replacement_of old.lines it) → dones ≡ done ++ entry ∷ [] → undones ≡ []
    → IsStep (memory_by old done undone) (edit it) new dones undones
edited-step old new done undone dones undones entry it desk free is text leads range more none =
    listed (IsStep (memory_by old done undone) (edit it) new) dones undones (done ++ entry ∷ []) [] more none (edit-step old new done undone entry it desk free is text leads range)

-- ---- undo and redo

undone-memory : (old new : State) (done undone : List EntryState) (entry again : EntryState) → new ≡ turned_state old entry → Leads new old again → done_range again ≡ turned_range entry
    → memory_by new done (undone ++ again ∷ []) ≡ memory_after (memory_by old (done ++ entry ∷ []) undone) undo
undone-memory old new done undone entry again is leads range =
    let memory = memory_by old (done ++ entry ∷ []) undone in
    memory-same _ _ _ _ _ _ is (taken done_range old new done entry is) (added turned_range old new undone again (done_range entry) leads.there (turned-range again entry range))
    ∙ ap (undone_to memory) (sym (last-of done_range old done entry))

undo-step : (old new : State) (done undone : List EntryState) (entry again : EntryState) → IsDesk old (done ++ entry ∷ []) undone
    → new ≡ turned_state old entry → Leads new old again → done_range again ≡ turned_range entry
    → IsStep (memory_by old (done ++ entry ∷ []) undone) undo new done (undone ++ again ∷ [])
undo-step old new done undone entry again desk is leads range =
    let memory = memory_by old (done ++ entry ∷ []) undone in
    let same = undone-memory old new done undone entry again is leads range in
    record {
      step = accepted-step memory (memory_by new done (undone ++ again ∷ [])) undo (some-of done_range old done entry nothing_to_undo) same;
      desk = record {
        whole = subst IsWholeMemory (sym same) (step-whole memory undo desk.whole (longer done_range old done entry));
        linked = subst AreLinked (sym same) (step-linked memory undo desk.linked (longer done_range old done entry));
        can_undo = can-taken old new done entry is desk.can_undo;
        can_redo = can-added old new undone again leads desk.can_redo;
      };
    }

pub undone-step : (old new : State) (done undone front dones undones : List EntryState) (entry again : EntryState) → IsDesk old done undone
    → done ≡ front ++ entry ∷ [] → new ≡ turned_state old entry → Leads new old again → done_range again ≡ turned_range entry → dones ≡ front → undones ≡ undone ++ again ∷ []
    → IsStep (memory_by old done undone) undo new dones undones
undone-step old new done undone front dones undones entry again desk last is leads range there more =
    let desks : IsDesk old (front ++ entry ∷ []) undone = subst (λ (es : List EntryState). IsDesk old es undone) last desk in
    subst (λ (es : List EntryState). IsStep (memory_by old es undone) undo new dones undones) (sym last)
    (listed (IsStep (memory_by old (front ++ entry ∷ []) undone) undo new) dones undones front (undone ++ again ∷ []) there more (undo-step old new front undone entry again desks is leads range))

redone-memory : (old new : State) (done undone : List EntryState) (entry again : EntryState) → new ≡ turned_state old entry → Leads new old again → done_range again ≡ turned_range entry
    → memory_by new (done ++ again ∷ []) undone ≡ memory_after (memory_by old done (undone ++ entry ∷ [])) redo
redone-memory old new done undone entry again is leads range =
    let memory = memory_by old done (undone ++ entry ∷ []) in
    memory-same _ _ _ _ _ _ is (added done_range old new done again (turned_range entry) leads.there range) (taken turned_range old new undone entry is)
    ∙ ap (redone_to memory) (sym (last-of turned_range old undone entry))

redo-step : (old new : State) (done undone : List EntryState) (entry again : EntryState) → IsDesk old done (undone ++ entry ∷ [])
    → new ≡ turned_state old entry → Leads new old again → done_range again ≡ turned_range entry
    → IsStep (memory_by old done (undone ++ entry ∷ [])) redo new (done ++ again ∷ []) undone
redo-step old new done undone entry again desk is leads range =
    let memory = memory_by old done (undone ++ entry ∷ []) in
    let same = redone-memory old new done undone entry again is leads range in
    record {
      step = accepted-step memory (memory_by new (done ++ again ∷ []) undone) redo (some-of turned_range old undone entry nothing_to_redo) same;
      desk = record {
        whole = subst IsWholeMemory (sym same) (step-whole memory redo desk.whole (longer turned_range old undone entry));
        linked = subst AreLinked (sym same) (step-linked memory redo desk.linked (longer turned_range old undone entry));
        can_undo = can-added old new done again leads desk.can_undo;
        can_redo = can-taken old new undone entry is desk.can_redo;
      };
    }

pub redone-step : (old new : State) (done undone front dones undones : List EntryState) (entry again : EntryState) → IsDesk old done undone
    → undone ≡ front ++ entry ∷ [] → new ≡ turned_state old entry → Leads new old again → done_range again ≡ turned_range entry → undones ≡ front → dones ≡ done ++ again ∷ []
    → IsStep (memory_by old done undone) redo new dones undones
redone-step old new done undone front dones undones entry again desk last is leads range there more =
    let desks : IsDesk old done (front ++ entry ∷ []) = subst (λ (es : List EntryState). IsDesk old done es) last desk in
    subst (λ (es : List EntryState). IsStep (memory_by old done es) redo new dones undones) (sym last)
    (listed (IsStep (memory_by old done (front ++ entry ∷ [])) redo new) dones undones (done ++ again ∷ []) front more there (redo-step old new done front entry again desks is leads range))

-- ---- what is asked of a script

pub record MayTurn (state : State) (entry : EntryState) : Type 0 where
  pub can : CanTurn state entry
  pub whole : IsWhole (turned_state state entry)

pub may-turn : (range : EntryState → RangeOf) (state : State) (entries front : List EntryState) (entry : EntryState)
    → entries ≡ front ++ entry ∷ [] → CanTurnAll state entries → All (IsEntry state) (entries_by range state entries) → MayTurn state entry
may-turn range state entries front entry last can all = record {
  can = can-last state front entry (subst (CanTurnAll state) last can);
  whole = last-whole range state state front entry (subst (λ (es : List EntryState). All (IsEntry state) (entries_by range state es)) last all);
}

-- ---- an entry is handed back

-- Entries lead where others led.
pub record AreSame (range : EntryState → RangeOf) (state : State) (entries others : List EntryState) : Type 0 where
  pub same : entries_by range state others ≡ entries_by range state entries
  pub can : CanTurnAll state others

pub unchanged : (range : EntryState → RangeOf) (state : State) (entries others : List EntryState) → others ≡ entries → CanTurnAll state entries → AreSame range state entries others
unchanged range state entries others is can = record { same = ap (entries_by range state) is; can = subst (CanTurnAll state) (sym is) can }

-- The last one is handed back as another that leads to the same state.
pub handed-back : (range : EntryState → RangeOf) (state : State) (entries front others : List EntryState) (entry back : EntryState) → entries ≡ front ++ entry ∷ [] → others ≡ front ++ back ∷ []
    → CanTurn state back → turned_state state back ≡ turned_state state entry → range back ≡ range entry → CanTurnAll state entries → AreSame range state entries others
handed-back range state entries front others entry back last more can there same all = record {
  same = ap (entries_by range state) more ∙ entries-same range state front back entry there same ∙ ap (entries_by range state) (sym last);
  can = subst (CanTurnAll state) (sym more) (can-same state front back entry can there (subst (CanTurnAll state) last all));
}

-- A desk stands for the memory that it stood for.
pub record IsSameDesk (memory : Memory) (state : State) (done undone : List EntryState) : Type 0 where
  pub same : memory_by state done undone ≡ memory
  pub desk : IsDesk state done undone

pub same-desk : (state new : State) (done undone dones undones : List EntryState) → new ≡ state → AreSame done_range state done dones → AreSame turned_range state undone undones → IsDesk state done undone
    → IsSameDesk (memory_by state done undone) new dones undones
same-desk state new done undone dones undones is first second desk =
    let same = memory-same _ _ _ _ _ _ refl first.same second.same in
    subst (λ (s : State). IsSameDesk (memory_by state done undone) s dones undones) (sym is)
    (record {
      same = same;
      desk = record { whole = subst IsWholeMemory (sym same) desk.whole; linked = subst AreLinked (sym same) desk.linked; can_undo = first.can; can_redo = second.can };
    })

-- ---- locks, rounds and settings, and what is opened

-- They empty both lists.
opening-step : (old new : State) (done undone : List EntryState) (command : CommandOf) → IsDesk old done undone → refusal_to (memory_by old done undone) command ≡ None
    → CanDo (memory_by old done undone) command → opened_memory new ≡ memory_after (memory_by old done undone) command → IsStep (memory_by old done undone) command new [] []
opening-step old new done undone command desk free can same =
    let memory = memory_by old done undone in
    record {
      step = accepted-step memory (opened_memory new) command free same;
      desk = record {
        whole = subst IsWholeMemory (sym same) (step-whole memory command desk.whole can);
        linked = subst AreLinked (sym same) (step-linked memory command desk.linked can);
        can_undo = tt;
        can_redo = tt;
      };
    }

pub scenes-step : (old new : State) (done undone dones undones : List EntryState) → IsDesk old done undone → scenes_refusal old ≡ None → new ≡ scenes_locked old → dones ≡ [] → undones ≡ []
    → IsStep (memory_by old done undone) lock_scenes new dones undones
scenes-step old new done undone dones undones desk free is first second =
    listed (IsStep (memory_by old done undone) lock_scenes new) dones undones [] [] first second (opening-step old new done undone lock_scenes desk free (free-scenes old free) (ap opened_memory is))

pub pages-step : (old new : State) (done undone dones undones : List EntryState) → IsDesk old done undone → pages_refusal old ≡ None → new ≡ pages_locked old → dones ≡ [] → undones ≡ []
    → IsStep (memory_by old done undone) lock_pages new dones undones
pages-step old new done undone dones undones desk free is first second =
    listed (IsStep (memory_by old done undone) lock_pages new) dones undones [] [] first second (opening-step old new done undone lock_pages desk free (free-pages old free) (ap opened_memory is))

pub round-step : (old new : State) (done undone dones undones : List EntryState) → IsDesk old done undone → round_refusal old ≡ None → new ≡ round_begun old → dones ≡ [] → undones ≡ []
    → IsStep (memory_by old done undone) next_round new dones undones
round-step old new done undone dones undones desk free is first second =
    listed (IsStep (memory_by old done undone) next_round new) dones undones [] [] first second (opening-step old new done undone next_round desk free (free-round old free) (ap opened_memory is))

-- What refuses a lock or a round is told.
pub refused-opening : (memory : Memory) (command : CommandOf) (fault : OpeningFault) → IsReason (refusal_to memory command) fault → IsAnswer memory command memory (Err (opening_fault_of fault))
refused-opening memory command faults.ScenesLocked is = refused-step memory command replies.scenes_locked is
refused-opening memory command (faults.SceneForm place) is = refused-step memory command (replies.scene_form place) is
refused-opening memory command (faults.SceneOrder place) is = refused-step memory command (replies.scene_order place) is
refused-opening memory command faults.ScenesNotLocked is = refused-step memory command replies.scenes_not_locked is
refused-opening memory command faults.PagesLocked is = refused-step memory command replies.pages_locked is
refused-opening memory command faults.NoPages is = refused-step memory command replies.no_pages is
refused-opening memory command faults.RoundsFull is = refused-step memory command replies.rounds_full is
refused-opening memory command faults.RecordsFull is = refused-step memory command replies.records_full is
refused-opening memory command faults.NoMemory is = refl

-- What refuses an edit is told.
refused-edit : (memory : Memory) (it : EditOf) (fault : EditFault) → Refuses {T = Unit {0}} (refusal_of (text_of memory.state) it) (Err fault) → IsAnswer memory (edit it) memory (Err (fault_of fault))
refused-edit memory it edit_faults.Range is = refused-step memory (edit it) replies.range (ap (option_map edit_refusal) is)
refused-edit memory it edit_faults.Boundary is = refused-step memory (edit it) replies.boundary (ap (option_map edit_refusal) is)
refused-edit memory it edit_faults.LineBreak is = refused-step memory (edit it) replies.line_break (ap (option_map edit_refusal) is)
refused-edit memory it edit_faults.LineFull is = refused-step memory (edit it) replies.line_full (ap (option_map edit_refusal) is)
refused-edit memory it edit_faults.TextFull is = refused-step memory (edit it) replies.text_full (ap (option_map edit_refusal) is)
refused-edit memory it edit_faults.IdsSpent is = refused-step memory (edit it) replies.ids_spent (ap (option_map edit_refusal) is)
refused-edit memory it edit_faults.NoMemory is = refl

pub edit-told : (memory new : Memory) (it : EditOf) (fault : EditFault) (answer : Result Reply DeskFault) → Refuses {T = Unit {0}} (refusal_of (text_of memory.state) it) (Err fault) → new ≡ memory
    → IsErrAnd answer (λ (told : DeskFault). told ≡ fault_of fault) → IsAnswer memory (edit it) new answer
edit-told memory new it fault (Ok reply) is same tells = absurd tells
edit-told memory new it fault (Err told) is same tells =
    subst (λ (m : Memory). IsAnswer memory (edit it) m (Err told)) (sym same) (subst (λ (t : DeskFault). IsAnswer memory (edit it) memory (Err t)) (sym tells) (refused-edit memory it fault is))

-- ---- sheets

pub sheet-found : (memory : Memory) (index : ℕ) (it : Sheet) → slice_get (sheets_of_state memory.state) index ≡ Some it → step_to memory (sheet_reply it) ≡ step_of memory (sheet index)
sheet-found memory index it at =
    ap (λ (found : Option Sheet). step_to memory (found_sheet found)) (sym at)
    ∙ ap (step_by memory (sheet index)) (sym (ap (λ (b : Bool). reason_if b no_sheet) (within (length (sheets_of_state memory.state)) (slice_get_within (sheets_of_state memory.state) index it at))))
  where
    within : (count : ℕ) → index < count → nat_le count index ≡ false
    within count inside = grind (arith, nat_tests)

-- ---- every answer

-- What every answer keeps: labels are as promised and none is lost, and a lock of pages and a new round leave the bytes of every sheet.
pub answer-Keeps : (old new : Memory) (command : CommandOf) (result : Result Reply DeskFault) → IsWholeMemory old → IsWholeMemory new → IsAnswer old command new result → Keeps old command new
answer-Keeps old new command (Ok reply) whole after is = step-Keeps old new command (step_to new (reply_of reply)) whole after is refl
answer-Keeps old new command (Err (Refused reason)) whole after is = step-Keeps old new command (step_to new (refused (values.refusal_of reason))) whole after is refl
answer-Keeps old new command (Err NoMemory) whole after is = same-Keeps old new command whole is

-- Nothing is changed.
same-pages : (old new : Memory) (command : CommandOf) → new ≡ old → KeepsPages old command new.state
same-pages old new command is = subst (λ (m : Memory). KeepsPages old command m.state) (sym is) (unchanged-keeps old command)

step-pages : (old new : Memory) (command : CommandOf) (step : Step) → IsWholeMemory old → IsWholeMemory new → step ≡ step_of old command → new ≡ step.after → KeepsPages old command new.state
step-pages old new command step whole after is there = by (refusal_to old command) refl is
  where
    by : (refusal : Option RefusalOf) → refusal_to old command ≡ refusal → step ≡ step_by old command refusal → KeepsPages old command new.state
    by None free same =
        let e : new ≡ memory_after old command = cc (there, ap (λ (s : Step). s.after) same) in
        subst (λ (m : Memory). KeepsPages old command m.state) (sym e) (command-keeps old command whole (free-CanDo old command (subst IsWholeMemory e after) free))
    by (Some reason) free same = let e : new ≡ old = cc (there, ap (λ (s : Step). s.after) same) in same-pages old new command e

-- Every answer keeps the locked pages that it leaves alone.
pub answer-pages : (old new : Memory) (command : CommandOf) (result : Result Reply DeskFault) → IsWholeMemory old → IsWholeMemory new → IsAnswer old command new result → KeepsPages old command new.state
answer-pages old new command (Ok reply) whole after is = step-pages old new command (step_to new (reply_of reply)) whole after is refl
answer-pages old new command (Err (Refused reason)) whole after is = step-pages old new command (step_to new (refused (values.refusal_of reason))) whole after is refl
answer-pages old new command (Err NoMemory) whole after is = same-pages old new command is
