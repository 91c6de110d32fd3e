-- Every step of the machine keeps what a memory keeps, and loses no locked label.
use Rattle.std.proofs.Common.{◌≡◌, ◌-◌, Option, Some, None, List, [], ◌∷◌, ◌++◌, map, length, get_or, refl, sym, subst, ◌∙◌}
use Rattle.std.specs.Prelude.{All, IsPermutation}
use Rattle.std.specs.List.{Contains}
use Rattle.std.proofs.lemmas.List.{map-append}
use Rattle.std.proofs.lemmas.List.Elements.{All-nil, All-cons, All-append, All-weaker, All-contains, All-contains_itself, All-take}
use Rattle.std.proofs.lemmas.List.Sorted.{IsPermutation-map, Contains-permutation}
use Rattle.std.proofs.lemmas.Option.{slice_get_within, get_or_from_slice_get}
use Rattle.spec_text.specs.Edits.{EditOf, Replacement, replacement_of}
use Rattle.spec_text.specs.Ranges.{range_of}
use Rattle.spec_text.proofs.TakenEdits.{taken-inside}
use Rattle.spec_text.proofs.ListLaws.{All-front}
use Rattle.spec_labels.specs.Labels.{LabelOf}
use Rattle.spec_labels.specs.Scenes.{SceneRecordOf, new_records, extended_records}
use Rattle.spec_labels.specs.PageRecords.{PageRecordOf, new_page_records, extended_page_records}
use Rattle.spec_labels.proofs.SceneRecordLaws.{extended_records-permutation}
use Rattle.spec_labels.proofs.PageRecordLaws.{extended_page_records-permutation}
use Rattle.spec_state.specs.State.{State, text_of}
use Rattle.spec_state.specs.Headings.{headings_of}
use Rattle.spec_state.specs.StateSheets.{keys_in, body_sheets}
use Rattle.spec_state.specs.StateLabels.{page_label_of, scene_label_of, labels_of_pages, labels_of_scenes, page_labels, scene_labels}
use Rattle.spec_state.specs.Openings.{scenes_extended, pages_extended, scenes_locked, pages_locked, round_begun}
use Rattle.spec_state.specs.Changes.{edited_state, CanEdit}
use Rattle.spec_state.specs.Keeping.{IsWhole}
use Rattle.spec_state.proofs.EditKeeps.{edited-labels}
use Rattle.spec_wire.specs.Commands.{CommandOf, edit, undo, redo, lock_scenes, lock_pages, next_round, sheet, labels, blocks, outline, save, speakers, paper, packet}
use Rattle.spec_machine.specs.Machine.{EntryOf, Memory, opened_memory, last_entry, without_last, entry_of, undone_to, redone_to, memory_after, CanTake, CanDo, memory_behind}
use Rattle.spec_machine.specs.Sessions.{AcceptsAll}
use Rattle.spec_machine.specs.KeptMemories.{IsEntry, IsWholeMemory}
use Rattle.spec_machine.specs.LabelPromises.{HasAll, LosesNone}
use Rattle.spec_machine.proofs.RefusalLaws.{accepted-can}
use Rattle.spec_machine.proofs.WholeStates.{edit-whole, lock_scenes-whole, lock_pages-whole, round-whole, speakers-whole, paper-whole}

-- ---- entries

none-entries : (state : State) → All (IsEntry state) []
none-entries state = All-nil (IsEntry state)

entry-over : (old new : State) (entry : EntryOf) → page_labels old ≡ page_labels new → scene_labels old ≡ scene_labels new → IsEntry old entry → IsEntry new entry
entry-over old new entry pages scenes is = record { whole = is.whole; pages = is.pages ∙ pages; scenes = is.scenes ∙ scenes }

entries-over : (old new : State) (entries : List EntryOf) → page_labels old ≡ page_labels new → scene_labels old ≡ scene_labels new → All (IsEntry old) entries → All (IsEntry new) entries
entries-over old new entries pages scenes all k d h = entry-over old new (get_or entries k d) pages scenes (all k d h)

-- One more behind the others.
entries-more : (state : State) (entries : List EntryOf) (entry : EntryOf) → All (IsEntry state) entries → IsEntry state entry → All (IsEntry state) (entries ++ entry ∷ [])
entries-more state entries entry all is = All-append (IsEntry state) entries (entry ∷ []) all (All-cons (IsEntry state) entry [] is (none-entries state))

-- The last is one.
last-is : (state : State) (entries : List EntryOf) (entry : EntryOf) → All (IsEntry state) entries → last_entry entries ≡ Some entry → IsEntry state entry
last-is state entries entry all is =
    subst (IsEntry state) (get_or_from_slice_get entries (length entries - 1) entry entry is) (all (length entries - 1) entry (slice_get_within entries (length entries - 1) entry is))

-- ---- one step keeps it

pub opened-whole : (state : State) → IsWhole state → IsWholeMemory (opened_memory state)
opened-whole state whole = record { state = whole; done = none-entries state; undone = none-entries state }

-- From a state to that of one of its entries.
record Moves (memory : Memory) (entry : EntryOf) : Type 0 where
  there : IsEntry memory.state entry
  back : IsEntry entry.state (entry_of memory.state entry.range)

moves : (memory : Memory) (entries : List EntryOf) (entry : EntryOf) → IsWholeMemory memory → All (IsEntry memory.state) entries → last_entry entries ≡ Some entry → Moves memory entry
moves memory entries entry whole all is =
    let there = last-is memory.state entries entry all is in
    record { there = there; back = record { whole = whole.state; pages = sym there.pages; scenes = sym there.scenes } }

undo-whole : (memory : Memory) (last : Option EntryOf) → last_entry memory.done ≡ last → IsWholeMemory memory → IsWholeMemory (undone_to memory last)
undo-whole memory None is whole = whole
undo-whole memory (Some entry) is whole =
    let it = moves memory memory.done entry whole whole.done is in
    let there = it.there in
    record {
      state = there.whole;
      done = entries-over memory.state entry.state (without_last memory.done) (sym there.pages) (sym there.scenes) (All-take (IsEntry memory.state) (length memory.done - 1) memory.done whole.done);
      undone = entries-more entry.state memory.undone (entry_of memory.state entry.range) (entries-over memory.state entry.state memory.undone (sym there.pages) (sym there.scenes) whole.undone) it.back;
    }

redo-whole : (memory : Memory) (last : Option EntryOf) → last_entry memory.undone ≡ last → IsWholeMemory memory → IsWholeMemory (redone_to memory last)
redo-whole memory None is whole = whole
redo-whole memory (Some entry) is whole =
    let it = moves memory memory.undone entry whole whole.undone is in
    let there = it.there in
    record {
      state = there.whole;
      done = entries-more entry.state memory.done (entry_of memory.state entry.range) (entries-over memory.state entry.state memory.done (sym there.pages) (sym there.scenes) whole.done) it.back;
      undone = entries-over memory.state entry.state (without_last memory.undone) (sym there.pages) (sym there.scenes) (All-take (IsEntry memory.state) (length memory.undone - 1) memory.undone whole.undone);
    }

-- An accepted edit can be made.
pub taken-edit : (state : State) (it : EditOf) → CanTake state it → CanEdit state (replacement_of state.lines it)
taken-edit state it can = record { inside = taken-inside (text_of state) it can.taken; text = can.text }

edited-whole : (memory : Memory) (it : Replacement) → IsWholeMemory memory → CanEdit memory.state it → IsWholeMemory (record { state = edited_state memory.state it; done = memory.done ++ entry_of memory.state (range_of it) ∷ []; undone = [] })
edited-whole memory it whole can =
    let new = edited_state memory.state it in
    let same = sym (edited-labels memory.state it) in
    record {
      state = edit-whole memory.state it whole.state can;
      done = entries-more new memory.done (entry_of memory.state (range_of it)) (entries-over memory.state new memory.done same refl whole.done) (record { whole = whole.state; pages = same; scenes = refl });
      undone = none-entries new;
    }

pub step-whole : (memory : Memory) (command : CommandOf) → IsWholeMemory memory → CanDo memory command → IsWholeMemory (memory_after memory command)
step-whole memory (edit it) whole can = edited-whole memory (replacement_of memory.state.lines it) whole (taken-edit memory.state it can)
step-whole memory undo whole can = undo-whole memory (last_entry memory.done) refl whole
step-whole memory redo whole can = redo-whole memory (last_entry memory.undone) refl whole
step-whole memory lock_scenes whole can = opened-whole (scenes_locked memory.state) (lock_scenes-whole memory.state whole.state can)
step-whole memory lock_pages whole can = opened-whole (pages_locked memory.state) (lock_pages-whole memory.state whole.state can)
step-whole memory next_round whole can = opened-whole (round_begun memory.state) (round-whole memory.state whole.state can)
step-whole memory (speakers on) whole can = opened-whole (record (memory.state) { speakers = on }) (speakers-whole memory.state on whole.state)
step-whole memory (paper size) whole can = opened-whole (record (memory.state) { paper = size }) (paper-whole memory.state size whole.state)
step-whole memory (sheet index) whole can = whole
step-whole memory labels whole can = whole
step-whole memory blocks whole can = whole
step-whole memory outline whole can = whole
step-whole memory save whole can = whole
step-whole memory packet whole can = whole

-- So do all steps.
pub steps-whole : (memory : Memory) (commands : List CommandOf) → IsWholeMemory memory → AcceptsAll memory commands → IsWholeMemory (memory_behind memory commands)
steps-whole memory [] whole can = whole
steps-whole memory (command ∷ commands) whole can = steps-whole (memory_after memory command) commands (step-whole memory command whole (accepted-can memory command can.0)) can.1

-- ---- what is opened is whole

-- A text with its records.

none-lost : (those : List LabelOf) → HasAll those those
none-lost those = All-contains_itself those

same-lost : (earlier later : List LabelOf) → later ≡ earlier → HasAll earlier later
same-lost earlier later same = subst (HasAll earlier) (sym same) (none-lost earlier)

lost-then : (one other more : List LabelOf) → HasAll one other → HasAll other more → HasAll one more
lost-then one other more first second k d h = All-contains (Contains more) other (get_or one k d) second (first k d h)

-- A list that is put in another order, with more in it.
more-lost : {X : Type 0} (f : X → LabelOf) (xs ys zs : List X) → IsPermutation (xs ++ ys) zs → HasAll (map f xs) (map f zs)
more-lost f xs ys zs permuted =
    All-weaker (Contains (map f (xs ++ ys))) (Contains (map f zs)) (λ l has. Contains-permutation (map f (xs ++ ys)) (map f zs) l (IsPermutation-map f (xs ++ ys) zs permuted) has) (map f xs)
    (All-front (Contains (map f (xs ++ ys))) (map f xs) (map f ys) (subst (λ (ls : List LabelOf). All (Contains (map f (xs ++ ys))) ls) (map-append f xs ys) (All-contains_itself (map f (xs ++ ys)))))

scenes-lost : (state : State) (scenes : Option (List SceneRecordOf)) → HasAll (labels_of_scenes scenes) (labels_of_scenes (scenes_extended (headings_of state.lines) scenes))
scenes-lost state None = none-lost []
scenes-lost state (Some records) =
    more-lost scene_label_of records (new_records records (headings_of state.lines)) (extended_records records (headings_of state.lines)) (extended_records-permutation records (headings_of state.lines))

pages-lost : (state : State) (pages : Option (List PageRecordOf)) → HasAll (labels_of_pages pages) (labels_of_pages (pages_extended state pages))
pages-lost state None = none-lost []
pages-lost state (Some records) =
    more-lost page_label_of records (new_page_records records (body_sheets state) (keys_in state)) (extended_page_records records (body_sheets state) (keys_in state))
    (extended_page_records-permutation records (body_sheets state) (keys_in state))

pub all-stay : (state : State) → LosesNone state state
all-stay state = record { pages = none-lost (page_labels state); scenes = none-lost (scene_labels state) }

pub lost-on : (one other more : State) → LosesNone one other → LosesNone other more → LosesNone one more
lost-on one other more first second = record { pages = lost-then _ _ _ first.pages second.pages; scenes = lost-then _ _ _ first.scenes second.scenes }

undo-lost : (memory : Memory) (last : Option EntryOf) → last_entry memory.done ≡ last → IsWholeMemory memory → LosesNone memory.state (undone_to memory last).state
undo-lost memory None is whole = all-stay memory.state
undo-lost memory (Some entry) is whole =
    let there = (moves memory memory.done entry whole whole.done is).there in
    record { pages = same-lost _ _ there.pages; scenes = same-lost _ _ there.scenes }

redo-lost : (memory : Memory) (last : Option EntryOf) → last_entry memory.undone ≡ last → IsWholeMemory memory → LosesNone memory.state (redone_to memory last).state
redo-lost memory None is whole = all-stay memory.state
redo-lost memory (Some entry) is whole =
    let there = (moves memory memory.undone entry whole whole.undone is).there in
    record { pages = same-lost _ _ there.pages; scenes = same-lost _ _ there.scenes }

pub step-lost : (memory : Memory) (command : CommandOf) → IsWholeMemory memory → CanDo memory command → LosesNone memory.state (memory_after memory command).state
step-lost memory (edit it) whole can =
    record { pages = same-lost _ _ (edited-labels memory.state (replacement_of memory.state.lines it)); scenes = none-lost (scene_labels memory.state) }
step-lost memory undo whole can = undo-lost memory (last_entry memory.done) refl whole
step-lost memory redo whole can = redo-lost memory (last_entry memory.undone) refl whole
step-lost memory lock_scenes whole can =
    record {
      pages = none-lost (page_labels memory.state);
      scenes = subst (λ (s : Option (List SceneRecordOf)). HasAll (labels_of_scenes s) (scene_labels (scenes_locked memory.state))) (sym can.unlocked) (All-nil (Contains (scene_labels (scenes_locked memory.state))));
    }
step-lost memory lock_pages whole can =
    record {
      pages = subst (λ (p : Option (List PageRecordOf)). HasAll (labels_of_pages p) (page_labels (pages_locked memory.state))) (sym can.unlocked) (All-nil (Contains (page_labels (pages_locked memory.state))));
      scenes = scenes-lost memory.state memory.state.scenes;
    }
step-lost memory next_round whole can = record { pages = pages-lost memory.state memory.state.pages; scenes = scenes-lost memory.state memory.state.scenes }
step-lost memory (speakers on) whole can = record { pages = none-lost (page_labels memory.state); scenes = none-lost (scene_labels memory.state) }
step-lost memory (paper size) whole can = record { pages = none-lost (page_labels memory.state); scenes = none-lost (scene_labels memory.state) }
step-lost memory (sheet index) whole can = all-stay memory.state
step-lost memory labels whole can = all-stay memory.state
step-lost memory blocks whole can = all-stay memory.state
step-lost memory outline whole can = all-stay memory.state
step-lost memory save whole can = all-stay memory.state
step-lost memory packet whole can = all-stay memory.state

-- From each state to each later one, through edits, undo and redo, locks, rounds and settings.
pub steps-lost : (memory : Memory) (commands : List CommandOf) → IsWholeMemory memory → AcceptsAll memory commands → LosesNone memory.state (memory_behind memory commands).state
steps-lost memory [] whole can = all-stay memory.state
steps-lost memory (command ∷ commands) whole can =
    let able = accepted-can memory command can.0 in
    let here = step-lost memory command whole able in
    let rest = steps-lost (memory_after memory command) commands (step-whole memory command whole able) can.1 in
    lost-on memory.state (memory_after memory command).state (memory_behind (memory_after memory command) commands).state here rest
