-- The law of locked pages for one edit, along the entries of a memory, and for every memory of a desk.
use Rattle.std.proofs.Common.{◌≡◌, ℕ, zero, suc, ◌-◌, ◌<◌, Option, Some, List, [], ◌∷◌, ◌++◌, length, take, drop, slice_get, refl, sym, ap, subst, ◌∙◌, arith}
use Rattle.std.specs.Prelude.{All}
use Rattle.std.proofs.lemmas.List.Elements.{All-head, All-tail}
use Rattle.spec_text.specs.Lines.{line_texts}
use Rattle.spec_text.specs.Edits.{Replacement, EditOf, replacement_of}
use Rattle.spec_text.specs.Ranges.{RangeOf, range_of}
use Rattle.spec_state.specs.State.{State}
use Rattle.spec_state.specs.Keeping.{IsWhole}
use Rattle.spec_state.specs.Changes.{edited_state, CanEdit}
use Rattle.spec_wire.specs.Commands.{CommandOf, edit, undo, redo, lock_scenes, lock_pages, next_round, speakers, paper}
use Rattle.spec_machine.specs.Machine.{EntryOf, Memory, opened_memory, last_entry, without_last, entry_of, undone_to, redone_to, memory_after, CanDo, memory_behind}
use Rattle.spec_machine.specs.Sessions.{AcceptsAll}
use Rattle.spec_machine.specs.KeptMemories.{IsEntry, IsWholeMemory}
use Rattle.spec_machine.proofs.MachineLaws.{taken-edit}
use Rattle.spec_machine.proofs.RefusalLaws.{accepted-can}
use Rattle.spec_machine.proofs.WholeStates.{edit-whole}
use Rattle.spec_edit.proofs.WindowExists.{window-exists}
use Rattle.spec_locked_pages.specs.Segments.{IsLockedPage}
use Rattle.spec_locked_pages.specs.LockedPages.{LeavesAlone, StaysLocked, KeepsLockedPage}
use Rattle.spec_locked_pages.specs.Chains.{IsEditOf, LeadTo, LeadFrom, AreLinked, eldest, first_state, AllLeaveAlone, KeepsAlong}
use Rattle.spec_locked_pages.proofs.LockedPage.{window-locked}

-- ---- one edit

pub edit-locked : (state : State) (it : Replacement) (i : ℕ) → IsWhole state → CanEdit state it → KeepsLockedPage (range_of it) state (edited_state state it) i
edit-locked state it i whole can =
    let window = window-exists (line_texts state.lines) (line_texts (edited_state state it).lines) it.first it.old (length it.texts) in
    record { keeps = λ locked alone. window-locked state it whole can window.0 window.1 window.2 i locked alone }

made-whole : (range : RangeOf) (old new : State) → IsWhole old → IsEditOf range old new → IsWhole new
made-whole range old new whole made = subst IsWhole (sym made.made) (edit-whole old made.edit whole made.can)

made-locked : (range : RangeOf) (old new : State) (i : ℕ) → IsWhole old → IsEditOf range old new → IsLockedPage old i → LeavesAlone range old new i → StaysLocked old new i
made-locked range old new i whole made locked alone =
    subst (λ (s : State). StaysLocked old s i) (sym made.made)
    ((edit-locked old made.edit i whole made.can).keeps locked (subst (λ (s : State). LeavesAlone (range_of made.edit) old s i) made.made (subst (λ (r : RangeOf). LeavesAlone r old new i) (sym made.is) alone)))

pub stays-same : (state : State) (i : ℕ) → IsLockedPage state i → StaysLocked state state i
stays-same state i locked = record { sheets = refl; label = refl; locked = locked }

stays-then : (one two three : State) (i : ℕ) → StaysLocked one two i → StaysLocked two three i → StaysLocked one three i
stays-then one two three i first second = record { sheets = second.sheets ∙ first.sheets; label = second.label ∙ first.label; locked = second.locked }

along : (i : ℕ) (entries : List EntryOf) (now : State) → IsWhole (first_state entries now) → LeadTo entries now → IsLockedPage (first_state entries now) i → AllLeaveAlone i entries now
    → StaysLocked (first_state entries now) now i
along i [] now whole lead locked alone = stays-same now i locked
along i (entry ∷ []) now whole lead locked alone = made-locked entry.range entry.state now i whole lead locked alone.0
along i (entry ∷ next ∷ later) now whole lead locked alone =
    let here = made-locked entry.range entry.state next.state i whole lead.0 locked alone.0 in
    stays-then entry.state next.state now i here
    (along i (next ∷ later) now (made-whole entry.range entry.state next.state whole lead.0) lead.1 here.locked alone.1)

-- Where each entry leads to the next, a locked page of the first that all steps leave alone stays as it was.
pub chain-keeps : (i : ℕ) (entries : List EntryOf) (now : State) → IsWhole (first_state entries now) → LeadTo entries now → KeepsAlong i entries now
chain-keeps i entries now whole lead = record { keeps = λ locked alone. along i entries now whole lead locked alone }

-- ---- what memories keep

lead-tail : (entry : EntryOf) (entries : List EntryOf) (now : State) → LeadTo (entry ∷ entries) now → LeadTo entries now
lead-tail entry [] now lead = tt
lead-tail entry (next ∷ later) now lead = lead.1

pub lead-drop : (k : ℕ) (entries : List EntryOf) (now : State) → LeadTo entries now → LeadTo (drop k entries) now
lead-drop zero entries now lead = lead
lead-drop (suc k) [] now lead = lead
lead-drop (suc k) (entry ∷ entries) now lead = lead-drop k entries now (lead-tail entry entries now lead)

-- One more entry at the end.
lead-more : (entries : List EntryOf) (entry : EntryOf) (now : State) → LeadTo entries entry.state → IsEditOf entry.range entry.state now → LeadTo (entries ++ entry ∷ []) now
lead-more [] entry now lead made = made
lead-more (one ∷ []) entry now lead made = (lead, made)
lead-more (one ∷ next ∷ later) entry now lead made = (lead.0, lead-more (next ∷ later) entry now lead.1 made)

-- Entries that lead to the first state of others.
pub first-join : (earlier later : List EntryOf) (now : State) → first_state (earlier ++ later) now ≡ first_state earlier (first_state later now)
first-join [] later now = refl
first-join (entry ∷ earlier) later now = refl

pub lead-join : (earlier later : List EntryOf) (now : State) → LeadTo earlier (first_state later now) → LeadTo later now → LeadTo (earlier ++ later) now
lead-join [] later now lead more = more
lead-join (entry ∷ []) [] now lead more = lead
lead-join (entry ∷ []) (next ∷ later) now lead more = (lead, more)
lead-join (entry ∷ next ∷ earlier) later now lead more = (lead.0, lead-join (next ∷ earlier) later now lead.1 more)

-- And one less.
lead-less : (entries : List EntryOf) (entry : EntryOf) (now : State) → LeadTo (entries ++ entry ∷ []) now → LeadTo entries entry.state × IsEditOf entry.range entry.state now
lead-less [] entry now lead = (tt, lead)
lead-less (one ∷ []) entry now lead = (lead.0, lead.1)
lead-less (one ∷ next ∷ later) entry now lead = (let rest = lead-less (next ∷ later) entry now lead.1 in ((lead.0, rest.0), rest.1))

from-more : (now : State) (entries : List EntryOf) (entry : EntryOf) → LeadFrom entry.state entries → IsEditOf entry.range now entry.state → LeadFrom now (entries ++ entry ∷ [])
from-more now [] entry lead made = made
from-more now (one ∷ []) entry lead made = (lead, made)
from-more now (one ∷ next ∷ later) entry lead made = (lead.0, from-more now (next ∷ later) entry lead.1 made)

from-less : (now : State) (entries : List EntryOf) (entry : EntryOf) → LeadFrom now (entries ++ entry ∷ []) → LeadFrom entry.state entries × IsEditOf entry.range now entry.state
from-less now [] entry lead = (tt, lead)
from-less now (one ∷ []) entry lead = (lead.0, lead.1)
from-less now (one ∷ next ∷ later) entry lead = (let rest = from-less now (next ∷ later) entry lead.1 in ((lead.0, rest.0), rest.1))

-- A list with a last entry.
pub record HasLast (entries : List EntryOf) : Type 0 where
  pub last : EntryOf
  pub is : last_entry entries ≡ Some last
  pub split : entries ≡ without_last entries ++ last ∷ []

last-split : (entries : List EntryOf) (entry : EntryOf) → HasLast (entry ∷ entries)
last-split [] entry = record { last = entry; is = refl; split = refl }
last-split (next ∷ later) entry =
    let rest = last-split later next in
    let size : suc (suc (length later)) - 1 ≡ suc (suc (length later) - 1) = omega arith in
    record {
      last = rest.last;
      is = ap (slice_get (entry ∷ next ∷ later)) size ∙ rest.is;
      split = ap (λ (those : List EntryOf). entry ∷ those) rest.split ∙ sym (ap (λ n. take n (entry ∷ next ∷ later) ++ rest.last ∷ []) size);
    }

pub has-last : (entries : List EntryOf) → 0 < length entries → HasLast entries
has-last [] some = absurd (omega (arith, some))
has-last (entry ∷ entries) some = last-split entries entry

-- A memory without entries.
pub opened-linked : (state : State) → AreLinked (opened_memory state)
opened-linked state = record { done = tt; undone = tt }

edit-linked : (memory : Memory) (it : Replacement) → CanEdit memory.state it → AreLinked memory
    → AreLinked (record { state = edited_state memory.state it; done = memory.done ++ entry_of memory.state (range_of it) ∷ []; undone = [] })
edit-linked memory it can linked = record {
  done = lead-more memory.done (entry_of memory.state (range_of it)) (edited_state memory.state it) linked.done (record { edit = it; is = refl; can = can; made = refl });
  undone = tt;
}

undo-linked : (memory : Memory) → 0 < length memory.done → AreLinked memory → AreLinked (undone_to memory (last_entry memory.done))
undo-linked memory some linked =
    let last = has-last memory.done some in
    let entry = last.last in
    let both = lead-less (without_last memory.done) entry memory.state (subst (λ (l : List EntryOf). LeadTo l memory.state) last.split linked.done) in
    subst (λ (o : Option EntryOf). AreLinked (undone_to memory o)) (sym last.is)
    (record { done = both.0; undone = from-more entry.state memory.undone (entry_of memory.state entry.range) linked.undone both.1 })

redo-linked : (memory : Memory) → 0 < length memory.undone → AreLinked memory → AreLinked (redone_to memory (last_entry memory.undone))
redo-linked memory some linked =
    let last = has-last memory.undone some in
    let entry = last.last in
    let both = from-less memory.state (without_last memory.undone) entry (subst (λ (l : List EntryOf). LeadFrom memory.state l) last.split linked.undone) in
    subst (λ (o : Option EntryOf). AreLinked (redone_to memory o)) (sym last.is)
    (record { done = lead-more memory.done (entry_of memory.state entry.range) entry.state linked.done both.1; undone = both.0 })

-- Every accepted command keeps entries linked.
pub step-linked : (memory : Memory) (command : CommandOf) → AreLinked memory → CanDo memory command → AreLinked (memory_after memory command)
step-linked memory (edit it) linked can = edit-linked memory (replacement_of memory.state.lines it) (taken-edit memory.state it can) linked
step-linked memory undo linked can = undo-linked memory can linked
step-linked memory redo linked can = redo-linked memory can linked
step-linked memory lock_scenes linked can = opened-linked _
step-linked memory lock_pages linked can = opened-linked _
step-linked memory next_round linked can = opened-linked _
step-linked memory (speakers on) linked can = opened-linked _
step-linked memory (paper size) linked can = opened-linked _
step-linked memory _ linked can = linked

pub steps-linked : (memory : Memory) (commands : List CommandOf) → AreLinked memory → AcceptsAll memory commands → AreLinked (memory_behind memory commands)
steps-linked memory [] linked all = linked
steps-linked memory (command ∷ commands) linked all = steps-linked (memory_after memory command) commands (step-linked memory command linked (accepted-can memory command all.0)) all.1

-- The first of some entries is whole.
first-whole : (memory : Memory) (k : ℕ) (entries : List EntryOf) → IsWhole memory.state → All (IsEntry memory.state) entries → IsWhole (first_state (drop k entries) memory.state)
first-whole memory zero [] whole all = whole
first-whole memory zero (entry ∷ entries) whole all = (All-head (IsEntry memory.state) entry entries all).whole
first-whole memory (suc k) [] whole all = whole
first-whole memory (suc k) (entry ∷ entries) whole all = first-whole memory k entries whole (All-tail (IsEntry memory.state) entry entries all)

-- From each entry on, locked pages stay.
pub memory-keeps : (memory : Memory) (i k : ℕ) → IsWholeMemory memory → AreLinked memory → KeepsAlong i (drop k memory.done) memory.state
memory-keeps memory i k whole linked =
    chain-keeps i (drop k memory.done) memory.state (first-whole memory k memory.done whole.state whole.done) (lead-drop k memory.done memory.state linked.done)

-- From each state on that leads to the first of these.
pub earlier-keep : (memory : Memory) (i : ℕ) (entries : List EntryOf) → AreLinked memory → LeadTo entries (eldest memory) → IsWhole (first_state entries (eldest memory))
    → KeepsAlong i (entries ++ memory.done) memory.state
earlier-keep memory i entries linked lead whole =
    chain-keeps i (entries ++ memory.done) memory.state (subst IsWhole (sym (first-join entries memory.done memory.state)) whole)
    (lead-join entries memory.done memory.state lead linked.done)

-- What an accepted edit does to locked pages.
pub step-locked : (memory : Memory) (it : EditOf) (i : ℕ) → IsWholeMemory memory → CanDo memory (edit it)
    → KeepsLockedPage (range_of (replacement_of memory.state.lines it)) memory.state (memory_after memory (edit it)).state i
step-locked memory it i whole can = edit-locked memory.state (replacement_of memory.state.lines it) i whole.state (taken-edit memory.state it can)
