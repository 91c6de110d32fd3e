-- Entries added behind others, and taken from there.
use Rattle.std.proofs.Common.{◌≡◌, ℕ, ◌-◌, List, [], ◌∷◌, ◌++◌, length, take, refl, sym, ap, ◌∙◌, subst, arith}
use Rattle.std.specs.Prelude.{slice_get, Some}
use Rattle.std.proofs.lemmas.List.{length-append}
use Rattle.std.proofs.lemmas.Option.{slice_get-get_or}
use Rattle.std.proofs.Math.Seq.{take-append_seam, get_or-append_seam}
use Rattle.spec_text.specs.Ranges.{RangeOf}
use Rattle.spec_state.specs.State.{State}
use Rattle.spec_machine.specs.Machine.{EntryOf, entry_of, last_entry, without_last}
use Rattle.sp_state.specs.Entries.{CanTurn, EntryState, turned_state}
use Rattle.sp_desk.specs.Memories.{turned_all, entries_by, CanTurnAll}

-- ---- the last of a list

last-length : (entries : List EntryOf) (entry : EntryOf) → length (entries ++ entry ∷ []) - 1 ≡ length entries
last-length entries entry = omega (arith, length-append entries (entry ∷ []))

pub last-more : (entries : List EntryOf) (entry : EntryOf) → last_entry (entries ++ entry ∷ []) ≡ Some entry
last-more entries entry =
    ap (λ (n : ℕ). slice_get (entries ++ entry ∷ []) n) (last-length entries entry)
    ∙ slice_get-get_or (entries ++ entry ∷ []) (length entries) entry (omega (arith, length-append entries (entry ∷ [])))
    ∙ ap Some (get_or-append_seam entries entry [] entry)

pub front-more : (entries : List EntryOf) (entry : EntryOf) → without_last (entries ++ entry ∷ []) ≡ entries
front-more entries entry =
    ap (λ (n : ℕ). take n (entries ++ entry ∷ [])) (last-length entries entry) ∙ take-append_seam entries (entry ∷ [])

-- ---- one entry more is turned first

turned-more : (state : State) (entries : List EntryState) (entry : EntryState) → turned_all state (entries ++ entry ∷ []) ≡ turned_all (turned_state state entry) entries
turned-more state [] entry = refl
turned-more state (it ∷ entries) entry = ap (λ (s : State). turned_state s it) (turned-more state entries entry)

pub entries-more : (range : EntryState → RangeOf) (state : State) (entries : List EntryState) (entry : EntryState)
    → entries_by range state (entries ++ entry ∷ []) ≡ entries_by range (turned_state state entry) entries ++ entry_of (turned_state state entry) (range entry) ∷ []
entries-more range state [] entry = refl
entries-more range state (it ∷ entries) entry =
    let here = ap (λ (s : State). entry_of (turned_state s it) (range it)) (turned-more state entries entry) in
    let rest = entries-more range state entries entry in
    cc

pub can-more : (state : State) (entries : List EntryState) (entry : EntryState) → CanTurn state entry → CanTurnAll (turned_state state entry) entries → CanTurnAll state (entries ++ entry ∷ [])
can-more state [] entry last all = (last, tt)
can-more state (it ∷ entries) entry last all =
    (subst (λ (s : State). CanTurn s it) (sym (turned-more state entries entry)) all.0, can-more state entries entry last all.1)

pub can-last : (state : State) (entries : List EntryState) (entry : EntryState) → CanTurnAll state (entries ++ entry ∷ []) → CanTurn state entry
can-last state [] entry all = all.0
can-last state (it ∷ entries) entry all = can-last state entries entry all.1

pub can-front : (state : State) (entries : List EntryState) (entry : EntryState) → CanTurnAll state (entries ++ entry ∷ []) → CanTurnAll (turned_state state entry) entries
can-front state [] entry all = tt
can-front state (it ∷ entries) entry all =
    (subst (λ (s : State). CanTurn s it) (turned-more state entries entry) all.0, can-front state entries entry all.1)

-- ---- one that leads to the same state takes the place of the last

pub entries-same : (range : EntryState → RangeOf) (state : State) (entries : List EntryState) (back entry : EntryState)
    → turned_state state back ≡ turned_state state entry → range back ≡ range entry → entries_by range state (entries ++ back ∷ []) ≡ entries_by range state (entries ++ entry ∷ [])
entries-same range state entries back entry there same =
    entries-more range state entries back
    ∙ ap (λ (s : State). entries_by range s entries ++ entry_of s (range back) ∷ []) there
    ∙ ap (λ (r : RangeOf). entries_by range (turned_state state entry) entries ++ entry_of (turned_state state entry) r ∷ []) same
    ∙ sym (entries-more range state entries entry)

pub can-same : (state : State) (entries : List EntryState) (back entry : EntryState)
    → CanTurn state back → turned_state state back ≡ turned_state state entry → CanTurnAll state (entries ++ entry ∷ []) → CanTurnAll state (entries ++ back ∷ [])
can-same state entries back entry here there all =
    can-more state entries back here (subst (λ (s : State). CanTurnAll s entries) (sym there) (can-front state entries entry all))
