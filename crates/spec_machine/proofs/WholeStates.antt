-- Edits, locks, rounds and settings make whole states of whole states.
use Rattle.std.proofs.Common.{◌≡◌, ℕ, suc, ◌+◌, ◌≤◌, Bool, Option, Some, None, List, [], ◌∷◌, ◌++◌, map, length, refl, sym, ap, subst, ◌∙◌, arith}
use Rattle.std.specs.Prelude.{IfSome, option_map}
use Rattle.std.proofs.lemmas.List.{length-map}
use Rattle.spec_text.specs.Edits.{Replacement}
use Rattle.spec_text.specs.Ranges.{range_of}
use Rattle.spec_text.proofs.EditedLaws.{text-HasIds, changed-IsEdited}
use Rattle.spec_pages.specs.declared.Paper.{Paper}
use Rattle.spec_pages.specs.Pages.{text_heights, rows_on}
use Rattle.spec_pages.proofs.StartLists.{ArePagesOf, starts-are}
use Rattle.spec_labels.specs.PageRecords.{PageRecordOf, carried_records, record_start, record_starts, record_of_sheet, segments, extended_page_records}
use Rattle.spec_labels.specs.Anchors.{ArePresent}
use Rattle.spec_labels.specs.OwnRecords.{all_records}
use Rattle.spec_labels.proofs.CarryLaws.{Edited}
use Rattle.spec_sheets.specs.Shown.{shape_of}
use Rattle.spec_state.specs.State.{State, text_of}
use Rattle.spec_state.specs.StateSheets.{numbered_sheets, layout_in, rows_in, keys_in, locked_starts, pages_in, sheets_in}
use Rattle.spec_state.specs.Openings.{pages_extended, scenes_locked, pages_locked, round_begun}
use Rattle.spec_state.specs.SoundStates.{AreLocked}
use Rattle.spec_state.specs.Changes.{text_after, carried_state, rows_by_record, pages_raised, edited_state, CanEdit}
use Rattle.spec_state.specs.Keeping.{IsWhole}
use Rattle.spec_state.specs.KeptStates.{IsKept, ArePagesKept, IsKeptWhole}
use Rattle.spec_state.proofs.EditKeeps.{edit-keeps}
use Rattle.spec_state.proofs.RowMarks.{rows-marks, keys-low}
use Rattle.spec_state.proofs.RulesLaws.{whole-parts, parts-whole}
use Rattle.spec_state.proofs.StateKeys.{state-keys, state-keys_inside}
use Rattle.spec_state.proofs.StateLaws.{count-keys}
use Rattle.spec_state.proofs.NewSheets.{extended-all}
use Rattle.spec_state.proofs.OpeningLaw.{numbered-Locking}
use Rattle.spec_state.proofs.RoundLaw.{locked-all}
use Rattle.spec_machine.specs.Machine.{CanLockScenes, CanLockPages, CanBegin, FewPages}
use Rattle.spec_machine.proofs.LockKeeps.{lock_scenes-keeps, lock_pages-keeps, round-keeps, settings-keep}
use Rattle.spec_machine.proofs.PageKeeps.{LowKeys, edited-pages, numbered-pages, round-pages}

-- ---- the rows of a state

state-present : (state : State) → IsKept state → ArePresent state.lines (keys_in state)
state-present state kept = record { all = state-keys_inside state kept.text }

state-low : (state : State) → IsKept state → LowKeys (keys_in state)
state-low state kept = record { all = keys-low state kept }

-- Its pages are rows, by how many keys there are.
pages-of : (state : State) (records : Option (List PageRecordOf)) → ArePagesOf (length (rows_in state)) (pages_in (rows_on state.paper) state.lines (rows_in state) (layout_in state).breaks records)
pages-of state records =
    let rows = rows_in state in
    subst (λ n. ArePagesOf n (pages_in (rows_on state.paper) state.lines rows (layout_in state).breaks records)) (length-map rows shape_of)
    (starts-are (rows_on state.paper) (text_heights (map shape_of rows)) (length (map shape_of rows)) ((layout_in state).breaks ++ locked_starts state.lines rows records))

pages-of_keys : (state : State) (records : Option (List PageRecordOf)) → ArePagesOf (length (keys_in state)) (pages_in (rows_on state.paper) state.lines (rows_in state) (layout_in state).breaks records)
pages-of_keys state records = subst (λ n. ArePagesOf n (pages_in (rows_on state.paper) state.lines (rows_in state) (layout_in state).breaks records)) (sym (count-keys state)) (pages-of state records)

-- ---- an edit

edit-parts : (state : State) (it : Replacement) → IsKeptWhole state → CanEdit state it → IsKeptWhole (edited_state state it)
edit-parts state it whole can =
    let e : Edited (range_of it) state.next (text_after state it).next state.lines (text_after state it).lines = record {
      edit = changed-IsEdited (text_of state) it state.round can.inside;
      old_ids = text-HasIds (text_of state) (whole.kept).text;
      new_ids = text-HasIds (text_after state it) can.text;
    } in
    record { kept = edit-keeps state it whole.kept can; pages = by e state.pages whole.pages }
  where
    by : Edited (range_of it) state.next (text_after state it).next state.lines (text_after state it).lines → (pages : Option (List PageRecordOf))
        → IfSome pages (ArePagesKept state.round state.lines)
        → IfSome (pages_raised state (carried_state state it) pages (option_map (carried_records (text_after state it).lines (it.first + length it.texts)) pages)) (ArePagesKept state.round (text_after state it).lines)
    by e None are = tt
    by e (Some records) are =
        edited-pages state.round (range_of it) state.next (text_after state it).next state.lines (text_after state it).lines
        (rows_by_record state records) (rows_by_record (carried_state state it) (carried_records (text_after state it).lines (it.first + length it.texts) records)) records e are

-- ---- the lock of pages

numbered-whole : (state : State) → IsKept state → length (extended_page_records [] (sheets_in (rows_on state.paper) state.lines (rows_in state) (layout_in state).breaks None) (keys_in state)) ≤ 100000
    → ArePagesKept state.round state.lines (extended_page_records [] (sheets_in (rows_on state.paper) state.lines (rows_in state) (layout_in state).breaks None) (keys_in state))
numbered-whole state kept few =
    let rows = rows_in state in
    let keys = keys_in state in
    let pages = pages_in (rows_on state.paper) state.lines rows (layout_in state).breaks None in
    let sheets = numbered_sheets rows 1 pages in
    let made = locked-all pages (length rows) keys sheets (numbered-Locking rows 1 pages (pages-of state None)) in
    let count : length (map (record_of_sheet keys) sheets) ≡ length pages = length-map sheets (record_of_sheet keys) ∙ length-numbered 1 pages in
    let less = subst (λ (rs : List PageRecordOf). length rs ≤ 100000) made few in
    subst (ArePagesKept state.round state.lines) (sym made)
    (numbered-pages state.round state.next state.lines keys rows pages (text-HasIds (text_of state) kept.text) (state-keys state kept.text) (state-present state kept) (state-low state kept) (rows-marks state kept)
    (pages-of_keys state None) (omega (arith, less, count)))
  where
    length-numbered : (number : ℕ) (ps : List ℕ) → length (numbered_sheets (rows_in state) number ps) ≡ length ps
    length-numbered number [] = refl
    length-numbered number (p ∷ ps) = ap suc (length-numbered (number + 1) ps)

lock_pages-parts : (state : State) → IsKeptWhole state → CanLockPages state → IsKeptWhole (pages_locked state)
lock_pages-parts state whole can = record {
  kept = lock_pages-keeps state whole.kept can;
  pages = by state.pages can.unlocked can.few_pages;
}
  where
    by : (pages : Option (List PageRecordOf)) → pages ≡ None → length (extended_page_records [] (sheets_in (rows_on state.paper) state.lines (rows_in state) (layout_in state).breaks pages) (keys_in state)) ≤ 100000
        → ArePagesKept state.round state.lines (extended_page_records [] (sheets_in (rows_on state.paper) state.lines (rows_in state) (layout_in state).breaks pages) (keys_in state))
    by None is few = numbered-whole state whole.kept few
    by (Some records) is few = absurd (let bad : ⊥ = cc in bad)

-- ---- the next round

records-whole : (state : State) → IsKept state → (records : List PageRecordOf) → AreLocked records → ArePagesKept state.round state.lines records
    → length (extended_page_records records (sheets_in (rows_on state.paper) state.lines (rows_in state) (layout_in state).breaks (Some records)) (keys_in state)) ≤ 100000
    → ArePagesKept (state.round + 1) state.lines (extended_page_records records (sheets_in (rows_on state.paper) state.lines (rows_in state) (layout_in state).breaks (Some records)) (keys_in state))
records-whole state kept records locked are few =
    let rows = rows_in state in
    let keys = keys_in state in
    let pages = pages_in (rows_on state.paper) state.lines rows (layout_in state).breaks (Some records) in
    let starts = record_starts state.lines keys records in
    let made = extended-all pages (length rows) keys records starts (length-starts records) locked.labels locked.rising in
    let at : all_records keys pages (segments (length rows) records starts) ≡ all_records keys pages (segments (length keys) records starts) = ap (λ n. all_records keys pages (segments n records starts)) (sym (count-keys state)) in
    subst (ArePagesKept (state.round + 1) state.lines) (sym (made ∙ at))
    (round-pages state.round state.next state.lines keys pages records (text-HasIds (text_of state) kept.text) (state-keys state kept.text) (state-present state kept) (state-low state kept)
    (pages-of_keys state (Some records)) are locked.labels locked.rising
    (subst (λ (rs : List PageRecordOf). length rs ≤ 100000) (made ∙ at) few))
  where
    length-starts : (rs : List PageRecordOf) → length (record_starts state.lines (keys_in state) rs) ≡ length rs
    length-starts [] = refl
    length-starts (r ∷ rs) = ap suc (length-map rs (record_start state.lines (keys_in state)))

round-parts : (state : State) → IsKeptWhole state → CanBegin state → IsKeptWhole (round_begun state)
round-parts state whole can = record {
  kept = round-keeps state whole.kept can;
  pages = by state.pages refl (whole.kept).pages whole.pages can.few_pages;
}
  where
    by : (pages : Option (List PageRecordOf)) → state.pages ≡ pages → IfSome pages AreLocked → IfSome pages (ArePagesKept state.round state.lines) → FewPages (pages_extended state pages)
        → IfSome (pages_extended state pages) (ArePagesKept (state.round + 1) state.lines)
    by None is locked are few = tt
    by (Some records) is locked are few =
        subst (λ pages. ArePagesKept (state.round + 1) state.lines (extended_page_records records (sheets_in (rows_on state.paper) state.lines (rows_in state) (layout_in state).breaks pages) (keys_in state))) (sym is)
        (records-whole state whole.kept records locked are
        (subst (λ pages. length (extended_page_records records (sheets_in (rows_on state.paper) state.lines (rows_in state) (layout_in state).breaks pages) (keys_in state)) ≤ 100000) is few))

-- ---- whole states

pub edit-whole : (state : State) (it : Replacement) → IsWhole state → CanEdit state it → IsWhole (edited_state state it)
edit-whole state it whole can = parts-whole (edited_state state it) (edit-parts state it (whole-parts state whole) can)

pub lock_scenes-whole : (state : State) → IsWhole state → CanLockScenes state → IsWhole (scenes_locked state)
lock_scenes-whole state whole can =
    let parts = whole-parts state whole in
    parts-whole (scenes_locked state) (record { kept = lock_scenes-keeps state parts.kept can; pages = parts.pages })

pub lock_pages-whole : (state : State) → IsWhole state → CanLockPages state → IsWhole (pages_locked state)
lock_pages-whole state whole can = parts-whole (pages_locked state) (lock_pages-parts state (whole-parts state whole) can)

pub round-whole : (state : State) → IsWhole state → CanBegin state → IsWhole (round_begun state)
round-whole state whole can = parts-whole (round_begun state) (round-parts state (whole-parts state whole) can)

pub speakers-whole : (state : State) (on : Bool) → IsWhole state → IsWhole (record state { speakers = on })
speakers-whole state on whole =
    let parts = whole-parts state whole in
    let new : State = record state { speakers = on } in
    parts-whole new (record { kept = settings-keep state new parts.kept refl refl refl refl refl; pages = parts.pages })

pub paper-whole : (state : State) (size : Paper) → IsWhole state → IsWhole (record state { paper = size })
paper-whole state size whole =
    let parts = whole-parts state whole in
    let new : State = record state { paper = size } in
    parts-whole new (record { kept = settings-keep state new parts.kept refl refl refl refl refl; pages = parts.pages })
