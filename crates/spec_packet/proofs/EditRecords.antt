-- What edits do to the records of a state: each keeps its rows and its round, or gets the round.
use Rattle.std.proofs.Common.{◌≡◌, inl, inr, ℕ, ◌+◌, Bool, true, false, cond, Option, Some, None, List, [], ◌∷◌, length, map, refl, sym, subst, ◌∙◌, arith, unwrap_or}
use Rattle.std.specs.Prelude.{option_map, is_some}
use Rattle.std.proofs.lemmas.List.{length-map}
use Rattle.spec_text.specs.Lines.{LineState}
use Rattle.spec_text.specs.Edits.{Replacement}
use Rattle.spec_text.specs.Ranges.{RangeOf}
use Rattle.spec_labels.specs.PageRecords.{PageRecordOf, is_removed, line_from, carried, carried_records, record_starts}
use Rattle.spec_sheets.specs.Shown.{Shown}
use Rattle.spec_state.specs.State.{State}
use Rattle.spec_state.specs.Changes.{text_after, carried_state, segment_rows, rows_by_record, raised, raised_records, pages_raised, edited_state}
use Rattle.spec_state.specs.SameRows.{bare_of, same_rows}
use Rattle.spec_state.specs.StateSheets.{rows_in, keys_in}
use Rattle.spec_machine.specs.Machine.{EntryOf}
use Rattle.spec_locked_pages.specs.Chains.{IsEditOf, LeadTo, first_state}
use Rattle.spec_locked_pages.proofs.SameRows.{starts-raised}
use Rattle.spec_locked_pages.proofs.StateStarts.{length-starts}
use Rattle.spec_packet.proofs.RecordChain.{EditsRecord}
use Rattle.spec_packet.proofs.PairLaws.{EditsRecords, Pairs, begin-pairs, step-pairs}
use Rattle.spec_packet.proofs.SameRowLaws.{rows-told}
use Rattle.spec_packet.proofs.StateRecords.{with_rows, text_records}

-- A record that is carried keeps its label and its round.
carried-label : (lines : List LineState) (place : ℕ) (it : PageRecordOf) → it.label ≡ (carried lines place it).label
carried-label lines place it = by (is_removed lines it)
  where
    by : (b : Bool) → it.label ≡ (cond b (record { label = it.label; line = line_from lines place; row = 0; changed = it.changed }) it).label
    by true = refl
    by false = refl

carried-changed : (lines : List LineState) (place : ℕ) (it : PageRecordOf) → it.changed ≡ (carried lines place it).changed
carried-changed lines place it = by (is_removed lines it)
  where
    by : (b : Bool) → it.changed ≡ (cond b (record { label = it.label; line = line_from lines place; row = 0; changed = it.changed }) it).changed
    by true = refl
    by false = refl

raised-record : (round : ℕ) (old new : List Shown) (it moved : PageRecordOf) → it.label ≡ moved.label → it.changed ≡ moved.changed
    → EditsRecord round (record { owner = it; rows = map bare_of old }) (record { owner = raised round (same_rows old new) moved; rows = map bare_of new })
raised-record round old new it moved label changed = by (same_rows old new) refl
  where
    by : (b : Bool) → same_rows old new ≡ b → EditsRecord round (record { owner = it; rows = map bare_of old }) (record { owner = raised round b moved; rows = map bare_of new })
    by true same = record { label = label; change = inl (rows-told old new same, changed) }
    by false other = record { label = label; change = inr refl }

edits-each : (round : ℕ) (lines : List LineState) (place : ℕ) (old new : List Shown) (records : List PageRecordOf) (starts news : List ℕ) → length starts ≡ length records → length news ≡ length records
    → EditsRecords round (with_rows old records starts) (with_rows new (raised_records round (segment_rows old starts) (segment_rows new news) (carried_records lines place records)) news)
edits-each round lines place old new [] [] [] one other = tt
edits-each round lines place old new [] [] (n ∷ news) one other = absurd (omega (arith, other))
edits-each round lines place old new [] (s ∷ starts) news one other = absurd (omega (arith, one))
edits-each round lines place old new (it ∷ records) [] news one other = absurd (omega (arith, one))
edits-each round lines place old new (it ∷ records) (s ∷ starts) [] one other = absurd (omega (arith, other))
edits-each round lines place old new (it ∷ records) (s ∷ starts) (n ∷ news) one other = (
  raised-record round _ _ it (carried lines place it) (carried-label lines place it) (carried-changed lines place it),
  edits-each round lines place old new records starts news (omega (arith, one)) (omega (arith, other)),
)

-- An edit of a state.
abbrev after_by : State → Replacement → Option (List PageRecordOf) → List PageRecordOf
after_by state it pages = unwrap_or (pages_raised state (carried_state state it) pages (option_map (carried_records (text_after state it).lines (it.first + length it.texts)) pages)) []

edits-by : (state : State) (it : Replacement) (pages : Option (List PageRecordOf)) → is_some pages ≡ true
    → EditsRecords state.round (with_rows (rows_in state) (unwrap_or pages []) (record_starts state.lines (keys_in state) (unwrap_or pages [])))
    (with_rows (rows_in (carried_state state it)) (after_by state it pages) (record_starts (text_after state it).lines (keys_in (carried_state state it)) (after_by state it pages)))
edits-by state it None some = absurd (let no_way : ⊥ = cc in no_way)
edits-by state it (Some records) some =
    let new = carried_state state it in
    let lines = (text_after state it).lines in
    let place = it.first + length it.texts in
    let moved = carried_records lines place records in
    let olds = rows_by_record state records in
    let news = rows_by_record new moved in
    let same = starts-raised lines (keys_in new) state.round olds news moved in
    let size = length-map records (carried lines place) in
    let one = length-starts state records in
    let other = length-starts new moved in
    subst (λ (starts : List ℕ). EditsRecords state.round (with_rows (rows_in state) records (record_starts state.lines (keys_in state) records)) (with_rows (rows_in new) (raised_records state.round olds news moved) starts))
    (sym same)
    (edits-each state.round lines place (rows_in state) (rows_in new) records (record_starts state.lines (keys_in state) records) (record_starts lines (keys_in new) moved) one (omega (arith, other, size)))

pub edit-records : (state : State) (it : Replacement) → is_some state.pages ≡ true → EditsRecords state.round (text_records state) (text_records (edited_state state it))
edit-records state it some = edits-by state it state.pages some

-- ---- along entries

-- From an opened state on to another: the round, the scene records, and the page records that aren't fresh.
pub record Chained (opened now : State) : Type 0 where
  pub round : opened.round ≡ now.round
  pub scenes : opened.scenes ≡ now.scenes
  pub locked : is_some now.pages ≡ true
  pub pairs : Pairs now.round (text_records opened) (text_records now)

pub chained-itself : (state : State) → is_some state.pages ≡ true → Chained state state
chained-itself state locked = record { round = refl; scenes = refl; locked = locked; pairs = begin-pairs state.round (text_records state) }

edited-locked : (state : State) (it : Replacement) (pages : Option (List PageRecordOf)) → is_some pages ≡ true
    → is_some (pages_raised state (carried_state state it) pages (option_map (carried_records (text_after state it).lines (it.first + length it.texts)) pages)) ≡ true
edited-locked state it None some = some
edited-locked state it (Some records) some = refl

chained-edit : (opened old : State) (it : Replacement) → Chained opened old → Chained opened (edited_state old it)
chained-edit opened old it chain =
    let p = chain.pairs in
    let next = step-pairs old.round p.records (text_records old) (text_records (edited_state old it)) p.are p.stays (edit-records old it chain.locked) in
    record {
      round = chain.round;
      scenes = chain.scenes;
      locked = edited-locked old it old.pages chain.locked;
      pairs = record { records = next.records; were = next.were ∙ p.were; are = next.are; stays = next.stays };
    }

chained-step : (opened old new : State) (range : RangeOf) → Chained opened old → IsEditOf range old new → Chained opened new
chained-step opened old new range chain made = subst (Chained opened) (sym made.made) (chained-edit opened old made.edit chain)

chained-along : (opened : State) (entries : List EntryOf) (now : State) → Chained opened (first_state entries now) → LeadTo entries now → Chained opened now
chained-along opened [] now chain lead = chain
chained-along opened (entry ∷ []) now chain lead = chained-step opened entry.state now entry.range chain lead
chained-along opened (entry ∷ next ∷ later) now chain lead = chained-along opened (next ∷ later) now (chained-step opened entry.state next.state entry.range chain lead.0) lead.1

-- From the first state of entries on.
pub entries-chained : (entries : List EntryOf) (now : State) → is_some (first_state entries now).pages ≡ true → LeadTo entries now → Chained (first_state entries now) now
entries-chained entries now locked lead = chained-along (first_state entries now) entries now (chained-itself (first_state entries now) locked) lead
