-- Rows are the same as themselves, and a record whose rows an edit leaves keeps its round.
use Rattle.std.proofs.Common.{◌≡◌, ℕ, zero, suc, ◌+◌, ◌<◌, Bool, true, false, List, [], ◌∷◌, length, map, get_or, refl, ap, ap₂, ◌∙◌, arith}
use Rattle.std.specs.Prelude.{slice_range}
use Rattle.spec_labels.specs.declared.RowKey.{RowKey}
use Rattle.spec_labels.specs.PageRecords.{PageRecordOf, record_start, record_starts}
use Rattle.spec_sheets.specs.Shown.{Shown}
use Rattle.spec_text.specs.Lines.{LineState}
use Rattle.spec_state.specs.State.{State}
use Rattle.spec_state.specs.StateSheets.{rows_in, keys_in}
use Rattle.spec_state.specs.SameRows.{bare_of, same_rows}
use Rattle.spec_state.specs.Changes.{segment_rows, rows_by_record, raised, raised_records}
use Rattle.spec_state.proofs.SameLaws.{list-itself}
use Rattle.spec_locked_pages.specs.Segments.{no_record}

pub rows-itself : (one other : List Shown) → other ≡ one → same_rows one other ≡ true
rows-itself one other same = ap (same_rows one) same ∙ list-itself (map bare_of one)

-- ---- rounds

abbrev pub changed_of : PageRecordOf → ℕ
changed_of it = it.changed

pub raised-at : (round : ℕ) (olds news : List (List Shown)) (records : List PageRecordOf) (i : ℕ) → i < length olds → i < length news → i < length records
    → get_or (raised_records round olds news records) i no_record ≡ raised round (same_rows (get_or olds i []) (get_or news i [])) (get_or records i no_record)
raised-at round [] news records i a b c = absurd (omega (arith, a))
raised-at round (old ∷ olds) [] records i a b c = absurd (omega (arith, b))
raised-at round (old ∷ olds) (new ∷ news) [] i a b c = absurd (omega (arith, c))
raised-at round (old ∷ olds) (new ∷ news) (it ∷ records) zero a b c = refl
raised-at round (old ∷ olds) (new ∷ news) (it ∷ records) (suc i) a b c = raised-at round olds news records i (omega (arith, a)) (omega (arith, b)) (omega (arith, c))

-- Where segments begin doesn't turn on rounds.
start-raised : (lines : List LineState) (keys : List RowKey) (round : ℕ) (same : Bool) (it : PageRecordOf) → record_start lines keys (raised round same it) ≡ record_start lines keys it
start-raised lines keys round true it = refl
start-raised lines keys round false it = refl

later-raised : (lines : List LineState) (keys : List RowKey) (round : ℕ) (olds news : List (List Shown)) (records : List PageRecordOf)
    → map (record_start lines keys) (raised_records round olds news records) ≡ map (record_start lines keys) records
later-raised lines keys round [] news records = refl
later-raised lines keys round (old ∷ olds) [] records = refl
later-raised lines keys round (old ∷ olds) (new ∷ news) [] = refl
later-raised lines keys round (old ∷ olds) (new ∷ news) (it ∷ records) =
    ap₂ (λ n (ns : List ℕ). n ∷ ns) (start-raised lines keys round (same_rows old new) it) (later-raised lines keys round olds news records)

pub starts-raised : (lines : List LineState) (keys : List RowKey) (round : ℕ) (olds news : List (List Shown)) (records : List PageRecordOf)
    → record_starts lines keys (raised_records round olds news records) ≡ record_starts lines keys records
starts-raised lines keys round [] news records = refl
starts-raised lines keys round (old ∷ olds) [] records = refl
starts-raised lines keys round (old ∷ olds) (new ∷ news) [] = refl
starts-raised lines keys round (old ∷ olds) (new ∷ news) (it ∷ records) = ap (λ (ns : List ℕ). 0 ∷ ns) (later-raised lines keys round olds news records)

-- The rows of the segment at an index.
rows-of-start : (rows : List Shown) (starts : List ℕ) (i : ℕ) → i < length starts → get_or (segment_rows rows starts) i [] ≡ slice_range rows (get_or starts i (length rows)) (get_or starts (i + 1) (length rows))
rows-of-start rows [] i inside = absurd (omega (arith, inside))
rows-of-start rows (start ∷ []) zero inside = refl
rows-of-start rows (start ∷ next ∷ starts) zero inside = refl
rows-of-start rows (start ∷ starts) (suc i) inside =
    let e : suc (i + 1) ≡ suc i + 1 = omega arith in
    rows-of-start rows starts i (omega (arith, inside)) ∙ ap (λ n. slice_range rows (get_or starts i (length rows)) (get_or (start ∷ starts) n (length rows))) e

pub length-rows : (rows : List Shown) (starts : List ℕ) → length (segment_rows rows starts) ≡ length starts
length-rows rows [] = refl
length-rows rows (start ∷ starts) = ap suc (length-rows rows starts)

pub record-rows : (state : State) (records : List PageRecordOf) (i : ℕ) → i < length (record_starts state.lines (keys_in state) records)
    → get_or (rows_by_record state records) i []
    ≡ slice_range (rows_in state) (get_or (record_starts state.lines (keys_in state) records) i (length (rows_in state))) (get_or (record_starts state.lines (keys_in state) records) (i + 1) (length (rows_in state)))
record-rows state records i inside = rows-of-start (rows_in state) (record_starts state.lines (keys_in state) records) i inside
