-- The page records of a state with the rows of their segments.
use Rattle.std.proofs.Common.{◌≡◌, ℕ, ◌+◌, ◌-◌, ◌≤◌, Option, Some, None, List, [], ◌∷◌, ◌++◌, length, map, drop, refl, ap, ap₂, sym, subst, ◌∙◌, append-nil, length-append, length-drop, arith, unwrap_or}
use Rattle.std.specs.Prelude.{All, AllPairs, slice_range, slice_index_or}
use Rattle.std.proofs.lemmas.List.{map-append, length-map, length-take, take_rest}
use Rattle.std.proofs.lemmas.List.Folds.{drop_split}
use Rattle.std.proofs.lemmas.List.Elements.{All-head, All-tail}
use Rattle.spec_text.proofs.ListLaws.{pairs-head, pairs-tail}
use Rattle.spec_labels.specs.PageRecords.{PageRecordOf, SegmentOf, segments, record_start, record_starts}
use Rattle.spec_sheets.specs.Shown.{Shown}
use Rattle.spec_state.specs.State.{State}
use Rattle.spec_state.specs.Keeping.{IsWhole}
use Rattle.spec_state.specs.SameRows.{BareRow, bare_of}
use Rattle.spec_state.specs.StateSheets.{rows_in, keys_in}
use Rattle.spec_state.proofs.StateLaws.{state-AreStarts}
use Rattle.spec_locked_pages.specs.Segments.{records_in, segments_in}
use Rattle.spec_locked_pages.proofs.StateStarts.{SomeRecords}
use Rattle.spec_packet.specs.RecordRows.{RecordRows, all_rows, segments_from}

-- Records with the rows from their starts on.
abbrev pub with_rows : List Shown → List PageRecordOf → List ℕ → List RecordRows
with_rows rows [] starts = []
with_rows rows (it ∷ records) [] = []
with_rows rows (it ∷ records) (start ∷ starts) = record { owner = it; rows = map bare_of (slice_range rows start (slice_index_or starts 0 (length rows))) } ∷ with_rows rows records starts

-- Starts that never fall, from one on up to a number of rows.
abbrev FromTo : ℕ → List ℕ → ℕ → Type 0
FromTo start [] count = start ≤ count
FromTo start (next ∷ starts) count = (start ≤ next) × FromTo next starts count

from-to : (start : ℕ) (starts : List ℕ) (count : ℕ) → AllPairs (λ (one other : ℕ). one ≤ other) (start ∷ starts) → All (λ (one : ℕ). one ≤ count) (start ∷ starts) → FromTo start starts count
from-to start [] count order low = All-head (λ (one : ℕ). one ≤ count) start [] low
from-to start (next ∷ starts) count order low = (
  All-head (λ (other : ℕ). start ≤ other) next starts (pairs-head (λ (one other : ℕ). one ≤ other) start (next ∷ starts) order),
  from-to next starts count (pairs-tail (λ (one other : ℕ). one ≤ other) start (next ∷ starts) order) (All-tail (λ (one : ℕ). one ≤ count) start (next ∷ starts) low),
)

low-end : (start : ℕ) (starts : List ℕ) (count : ℕ) → FromTo start starts count → start ≤ count
low-end start [] count from = from
low-end start (next ∷ starts) count from = let later = low-end next starts count from.1 in let here = from.0 in omega (arith, later, here)

length-bare : (rows : List Shown) (start end : ℕ) → start ≤ end → end ≤ length rows → start + length (map bare_of (slice_range rows start end)) ≡ end
length-bare rows start end order within =
    let mapped = length-map (slice_range rows start end) bare_of in
    let taken = length-take (end - start) (drop start rows) in
    let dropped = length-drop start rows in
    omega (arith, mapped, taken, dropped, order, within)

-- Their segments are those of the records.
rows-segments : (rows : List Shown) (before : List BareRow) (it : PageRecordOf) (records : List PageRecordOf) (start : ℕ) (starts : List ℕ) → length starts ≡ length records → length before ≡ start
    → FromTo start starts (length rows) → segments_from before (with_rows rows (it ∷ records) (start ∷ starts)) ≡ segments (length rows) (it ∷ records) (start ∷ starts)
rows-segments rows before it [] start [] same at from =
    let long : length before + length (map bare_of (slice_range rows start (length rows))) ≡ length rows =
    ap (λ n. n + length (map bare_of (slice_range rows start (length rows)))) at ∙ length-bare rows start (length rows) from (omega arith) in
    λ i. record { owner = it; next = None; start = at i; end = long i } ∷ []
rows-segments rows before it (r ∷ records) start (next ∷ starts) same at from =
    let own = map bare_of (slice_range rows start next) in
    let high = low-end next starts (length rows) from.1 in
    let long : length before + length own ≡ next = ap (λ n. n + length own) at ∙ length-bare rows start next from.0 high in
    ap₂ (λ (segment : SegmentOf) (later : List SegmentOf). segment ∷ later)
    (λ i. record { owner = it; next = Some r.label; start = at i; end = long i })
    (rows-segments rows (before ++ own) r records next starts (omega (arith, same)) (length-append before own ∙ long) from.1)
rows-segments rows before it [] start (next ∷ starts) same at from = absurd (omega (arith, same))
rows-segments rows before it (r ∷ records) start [] same at from = absurd (omega (arith, same))

-- Their rows are those of the text from the first start on.
rows-all : (rows : List Shown) (it : PageRecordOf) (records : List PageRecordOf) (start : ℕ) (starts : List ℕ) → length starts ≡ length records → FromTo start starts (length rows)
    → all_rows (with_rows rows (it ∷ records) (start ∷ starts)) ≡ map bare_of (drop start rows)
rows-all rows it [] start [] same from = append-nil (map bare_of (slice_range rows start (length rows))) ∙ ap (map bare_of) (take_rest rows start)
rows-all rows it (r ∷ records) start (next ∷ starts) same from =
    ap (λ (later : List BareRow). map bare_of (slice_range rows start next) ++ later) (rows-all rows r records next starts (omega (arith, same)) from.1)
    ∙ sym (map-append bare_of (slice_range rows start next) (drop next rows))
    ∙ ap (map bare_of) (sym (drop_split rows start next from.0))
rows-all rows it [] start (next ∷ starts) same from = absurd (omega (arith, same))
rows-all rows it (r ∷ records) start [] same from = absurd (omega (arith, same))

-- ---- of a state

abbrev pub text_records : State → List RecordRows
text_records state = with_rows (rows_in state) (records_in state) (record_starts state.lines (keys_in state) (records_in state))

records-are : (state : State) (some : SomeRecords state) → records_in state ≡ some.first ∷ some.later
records-are state some = ap (λ (pages : Option (List PageRecordOf)). unwrap_or pages []) some.are

pub text-segments : (state : State) → IsWhole state → SomeRecords state → segments_from [] (text_records state) ≡ segments_in state
text-segments state whole some =
    let starts = state-AreStarts state (some.first ∷ some.later) whole some.are in
    let count = starts.count in
    let behind = map (record_start state.lines (keys_in state)) some.later in
    subst (λ (rs : List PageRecordOf). segments_from [] (with_rows (rows_in state) rs (record_starts state.lines (keys_in state) rs)) ≡ segments (length (rows_in state)) rs (record_starts state.lines (keys_in state) rs))
    (sym (records-are state some))
    (rows-segments (rows_in state) [] some.first some.later 0 behind (omega (arith, count)) refl (from-to 0 behind (length (rows_in state)) starts.order starts.within))

pub text-rows : (state : State) → IsWhole state → SomeRecords state → all_rows (text_records state) ≡ map bare_of (rows_in state)
text-rows state whole some =
    let starts = state-AreStarts state (some.first ∷ some.later) whole some.are in
    let count = starts.count in
    let behind = map (record_start state.lines (keys_in state)) some.later in
    subst (λ (rs : List PageRecordOf). all_rows (with_rows (rows_in state) rs (record_starts state.lines (keys_in state) rs)) ≡ map bare_of (rows_in state))
    (sym (records-are state some))
    (rows-all (rows_in state) some.first some.later 0 behind (omega (arith, count)) (from-to 0 behind (length (rows_in state)) starts.order starts.within))
