-- The rounds that a change gives page records, one by one.
use Rattle.std.proofs.Common.{◌≡◌, ℕ, ◌+◌, ◌<◌, Bool, true, false, cond, List, [], ◌∷◌, ◌++◌, length, drop, get_or, append_assoc, ap, sym, ◌∙◌, arith}
use Rattle.std.specs.Prelude.{slice_index, slice_index_or, slice_range}
use Rattle.std.proofs.lemmas.List.{drop_more, get_or-drop}
use Rattle.spec_labels.specs.declared.Moved.{Moved}
use Rattle.spec_labels.specs.PageRecords.{PageRecordOf, moved_of}
use Rattle.spec_sheets.specs.Shown.{Shown}
use Rattle.spec_state.specs.Changes.{raised, segment_rows}
use Rattle.spec_state.specs.SameRows.{same_rows}
use Rattle.sp_compare.specs.Raised.{raises}

segment-at : (rows : List Shown) (starts : List ℕ) (i : ℕ) → i < length starts
    → segment_rows rows (drop i starts) ≡ slice_range rows (slice_index_or starts i 0) (slice_index_or starts (i + 1) (length rows)) ∷ segment_rows rows (drop (i + 1) starts)
segment-at rows starts i inside =
    ap (segment_rows rows) (drop_more starts i 0 inside)
    ∙ ap (λ (n : ℕ). slice_range rows (get_or starts i 0) n ∷ segment_rows rows (drop (i + 1) starts))
    (get_or-drop (i + 1) starts 0 (length rows) ∙ ap (λ (k : ℕ). get_or starts k (length rows)) (let e : (i + 1) + 0 ≡ i + 1 = omega arith in e))

pub raises-step : (round i : ℕ) (olds news : List Shown) (before after : List ℕ) (records : List PageRecordOf) (d : PageRecordOf) → i < length before → i < length after → i < length records
    → raises round i (segment_rows olds (drop i before)) (segment_rows news (drop i after)) (drop i records)
    ≡ (let later = raises round (i + 1) (segment_rows olds (drop (i + 1) before)) (segment_rows news (drop (i + 1) after)) (drop (i + 1) records) in
    cond (same_rows (slice_range olds (slice_index_or before i 0) (slice_index_or before (i + 1) (length olds))) (slice_range news (slice_index_or after i 0) (slice_index_or after (i + 1) (length news))))
    later (moved_of i (raised round false (get_or records i d)) ∷ later))
raises-step round i olds news before after records d in_before in_after in_records =
    ap (λ (ss : List (List Shown)). raises round i ss (segment_rows news (drop i after)) (drop i records)) (segment-at olds before i in_before)
    ∙ ap (λ (ss : List (List Shown)). raises round i (slice_range olds (slice_index_or before i 0) (slice_index_or before (i + 1) (length olds)) ∷ segment_rows olds (drop (i + 1) before)) ss (drop i records)) (segment-at news after i in_after)
    ∙ ap (raises round i (slice_range olds (slice_index_or before i 0) (slice_index_or before (i + 1) (length olds)) ∷ segment_rows olds (drop (i + 1) before)) (slice_range news (slice_index_or after i 0) (slice_index_or after (i + 1) (length news)) ∷ segment_rows news (drop (i + 1) after))) (drop_more records i d in_records)

-- What is left to raise from a place on.
abbrev pub left_from : ℕ → ℕ → List Shown → List Shown → List ℕ → List ℕ → List PageRecordOf → List Moved
left_from round i olds news before after records = raises round i (segment_rows olds (drop i before)) (segment_rows news (drop i after)) (drop i records)

-- Whether the rows of the record at a place are the same.
abbrev pub is_same_at : ℕ → List Shown → List Shown → List ℕ → List ℕ → Bool
is_same_at i olds news before after =
    same_rows (slice_range olds (slice_index_or before i 0) (slice_index_or before (i + 1) (length olds))) (slice_range news (slice_index_or after i 0) (slice_index_or after (i + 1) (length news)))

pub raises-same : (round i : ℕ) (olds news : List Shown) (before after : List ℕ) (records : List PageRecordOf) (d : PageRecordOf) (moved all : List Moved) → i < length before → i < length after → i < length records
    → is_same_at i olds news before after ≡ true → moved ++ left_from round i olds news before after records ≡ all → moved ++ left_from round (i + 1) olds news before after records ≡ all
raises-same round i olds news before after records d moved all in_before in_after in_records same is =
    let later = left_from round (i + 1) olds news before after records in
    sym (ap (λ (ms : List Moved). moved ++ ms)
    (raises-step round i olds news before after records d in_before in_after in_records
    ∙ ap (λ (b : Bool). cond b later (moved_of i (raised round false (get_or records i d)) ∷ later)) same)) ∙ is

pub raises-other : (round i : ℕ) (olds news : List Shown) (before after : List ℕ) (records : List PageRecordOf) (d : PageRecordOf) (moved all : List Moved) → i < length before → i < length after → i < length records
    → is_same_at i olds news before after ≡ false → moved ++ left_from round i olds news before after records ≡ all
    → (moved ++ moved_of i (raised round false (get_or records i d)) ∷ []) ++ left_from round (i + 1) olds news before after records ≡ all
raises-other round i olds news before after records d moved all in_before in_after in_records same is =
    let later = left_from round (i + 1) olds news before after records in
    let one = moved_of i (raised round false (get_or records i d)) in
    append_assoc moved (one ∷ []) later
    ∙ sym (ap (λ (ms : List Moved). moved ++ ms)
    (raises-step round i olds news before after records d in_before in_after in_records ∙ ap (λ (b : Bool). cond b later (one ∷ later)) same)) ∙ is

-- Whether they are, by the numbers of rows.
pub same-at : (i : ℕ) (olds news : List Shown) (before after : List ℕ) {m n : ℕ} (same : Bool) → length olds ≡ m → length news ≡ n
    → same ≡ same_rows (slice_range olds (slice_index before i) (slice_index_or before (i + 1) m)) (slice_range news (slice_index after i) (slice_index_or after (i + 1) n)) → is_same_at i olds news before after ≡ same
same-at i olds news before after {m = m} {n = n} same many count is =
    ap (λ (k : ℕ). same_rows (slice_range olds (slice_index_or before i 0) (slice_index_or before (i + 1) k)) (slice_range news (slice_index_or after i 0) (slice_index_or after (i + 1) (length news)))) many
    ∙ ap (λ (k : ℕ). same_rows (slice_range olds (slice_index_or before i 0) (slice_index_or before (i + 1) m)) (slice_range news (slice_index_or after i 0) (slice_index_or after (i + 1) k))) count
    ∙ sym is
