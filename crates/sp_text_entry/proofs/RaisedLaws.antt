-- The rounds that an edit gives page records.
use Rattle.std.proofs.Common.{◌≡◌, ◌≢◌, ℕ, zero, suc, ◌+◌, ◌<◌, ◌≤◌, Bool, true, false, cond, Option, Some, None, List, [], ◌∷◌, length, get_or, eq-eqb, ne_eqb, refl, ap, ap₂, ◌∙◌, arith}
use Rattle.std.specs.Prelude.{All, AllPairs}
use Rattle.spec_labels.specs.declared.Moved.{Moved}
use Rattle.spec_labels.specs.PageRecords.{PageRecordOf, moved_at, moved_of, put_back_from, put_back_records, with_anchor}
use Rattle.spec_sheets.specs.Shown.{Shown}
use Rattle.spec_state.specs.Changes.{raised, raised_records}
use Rattle.spec_state.specs.SameRows.{same_rows}
use Rattle.sp_compare.specs.Raised.{raises}

-- ---- their indices

abbrev IsFrom : ℕ → ℕ → Moved → Type 0
IsFrom index end it = (index ≤ it.index) × (it.index < end)

raises-from : (round index : ℕ) (olds news : List (List Shown)) (records : List PageRecordOf) → (k : ℕ) (d : Moved) → k < length (raises round index olds news records)
    → IsFrom index (index + length records) (get_or (raises round index olds news records) k d)
raises-from round index [] news records k d inside = absurd (omega (arith, inside))
raises-from round index (old ∷ olds) [] records k d inside = absurd (omega (arith, inside))
raises-from round index (old ∷ olds) (new ∷ news) [] k d inside = absurd (omega (arith, inside))
raises-from round index (old ∷ olds) (new ∷ news) (it ∷ records) k d inside = by (λ j h. raises-from round (index + 1) olds news records j d h) (same_rows old new) k inside
  where
    later : List Moved
    later = raises round (index + 1) olds news records

    one : Moved
    one = moved_of index (raised round false it)

    below : ((j : ℕ) → j < length later → IsFrom (index + 1) (index + 1 + length records) (get_or later j d)) → (j : ℕ) → j < length later → IsFrom index (index + suc (length records)) (get_or later j d)
    below rest j h = let e = rest j h in (omega (arith, e.0), omega (arith, e.1))

    by : ((j : ℕ) → j < length later → IsFrom (index + 1) (index + 1 + length records) (get_or later j d)) → (same : Bool) (j : ℕ) → j < length (cond same later (one ∷ later)) → IsFrom index (index + suc (length records)) (get_or (cond same later (one ∷ later)) j d)
    by rest true j h = below rest j h
    by rest false zero h = (omega arith, omega arith)
    by rest false (suc j) h = below rest j (omega (arith, h))

pub raises-within : (round : ℕ) (olds news : List (List Shown)) (records : List PageRecordOf) → All (λ (it : Moved). it.index < length records) (raises round 0 olds news records)
raises-within round olds news records k d inside = let e = (raises-from round 0 olds news records k d inside).1 in omega (arith, e)

pub raises-distinct : (round index : ℕ) (olds news : List (List Shown)) (records : List PageRecordOf) → AllPairs (λ (one other : Moved). one.index ≢ other.index) (raises round index olds news records)
raises-distinct round index [] news records = λ i j d less inside. absurd (omega (arith, inside))
raises-distinct round index (old ∷ olds) [] records = λ i j d less inside. absurd (omega (arith, inside))
raises-distinct round index (old ∷ olds) (new ∷ news) [] = λ i j d less inside. absurd (omega (arith, inside))
raises-distinct round index (old ∷ olds) (new ∷ news) (it ∷ records) = by (raises-distinct round (index + 1) olds news records) (same_rows old new)
  where
    later : List Moved
    later = raises round (index + 1) olds news records

    one : Moved
    one = moved_of index (raised round false it)

    pairs : AllPairs (λ (one other : Moved). one.index ≢ other.index) later → (i j : ℕ) (d : Moved) → i < j → j < length (one ∷ later) → (get_or (one ∷ later) i d).index ≢ (get_or (one ∷ later) j d).index
    pairs rest i zero d less inside = absurd (omega (arith, less))
    pairs rest zero (suc j) d less inside = λ same. let e = (raises-from round (index + 1) olds news records j d (omega (arith, inside))).0 in omega (arith, e, same)
    pairs rest (suc i) (suc j) d less inside = rest i j d (omega (arith, less)) (omega (arith, inside))

    by : AllPairs (λ (one other : Moved). one.index ≢ other.index) later → (same : Bool) → AllPairs (λ (one other : Moved). one.index ≢ other.index) (cond same later (one ∷ later))
    by rest true = rest
    by rest false = pairs rest

-- ---- put back

none-below : (round index k : ℕ) (olds news : List (List Shown)) (records : List PageRecordOf) → k < index → moved_at (raises round index olds news records) k ≡ None
none-below round index k [] news records less = refl
none-below round index k (old ∷ olds) [] records less = refl
none-below round index k (old ∷ olds) (new ∷ news) [] less = refl
none-below round index k (old ∷ olds) (new ∷ news) (it ∷ records) less = by (none-below round (index + 1) k olds news records (omega (arith, less))) (same_rows old new)
  where
    later : List Moved
    later = raises round (index + 1) olds news records

    one : Moved
    one = moved_of index (raised round false it)

    by : moved_at later k ≡ None → (same : Bool) → moved_at (cond same later (one ∷ later)) k ≡ None
    by rest true = rest
    by rest false = ap (λ (b : Bool). cond b (Some one) (moved_at later k)) (ne_eqb index k (λ e. omega (arith, e, less))) ∙ rest

-- What is kept for an earlier record isn't asked for.
skip : (one : Moved) (moved : List Moved) (index : ℕ) (records : List PageRecordOf) → one.index < index → put_back_from (one ∷ moved) index records ≡ put_back_from moved index records
skip one moved index [] less = refl
skip one moved index (it ∷ records) less =
    ap₂ (λ (x : PageRecordOf) (xs : List PageRecordOf). x ∷ xs)
    (ap (λ (b : Bool). with_anchor it (cond b (Some one) (moved_at moved index))) (ne_eqb one.index index (λ e. omega (arith, e, less))))
    (skip one moved (index + 1) records (omega (arith, less)))

put-none : (index : ℕ) (records : List PageRecordOf) → put_back_from [] index records ≡ records
put-none index [] = refl
put-none index (it ∷ records) = ap (λ (xs : List PageRecordOf). it ∷ xs) (put-none (index + 1) records)

raises-from-raised : (round index : ℕ) (olds news : List (List Shown)) (records : List PageRecordOf) → put_back_from (raises round index olds news records) index records ≡ raised_records round olds news records
raises-from-raised round index [] news records = put-none index records
raises-from-raised round index (old ∷ olds) [] records = put-none index records
raises-from-raised round index (old ∷ olds) (new ∷ news) [] = refl
raises-from-raised round index (old ∷ olds) (new ∷ news) (it ∷ records) = by (raises-from-raised round (index + 1) olds news records) (same_rows old new)
  where
    later : List Moved
    later = raises round (index + 1) olds news records

    one : Moved
    one = moved_of index (raised round false it)

    by : put_back_from later (index + 1) records ≡ raised_records round olds news records → (same : Bool) → put_back_from (cond same later (one ∷ later)) index (it ∷ records) ≡ raised round same it ∷ raised_records round olds news records
    by rest true = ap₂ (λ (o : Option Moved) (xs : List PageRecordOf). with_anchor it o ∷ xs) (none-below round (index + 1) index olds news records (omega arith)) rest
    by rest false =
        ap₂ (λ (b : Bool) (xs : List PageRecordOf). with_anchor it (cond b (Some one) (moved_at later index)) ∷ xs) (eq-eqb index index refl)
        (skip one later (index + 1) records (omega arith) ∙ rest)

-- Putting them in raises the records whose rows differ.
pub raises-raised : (round : ℕ) (olds news : List (List Shown)) (records : List PageRecordOf) → put_back_records (raises round 0 olds news records) records ≡ raised_records round olds news records
raises-raised round olds news records = raises-from-raised round 0 olds news records
