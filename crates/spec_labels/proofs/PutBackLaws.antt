-- What is kept for records has indices of its own, and an exchange undoes an exchange.
use Rattle.std.proofs.Common.{◌≡◌, ◌≢◌, ℕ, suc, ◌+◌, ◌<◌, ◌≤◌, ◌==◌, Bool, true, false, cond, List, [], ◌∷◌, length, map, get_or, eqb-true, refl, ap, ap₂, sym, ◌∙◌, subst, ⊎_elim, arith}
use Rattle.std.specs.Prelude.{Option, Some, None, All, AllPairs, slice_get, unwrap_or, option_map}
use Rattle.std.proofs.lemmas.Bool.{cases_Bool}
use Rattle.std.proofs.lemmas.List.{length-map, get_or-map}
use Rattle.std.proofs.lemmas.List.Elements.{All-nil, All-cons, All-weaker, All-map}
use Rattle.std.proofs.lemmas.List.Kept.{AllPairs-cons}
use Rattle.spec_text.specs.Lines.{LineState}
use Rattle.spec_labels.specs.declared.Moved.{Moved}
use Rattle.spec_labels.specs.PageRecords.{PageRecordOf, is_removed, moved_of, moved_from, moved_at, with_anchor, put_back_from, put_back_records, taken_back}

-- The indices are those of the records.
abbrev Between : ℕ → ℕ → Moved → Type 0
Between low high it = (low ≤ it.index) × (it.index < high)

moved_from-Between : (lines : List LineState) (index : ℕ) (records : List PageRecordOf) → All (Between index (index + length records)) (moved_from lines index records)
moved_from-Between lines index [] = All-nil (Between index (index + 0))
moved_from-Between lines index (it ∷ records) =
    by (is_removed lines it)
    (All-weaker (Between (index + 1) (index + 1 + length records)) (Between index (index + count))
    (λ m b. (omega (arith, b.0), omega (arith, b.1))) (moved_from lines (index + 1) records) (moved_from-Between lines (index + 1) records))
  where
    count : ℕ
    count = length (it ∷ records)

    by : (b : Bool) → All (Between index (index + count)) (moved_from lines (index + 1) records) → All (Between index (index + count)) (cond b (moved_of index it ∷ moved_from lines (index + 1) records) (moved_from lines (index + 1) records))
    by true later = All-cons (Between index (index + count)) (moved_of index it) (moved_from lines (index + 1) records) (omega arith, omega arith) later
    by false later = later

pub moved_from-within : (lines : List LineState) (records : List PageRecordOf) → All (λ (it : Moved). it.index < length records) (moved_from lines 0 records)
moved_from-within lines records =
    All-weaker (Between 0 (0 + length records)) (λ (it : Moved). it.index < length records) (λ m b. omega (arith, b.1)) (moved_from lines 0 records) (moved_from-Between lines 0 records)

-- They are distinct.
pub moved_from-distinct : (lines : List LineState) (index : ℕ) (records : List PageRecordOf) → AllPairs (λ (one other : Moved). one.index ≢ other.index) (moved_from lines index records)
moved_from-distinct lines index [] = λ i j d less within. absurd (omega (arith, less, within))
moved_from-distinct lines index (it ∷ records) = by (is_removed lines it) (moved_from-distinct lines (index + 1) records)
  where
    by : (b : Bool) → AllPairs (λ (one other : Moved). one.index ≢ other.index) (moved_from lines (index + 1) records)
        → AllPairs (λ (one other : Moved). one.index ≢ other.index) (cond b (moved_of index it ∷ moved_from lines (index + 1) records) (moved_from lines (index + 1) records))
    by true later =
        AllPairs-cons (λ (one other : Moved). one.index ≢ other.index) (moved_of index it) (moved_from lines (index + 1) records)
        (All-weaker (Between (index + 1) (index + 1 + length records)) (λ (other : Moved). index ≢ other.index) (λ m b same. omega (arith, b.0, same))
        (moved_from lines (index + 1) records) (moved_from-Between lines (index + 1) records))
        later
    by false later = later

-- What is taken back keeps its index.
pub taken_back-index : (records : List PageRecordOf) (it : Moved) → (taken_back records it).index ≡ it.index
taken_back-index records it = by (slice_get records it.index)
  where
    by : (o : Option PageRecordOf) → (unwrap_or (option_map (moved_of it.index) o) it).index ≡ it.index
    by None = refl
    by (Some one) = refl

pub taken_back-within : (records : List PageRecordOf) (count : ℕ) (moved : List Moved) → All (λ (it : Moved). it.index < count) moved → All (λ (it : Moved). it.index < count) (map (taken_back records) moved)
taken_back-within records count moved all =
    All-map (λ (it : Moved). it.index < count) (taken_back records) moved (λ k d within. subst (λ n. n < count) (sym (taken_back-index records (get_or moved k d))) (all k d within))

pub taken_back-distinct : (records : List PageRecordOf) (moved : List Moved) → AllPairs (λ (one other : Moved). one.index ≢ other.index) moved
    → AllPairs (λ (one other : Moved). one.index ≢ other.index) (map (taken_back records) moved)
taken_back-distinct records moved pairs = λ i j d less within same.
    let within' : j < length moved = omega (arith, within, length-map moved (taken_back records)) in
    pairs i j d less within' (sym (index-at i d (omega (arith, less, within'))) ∙ same ∙ index-at j d within')
  where
    index-at : (k : ℕ) (d : Moved) → k < length moved → (get_or (map (taken_back records) moved) k d).index ≡ (get_or moved k d).index
    index-at k d inside = ap (λ (it : Moved). it.index) (get_or-map (taken_back records) moved k d d inside) ∙ taken_back-index records (get_or moved k d)

-- What is kept for an index among what was taken back.
moved_at-taken : (records : List PageRecordOf) (moved : List Moved) (k : ℕ) → moved_at (map (taken_back records) moved) k ≡ option_map (taken_back records) (moved_at moved k)
moved_at-taken records [] k = refl
moved_at-taken records (it ∷ moved) k =
    ap (λ n. cond (n == k) (Some (taken_back records it)) (moved_at (map (taken_back records) moved) k)) (taken_back-index records it)
    ∙ by (it.index == k) (moved_at-taken records moved k)
  where
    by : (b : Bool) → moved_at (map (taken_back records) moved) k ≡ option_map (taken_back records) (moved_at moved k)
        → cond b (Some (taken_back records it)) (moved_at (map (taken_back records) moved) k) ≡ option_map (taken_back records) (cond b (Some it) (moved_at moved k))
    by true rest = refl
    by false rest = rest

-- What is kept for an index has it.
moved_at-index : (moved : List Moved) (k : ℕ) (found : Moved) → moved_at moved k ≡ Some found → found.index ≡ k
moved_at-index [] k found is = cc
moved_at-index (it ∷ moved) k found is = ⊎_elim
    (λ same. let e : Some it ≡ Some found = sym (ap (λ b. cond b (Some it) (moved_at moved k)) same) ∙ is in
    let here : it ≡ found = cc in sym (ap (λ (m : Moved). m.index) here) ∙ eqb-true it.index k same)
    (λ other. moved_at-index moved k found (sym (ap (λ b. cond b (Some it) (moved_at moved k)) other) ∙ is))
    (cases_Bool (it.index == k))

put_back-again : (all : List PageRecordOf) (moved : List Moved) (index : ℕ) (records : List PageRecordOf) → ((j : ℕ) → slice_get all (index + j) ≡ slice_get records j)
    → put_back_from (map (taken_back all) moved) index (put_back_from moved index records) ≡ records
put_back-again all moved index [] there = refl
put_back-again all moved index (it ∷ records) there =
    ap₂ (λ (r : PageRecordOf) (rs : List PageRecordOf). r ∷ rs)
    (ap (with_anchor (with_anchor it (moved_at moved index))) (moved_at-taken all moved index) ∙ back (moved_at moved index) refl)
    (put_back-again all moved (index + 1) records (λ j. ap (slice_get all) (let e : (index + 1) + j ≡ index + suc j = omega arith in e) ∙ there (suc j)))
  where
    here : slice_get all index ≡ Some it
    here = ap (slice_get all) (let e : index ≡ index + 0 = omega arith in e) ∙ there 0

    back : (o : Option Moved) → moved_at moved index ≡ o → with_anchor (with_anchor it o) (option_map (taken_back all) o) ≡ it
    back None is = refl
    back (Some m) is =
        let at : slice_get all m.index ≡ Some it = ap (slice_get all) (moved_at-index moved index m is) ∙ here in
        ap (λ (o : Option PageRecordOf). with_anchor (with_anchor it (Some m)) (Some (unwrap_or (option_map (moved_of m.index) o) m))) at

-- To put back what putting back took gives the old records.
pub put_back-twice : (records : List PageRecordOf) (moved : List Moved) → put_back_records (map (taken_back records) moved) (put_back_records moved records) ≡ records
put_back-twice records moved = put_back-again records moved 0 records (λ j. ap (slice_get records) (let e : 0 + j ≡ j = omega arith in e))
