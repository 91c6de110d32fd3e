-- The first run of records without rows.
use Rattle.std.proofs.Common.{◌≡◌, ℕ, suc, ◌+◌, ◌<◌, Bool, true, false, ◌&&◌, cond, List, [], ◌∷◌, length, take, drop, get_or, refl, ap, sym, ◌∙◌, arith}
use Rattle.std.specs.Prelude.{nat_le, slice_index_or}
use Rattle.std.specs.List.{list_all, prefix_len}
use Rattle.std.proofs.lemmas.List.{get_or-drop, length-drop, take-append-drop}
use Rattle.std.proofs.lemmas.List.Folds.{length-prefix_len}
use Rattle.std.proofs.lemmas.List.Sums.{prefix_len_stops}
use Rattle.spec_labels.specs.PageRecords.{PageRecordOf, SegmentOf, is_empty, segments, runs_of}
use Rattle.sp_locks.proofs.SheetRuns.{runs_of-run}
use Rattle.sp_packet.specs.Runs.{empty_run}

pub empty-run : (rows : ℕ) (records : List PageRecordOf) (starts : List ℕ) → length starts ≡ length records → prefix_len is_empty (segments rows records starts) ≡ empty_run rows starts
empty-run rows [] [] same = refl
empty-run rows [] (start ∷ starts) same = absurd (omega (arith, same))
empty-run rows (it ∷ records) [] same = absurd (omega (arith, same))
empty-run rows (it ∷ records) (start ∷ starts) same = ap (λ n. cond (nat_le (slice_index_or starts 0 rows) start) (1 + n) 0) (empty-run rows records starts (omega (arith, same)))

all-prefix : {X : Type 0} (p : X → Bool) (xs : List X) → list_all p (take (prefix_len p xs) xs) ≡ true
all-prefix p [] = refl
all-prefix p (x ∷ xs) = by (p x) refl (all-prefix p xs)
  where
    by : (b : Bool) → p x ≡ b → list_all p (take (prefix_len p xs) xs) ≡ true → list_all p (take (cond b (1 + prefix_len p xs) 0) (x ∷ xs)) ≡ true
    by true is later =
        let one : 1 + prefix_len p xs ≡ suc (prefix_len p xs) = omega arith in
        ap (λ n. list_all p (take n (x ∷ xs))) one ∙ ap (λ b. b && list_all p (take (prefix_len p xs) xs)) is ∙ later
    by false is later = refl

pub runs-first : (all : List SegmentOf) → 0 < prefix_len is_empty all → runs_of all ≡ take (prefix_len is_empty all) all ∷ runs_of (drop (prefix_len is_empty all) all)
runs-first all some =
    let count = prefix_len is_empty all in
    let long = length-prefix_len is_empty all in
    ap runs_of (sym (take-append-drop count all))
    ∙ runs_of-run (take count all) (drop count all) (omega (arith, long, some)) (all-prefix is_empty all)
    (λ d there.
    let left = length-drop count all in
    let here : count + 0 ≡ count = omega arith in
    get-at count d here ∙ prefix_len_stops is_empty all d (omega (arith, there, left)))
  where
    get-at : (count : ℕ) (d : SegmentOf) → count + 0 ≡ count → is_empty (get_or (drop count all) 0 d) ≡ is_empty (get_or all count d)
    get-at count d here = ap is_empty (get_or-drop count all 0 d ∙ ap (λ n. get_or all n d) here)
