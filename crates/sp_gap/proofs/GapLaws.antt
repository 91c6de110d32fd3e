-- Runs of a list round a gap.
use Rattle.std.proofs.Common.{◌≡◌, ℕ, ◌+◌, ◌-◌, ◌≤◌, List, ◌++◌, length, take, drop, reverse, slice_range, sym, ap, ap₂, ◌∙◌, arith, append_assoc, length-append, length-drop, take_at, drop_at}
use Rattle.std.proofs.Math.Seq.{take-append-add, drop-append-add}
use Rattle.std.proofs.lemmas.List.{reverse-append, reverse-reverse, length-reverse, length-take-le}
use Rattle.sp_gap.specs.Runs.{exchanged}
use Rattle.sp_gap.proofs.RunLaws.{in-three}

-- A list of so many items and a run of it, both turned round.
pub turned-exchanged : {X : Type 0} (list items turned now : List X) (count from to : ℕ) → count ≡ length list → from ≤ to → to ≤ count → turned ≡ reverse items → now ≡ exchanged list from to turned
    → (reverse now ≡ exchanged (reverse list) (count - to) (count - from) items) × (reverse (slice_range list from to) ≡ slice_range (reverse list) (count - to) (count - from))
turned-exchanged {X} list items turned now count from to count_is order within turned_is now_is =
    let a = take from list in
    let r = slice_range list from to in
    let b = drop to list in
    let back = λ (xs ys zs : List X). reverse-append xs (ys ++ zs) ∙ ap (λ ws. ws ++ reverse xs) (reverse-append ys zs) ∙ append_assoc (reverse zs) (reverse ys) (reverse xs) in
    let all : reverse list ≡ reverse b ++ (reverse r ++ reverse a) = ap reverse (in-three list from to order) ∙ back a r b in
    let b_len : length (reverse b) ≡ count - to = length-reverse b ∙ length-drop to list ∙ ap (λ n. n - to) (sym count_is) in
    let r_len : length (reverse r) ≡ to - from = length-reverse r ∙ length-take-le (to - from) (drop from list) (omega (arith, length-drop from list, within, count_is)) in
    let both_len : length (reverse b ++ reverse r) ≡ count - from = omega (arith, length-append (reverse b) (reverse r), b_len, r_len, order, within) in
    let many : count - from - (count - to) ≡ to - from = omega (arith, order, within) in
    let begin : take (count - to) (reverse list) ≡ reverse b = ap (take (count - to)) all ∙ take_at (reverse b) (reverse r ++ reverse a) (count - to) b_len in
    let end : drop (count - from) (reverse list) ≡ reverse a = ap (drop (count - from)) (all ∙ sym (append_assoc (reverse b) (reverse r) (reverse a))) ∙ drop_at (reverse b ++ reverse r) (reverse a) (count - from) both_len in
    let run : slice_range (reverse list) (count - to) (count - from) ≡ reverse r =
    ap₂ (λ n xs. take n xs) many (ap (drop (count - to)) all ∙ drop_at (reverse b) (reverse r ++ reverse a) (count - to) b_len) ∙ take_at (reverse r) (reverse a) (to - from) r_len in (
      ap reverse now_is ∙ back a turned b ∙ ap (λ xs. reverse b ++ (xs ++ reverse a)) (ap reverse turned_is ∙ reverse-reverse items) ∙ sym (ap₂ (λ xs ys. xs ++ (items ++ ys)) begin end),
      sym run,
    )

-- A run behind the first items of a list, so many.
pub behind-exchanged : {X : Type 0} (front rest items now : List X) (ahead from to : ℕ) → ahead ≡ length front → ahead ≤ from → from ≤ to → now ≡ exchanged rest (from - ahead) (to - ahead) items
    → (front ++ now ≡ exchanged (front ++ rest) from to items) × (slice_range rest (from - ahead) (to - ahead) ≡ slice_range (front ++ rest) from to)
behind-exchanged front rest items now ahead from to ahead_is behind order now_is =
    let n = from - ahead in
    let m = to - ahead in
    let from_is : length front + n ≡ from = omega (arith, behind, ahead_is) in
    let to_is : length front + m ≡ to = omega (arith, behind, order, ahead_is) in
    let count : m - n ≡ to - from = omega (arith, behind, order) in
    let begin : take from (front ++ rest) ≡ front ++ take n rest = ap (λ k. take k (front ++ rest)) (sym from_is) ∙ take-append-add front rest n in
    let end : drop to (front ++ rest) ≡ drop m rest = ap (λ k. drop k (front ++ rest)) (sym to_is) ∙ drop-append-add front rest m in
    let inner : drop from (front ++ rest) ≡ drop n rest = ap (λ k. drop k (front ++ rest)) (sym from_is) ∙ drop-append-add front rest n in (
      ap (λ xs. front ++ xs) now_is ∙ sym (append_assoc front (take n rest) (items ++ drop m rest)) ∙ sym (ap₂ (λ xs ys. xs ++ (items ++ ys)) begin end),
      ap₂ (λ k xs. take k xs) count (sym inner),
    )
