-- Runs poured from list to list.
use Rattle.std.proofs.Common.{◌≡◌, ℕ, zero, suc, ◌+◌, ◌-◌, ◌≤◌, List, [], ◌∷◌, ◌++◌, length, take, drop, reverse, slice_range, sym, ap, ap₂, ◌∙◌, arith, append_assoc, length-append, take_all, take_at, drop_at, drop-drop, length-drop}
use Rattle.std.proofs.lemmas.List.{reverse-append, reverse-reverse, length-take-le, take-append-drop}
use Rattle.std.proofs.lemmas.List.Folds.{drop_split}
use Rattle.sp_gap.specs.Runs.{Poured, exchanged}

pub Poured-one : {X : Type 0} (from to from_now to_now from_next to_next : List X) (count : ℕ) (x : X) → Poured from to from_now to_now count → from_now ≡ from_next ++ x ∷ [] → to_next ≡ to_now ++ x ∷ [] → Poured from to from_next to_next (count + 1)
Poured-one from to from_now to_now from_next to_next count x poured taken put = record {
  moved = x ∷ poured.moved;
  count_is = omega (arith, poured.count_is);
  taken = poured.taken ∙ ap (λ xs. xs ++ poured.moved) taken ∙ append_assoc from_next (x ∷ []) poured.moved;
  put = put ∙ ap (λ xs. xs ++ x ∷ []) poured.put ∙ append_assoc to (reverse poured.moved) (x ∷ []) ∙ ap (λ xs. to ++ xs) (sym (reverse-append (x ∷ []) poured.moved));
}

-- What was poured and turned once more is the end of the list, in its order.
pub handed-over : {X : Type 0} (from to from_now to_now all : List X) (count place : ℕ) → Poured from to from_now to_now count → place ≡ length to → all ≡ take place to_now ++ reverse (drop place to_now)
    → (from_now ≡ take (length from - count) from) × (all ≡ to ++ drop (length from - count) from)
handed-over from to from_now to_now all count place poured place_is all_is =
    let left : length from_now ≡ length from - count = omega (arith, ap length poured.taken, length-append from_now poured.moved, poured.count_is) in
    let end : drop (length from - count) from ≡ poured.moved = ap (drop (length from - count)) poured.taken ∙ drop_at from_now poured.moved (length from - count) left in
    let behind : length to ≡ place = sym place_is in (
      sym (ap (take (length from - count)) poured.taken ∙ take_at from_now poured.moved (length from - count) left),
      all_is
          ∙ ap₂ (λ xs ys. xs ++ reverse ys) (ap (take place) poured.put ∙ take_at to (reverse poured.moved) place behind) (ap (drop place) poured.put ∙ drop_at to (reverse poured.moved) place behind)
          ∙ ap (λ xs. to ++ xs) (reverse-reverse poured.moved ∙ sym end),
    )

-- A list in three parts, by two places.
pub in-three : {X : Type 0} (list : List X) (from to : ℕ) → from ≤ to → list ≡ take from list ++ (slice_range list from to ++ drop to list)
in-three list from to order =
    let rest : drop (to - from) (drop from list) ≡ drop to list = drop-drop (to - from) from list ∙ ap (λ n. drop n list) (let same : from + (to - from) ≡ to = omega (arith, order) in same) in
    sym (ap (λ xs. take from list ++ (slice_range list from to ++ xs)) (sym rest) ∙ ap (λ xs. take from list ++ xs) (take-append-drop (to - from) (drop from list)) ∙ take-append-drop from list)

-- So many items, and so many of those behind them.
pub take-then-take : {X : Type 0} (m n : ℕ) (xs : List X) → take m xs ++ take n (drop m xs) ≡ take (m + n) xs
take-then-take zero n xs = ap (λ k. take k xs) (let same : n ≡ 0 + n = omega arith in same)
take-then-take (suc m) n [] = take_all n [] (omega arith) ∙ sym (take_all (suc m + n) [] (omega arith))
take-then-take (suc m) n (x ∷ xs) = ap (λ ys. x ∷ ys) (take-then-take m n xs) ∙ ap (λ k. take k (x ∷ xs)) (let same : suc (m + n) ≡ suc m + n = omega arith in same)

-- A run in two parts, by a place within it.
pub slice-parts : {X : Type 0} (list : List X) (from mid to : ℕ) → from ≤ mid → mid ≤ to → slice_range list from mid ++ slice_range list mid to ≡ slice_range list from to
slice-parts list from mid to order later =
    let front = slice_range list from mid in
    let all : drop from list ≡ front ++ drop mid list = drop_split list from mid order in
    let inner : drop (mid - from) (drop from list) ≡ drop mid list = drop-drop (mid - from) from list ∙ ap (λ n. drop n list) (let same : from + (mid - from) ≡ mid = omega (arith, order) in same) in
    ap (λ xs. front ++ take (to - mid) xs) (sym inner)
    ∙ take-then-take (mid - from) (to - mid) (drop from list)
    ∙ ap (λ n. take n (drop from list)) (let same : (mid - from) + (to - mid) ≡ to - from = omega (arith, order, later) in same)

-- What an exchange for more items makes, step by step.
pub more-exchanged : {X : Type 0} (list items one it two three : List X) (from to more : ℕ) → from ≤ to → to ≤ length list → to - from ≤ length items → more ≡ length items - (to - from)
    → one ≡ list ++ drop (length items - more) items → it ≡ take (length items - more) items
    → two ≡ exchanged one from to it
    → three ≡ take to two ++ (drop (length two - more) two ++ slice_range two to (length two - more))
    → (three ≡ exchanged list from to items) × (slice_range one from to ≡ slice_range list from to)
more-exchanged list items one it two three from to more order within enough more_is one_is it_is two_is three_is =
    let a = take from list in
    let r = slice_range list from to in
    let b = drop to list in
    let t = drop (length items - more) items in
    let a_len : length a ≡ from = length-take-le from list (omega (arith, order, within)) in
    let r_len : length r ≡ to - from = length-take-le (to - from) (drop from list) (omega (arith, length-drop from list, within)) in
    let it_len : length it ≡ to - from = ap length it_is ∙ length-take-le (length items - more) items (omega arith) ∙ (let same : length items - more ≡ to - from = omega (arith, more_is, enough) in same) in
    let t_len : length t ≡ more = length-drop (length items - more) items ∙ (let same : length items - (length items - more) ≡ more = omega (arith, more_is) in same) in
    let one_parts : one ≡ a ++ ((r ++ b) ++ t) = one_is ∙ ap (λ xs. xs ++ t) (in-three list from to order) ∙ append_assoc a (r ++ b) t in
    let one_two : one ≡ (a ++ r) ++ (b ++ t) = one_parts ∙ ap (λ xs. a ++ xs) (append_assoc r b t) ∙ sym (append_assoc a r (b ++ t)) in
    let begin : take from one ≡ a = ap (take from) one_parts ∙ take_at a ((r ++ b) ++ t) from a_len in
    let run : slice_range one from to ≡ r =
    ap (λ xs. take (to - from) xs) (ap (drop from) one_parts ∙ drop_at a ((r ++ b) ++ t) from a_len ∙ append_assoc r b t) ∙ take_at r (b ++ t) (to - from) r_len in
    let front : length (a ++ r) ≡ to = omega (arith, length-append a r, a_len, r_len, order) in
    let rest : drop to one ≡ b ++ t = ap (drop to) one_two ∙ drop_at (a ++ r) (b ++ t) to front in
    let two_parts : two ≡ a ++ (it ++ (b ++ t)) = two_is ∙ ap₂ (λ xs ys. xs ++ (it ++ ys)) begin rest in
    let two_front : two ≡ (a ++ it) ++ (b ++ t) = two_parts ∙ sym (append_assoc a it (b ++ t)) in
    let two_back : two ≡ ((a ++ it) ++ b) ++ t = two_front ∙ sym (append_assoc (a ++ it) b t) in
    let front_len : length (a ++ it) ≡ to = omega (arith, length-append a it, a_len, it_len, order) in
    let till : length ((a ++ it) ++ b) ≡ length two - more = omega (arith, ap length two_back, length-append ((a ++ it) ++ b) t, t_len) in
    let b_len : length b ≡ length two - more - to = omega (arith, till, length-append (a ++ it) b, front_len) in (
      three_is
          ∙ ap₂ (λ xs ys. xs ++ (drop (length two - more) two ++ ys)) (ap (take to) two_front ∙ take_at (a ++ it) (b ++ t) to front_len)
          (ap (λ xs. take (length two - more - to) xs) (ap (drop to) two_front ∙ drop_at (a ++ it) (b ++ t) to front_len) ∙ take_at b t (length two - more - to) b_len)
          ∙ ap (λ xs. (a ++ it) ++ (xs ++ b)) (ap (drop (length two - more)) two_back ∙ drop_at ((a ++ it) ++ b) t (length two - more) till)
          ∙ append_assoc a it (t ++ b) ∙ ap (λ xs. a ++ xs) (sym (append_assoc it t b))
          ∙ ap (λ xs. a ++ (xs ++ b)) (ap (λ xs. xs ++ t) it_is ∙ take-append-drop (length items - more) items),
      run,
    )

-- What an exchange for fewer items makes, step by step.
pub fewer-exchanged : {X : Type 0} (list items one two : List X) (from to count less : ℕ) → from ≤ to → to ≤ length list → count ≡ length items → count ≤ to - from → less ≡ to - from - count
    → one ≡ exchanged list from (from + count) items
    → two ≡ take (from + count) one ++ (drop (from + count + less) one ++ slice_range one (from + count) (from + count + less))
    → (take (length two - less) two ≡ exchanged list from to items) × (slice_range list from (from + count) ++ drop (length two - less) two ≡ slice_range list from to)
fewer-exchanged list items one two from to count less order within count_is few less_is one_is two_is =
    let mid = from + count in
    let a = take from list in
    let r = slice_range list from mid in
    let q = slice_range list mid to in
    let b = drop to list in
    let to_is : mid + less ≡ to = omega (arith, less_is, few, order) in
    let a_len : length a ≡ from = length-take-le from list (omega (arith, order, within)) in
    let q_len : length q ≡ less = length-take-le (to - mid) (drop mid list) (omega (arith, length-drop mid list, within)) ∙ (let same : to - mid ≡ less = omega (arith, to_is) in same) in
    let rest : drop mid list ≡ q ++ b = drop_split list mid to (omega (arith, to_is)) in
    let one_parts : one ≡ a ++ (items ++ (q ++ b)) = one_is ∙ ap (λ xs. a ++ (items ++ xs)) rest in
    let one_front : one ≡ (a ++ items) ++ (q ++ b) = one_parts ∙ sym (append_assoc a items (q ++ b)) in
    let one_back : one ≡ ((a ++ items) ++ q) ++ b = one_front ∙ sym (append_assoc (a ++ items) q b) in
    let front_len : length (a ++ items) ≡ mid = omega (arith, length-append a items, a_len, count_is) in
    let back_len : length ((a ++ items) ++ q) ≡ mid + less = omega (arith, length-append (a ++ items) q, front_len, q_len) in
    let few_is : mid + less - mid ≡ less = omega arith in
    let two_parts : two ≡ (a ++ items) ++ (b ++ q) =
    two_is
    ∙ ap₂ (λ xs ys. xs ++ (ys ++ slice_range one mid (mid + less))) (ap (take mid) one_front ∙ take_at (a ++ items) (q ++ b) mid front_len) (ap (drop (mid + less)) one_back ∙ drop_at ((a ++ items) ++ q) b (mid + less) back_len)
    ∙ ap (λ xs. (a ++ items) ++ (b ++ xs))
    (ap (λ xs. take (mid + less - mid) xs) (ap (drop mid) one_front ∙ drop_at (a ++ items) (q ++ b) mid front_len) ∙ take_at q b (mid + less - mid) (omega (arith, few_is, q_len))) in
    let two_back : two ≡ ((a ++ items) ++ b) ++ q = two_parts ∙ sym (append_assoc (a ++ items) b q) in
    let till : length ((a ++ items) ++ b) ≡ length two - less = omega (arith, ap length two_back, length-append ((a ++ items) ++ b) q, q_len) in (
      ap (take (length two - less)) two_back ∙ take_at ((a ++ items) ++ b) q (length two - less) till ∙ append_assoc a items b,
      ap (λ xs. r ++ xs) (ap (drop (length two - less)) two_back ∙ drop_at ((a ++ items) ++ b) q (length two - less) till) ∙ slice-parts list from mid to (omega arith) (omega (arith, to_is)),
    )
