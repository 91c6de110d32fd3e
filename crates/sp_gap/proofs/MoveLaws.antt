-- Places that are moved, and exchanged.
use Rattle.std.proofs.Common.{◌≡◌, ℕ, zero, suc, ◌+◌, ◌-◌, ◌<◌, ◌≤◌, List, [], ◌∷◌, ◌++◌, length, get_or, take, drop, map, set, slice_range, refl, sym, ap, ap₂, ◌∙◌, arith, add-one, append_assoc, length-append, take_at, drop_at, take_all, append-nil, length-drop}
use Rattle.std.proofs.lemmas.List.{length-take-le, length-map, drop_all}
use Rattle.sp_gap.proofs.RunLaws.{in-three}
use Rattle.sp_gap.specs.Moves.{shifted}

-- One more item is moved.
step : {X : Type 0} (f : X → X) (d : X) (xs : List X) (i : ℕ) → i < length xs
    → set (map f (take i xs) ++ drop i xs) i (f (get_or (map f (take i xs) ++ drop i xs) i d)) ≡ map f (take (suc i) xs) ++ drop (suc i) xs
step f d [] i inside = absurd (omega (arith, inside))
step f d (x ∷ xs) zero inside = refl
step f d (x ∷ xs) (suc i) inside = ap (λ ys. f x ∷ ys) (step f d xs i (omega (arith, inside)))

pub shift-step : {X : Type 0} (f : X → X) (d : X) (xs ys : List X) (i : ℕ) → i < length xs → ys ≡ map f (take i xs) ++ drop i xs → set ys i (f (get_or ys i d)) ≡ map f (take (i + 1) xs) ++ drop (i + 1) xs
shift-step f d xs ys i inside is =
    ap (λ zs. set zs i (f (get_or zs i d))) is ∙ step f d xs i inside ∙ ap (λ n. map f (take n xs) ++ drop n xs) (sym (add-one i))

-- A list is in three parts by two places.
pub record InThree (list one run rest : List ℕ) (from to : ℕ) : Type 0 where
  pub begin : take from list ≡ one
  pub run_is : slice_range list from to ≡ run
  pub end : drop to list ≡ rest

three-are : (list one run rest : List ℕ) (from to : ℕ) → from ≤ to → list ≡ one ++ (run ++ rest) → length one ≡ from → length run ≡ to - from → InThree list one run rest from to
three-are list one run rest from to order is one_len run_len =
    let both : length (one ++ run) ≡ to = omega (arith, length-append one run, one_len, run_len, order) in
    record {
      begin = ap (take from) is ∙ take_at one (run ++ rest) from one_len;
      run_is = ap (λ xs. take (to - from) (drop from xs)) is ∙ ap (take (to - from)) (drop_at one (run ++ rest) from one_len) ∙ take_at run rest (to - from) run_len;
      end = ap (drop to) (is ∙ sym (append_assoc one run rest)) ∙ drop_at (one ++ run) rest to both;
    }

-- What the steps of an exchange of places make.
pub record Exchanging (list items one two : List ℕ) (from to base less more : ℕ) : Type 0 where
  pub run_is : slice_range one from to ≡ slice_range list from to
  pub list_is : take from two ++ (map (shifted 0 base) items ++ drop to two) ≡ take from list ++ (map (shifted 0 base) items ++ map (shifted less more) (drop to list))
  pub items_is : slice_range two from to ≡ map (shifted base 0) (slice_range list from to)

pub first-moved : (list one : List ℕ) (from to end less more : ℕ) → from ≤ to → to ≤ length list → end ≡ length list
    → one ≡ take to list ++ (map (shifted less more) (slice_range list to end) ++ drop end list)
    → InThree one (take from list) (slice_range list from to) (map (shifted less more) (drop to list)) from to
first-moved list one from to end less more order within end_is is =
    let a = take from list in
    let r = slice_range list from to in
    let b = drop to list in
    let a_len : length a ≡ from = length-take-le from list (omega (arith, order, within)) in
    let r_len : length r ≡ to - from = length-take-le (to - from) (drop from list) (omega (arith, length-drop from list, within)) in
    let split = in-three list from to order in
    let front : take to list ≡ a ++ r =
    ap (take to) (split ∙ sym (append_assoc a r b)) ∙ take_at (a ++ r) b to (omega (arith, length-append a r, a_len, r_len, order)) in
    let all : slice_range list to end ≡ b = take_all (end - to) b (omega (arith, length-drop to list, end_is)) in
    let none : drop end list ≡ [] = drop_all end list (omega (arith, end_is)) in
    three-are one a r (map (shifted less more) b) from to order
    (is ∙ ap₂ (λ xs ys. xs ++ (map (shifted less more) ys ++ drop end list)) front all
    ∙ ap (λ xs. (a ++ r) ++ (map (shifted less more) b ++ xs)) none ∙ ap (λ xs. (a ++ r) ++ xs) (append-nil (map (shifted less more) b))
    ∙ append_assoc a r (map (shifted less more) b)) a_len r_len

pub exchanging : (list items one two : List ℕ) (from to end base less more : ℕ) → from ≤ to → to ≤ length list → end ≡ length list
    → one ≡ take to list ++ (map (shifted less more) (slice_range list to end) ++ drop end list)
    → two ≡ take from one ++ (map (shifted base 0) (slice_range one from to) ++ drop to one)
    → Exchanging list items one two from to base less more
exchanging list items one two from to end base less more order within end_is one_is two_is =
    let a = take from list in
    let r = slice_range list from to in
    let b = map (shifted less more) (drop to list) in
    let first = first-moved list one from to end less more order within end_is one_is in
    let a_len : length a ≡ from = length-take-le from list (omega (arith, order, within)) in
    let r_len : length r ≡ to - from = length-take-le (to - from) (drop from list) (omega (arith, length-drop from list, within)) in
    let two_parts : two ≡ a ++ (map (shifted base 0) r ++ b) =
    two_is ∙ ap₂ (λ xs ys. xs ++ (map (shifted base 0) ys ++ drop to one)) first.begin first.run_is ∙ ap (λ xs. a ++ (map (shifted base 0) r ++ xs)) first.end in
    let second = three-are two a (map (shifted base 0) r) b from to order two_parts a_len (length-map r (shifted base 0) ∙ r_len) in
    record {
      run_is = first.run_is;
      list_is = ap₂ (λ xs ys. xs ++ (map (shifted 0 base) items ++ ys)) second.begin second.end;
      items_is = second.run_is;
    }
