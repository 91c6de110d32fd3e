-- A list in a ring, round a gap.
use Rattle.std.proofs.Common.{◌≡◌, ℕ, suc, ◌+◌, ◌-◌, ◌<◌, ◌≤◌, List, [], ◌∷◌, ◌++◌, Some, inl, inr, length, take, drop, get_or, set, slice_range, slice_get, sym, ap, ap₂, ◌∙◌, arith, append_assoc, length-append, length-drop, length-set, take_at, drop_at, drop-drop, take-take, get_or-drop, get_or-take}
use Rattle.std.proofs.Math.Seq.{take-append-add, drop-append-add, drop-cons}
use Rattle.std.proofs.lemmas.List.{get_or_at, set_at, set-append_left, drop-set-add, take-set-le, drop-set-lt, get_or_append_left, length-take-le, take-append-le, drop-append-le, take-append-drop, get_or-append_right, set-append_right, take_more}
use Rattle.std.proofs.lemmas.Option.{slice_get_read}
use Rattle.std.proofs.lemmas.Bool.{cases_lt}
use Rattle.sp_gap.specs.Runs.{HandedOver, exchanged}
use Rattle.sp_gap.specs.Gaps.{IsSlot, turned}
use Rattle.sp_gap.proofs.RunLaws.{slice-parts, take-then-take}

pub turned-length : {X : Type 0} (ring : List X) (behind : ℕ) → behind ≤ length ring → length (turned behind ring) ≡ length ring
turned-length ring behind within = omega (arith, length-append (drop behind ring) (take behind ring), length-drop behind ring, length-take-le behind ring within)

pub turned-item : {X : Type 0} (ring : List X) (count behind place slot : ℕ) (d : X) → count ≡ length ring → behind ≤ count → place < count → IsSlot count behind place slot → get_or (turned behind ring) place d ≡ get_or ring slot d
turned-item ring count behind place slot d count_is within low is =
    let rest : length (drop behind ring) ≡ count - behind = length-drop behind ring ∙ ap (λ n. n - behind) (sym count_is) in
    elim (cases_lt place (count - behind)) [
      | inl before ↦
          get_or_append_left (drop behind ring) (take behind ring) d place (omega (arith, rest, before)) ∙ get_or-drop behind ring place d ∙ ap (λ n. get_or ring n d) (sym (is.before before))
      | inr later ↦
          get_or-append_right (drop behind ring) (take behind ring) (count - behind) place d rest later
          ∙ get_or-take behind ring (place - (count - behind)) d (omega (arith, low, later, within))
          ∙ ap (λ n. get_or ring n d) (sym (is.later later))
    ]

-- The item at a place of the list.
pub slice_get-turned : {X : Type 0} (ring : List X) (count behind place slot : ℕ) (x : X) → count ≡ length ring → behind ≤ count → place < count → IsSlot count behind place slot → x ≡ get_or ring slot x → slice_get (turned behind ring) place ≡ Some x
slice_get-turned ring count behind place slot x count_is within low is read =
    slice_get_read (turned behind ring) count place x (count_is ∙ sym (turned-length ring behind (omega (arith, within, count_is)))) low (read ∙ sym (turned-item ring count behind place slot x count_is within low is))

pub turned-set : {X : Type 0} (ring : List X) (count behind place slot : ℕ) (y : X) → count ≡ length ring → behind ≤ count → place < count → IsSlot count behind place slot → turned behind (set ring slot y) ≡ set (turned behind ring) place y
turned-set ring count behind place slot y count_is within low is =
    let b = take behind ring in
    let f = drop behind ring in
    let b_len : length b ≡ behind = length-take-le behind ring (omega (arith, within, count_is)) in
    let rest : length f ≡ count - behind = length-drop behind ring ∙ ap (λ n. n - behind) (sym count_is) in
    elim (cases_lt place (count - behind)) [
      | inl before ↦
          ap (λ n. turned behind (set ring n y)) (is.before before)
          ∙ ap₂ (λ xs ys. xs ++ ys) (drop-set-add behind ring place y) (take-set-le behind ring (behind + place) y (omega arith))
          ∙ sym (set-append_left f b place y (omega (arith, rest, before)))
      | inr later ↦
          let i = place - (count - behind) in
          let near : i < behind = omega (arith, low, later, within) in
          let inner : set ring i y ≡ set b i y ++ f = ap (λ xs. set xs i y) (sym (take-append-drop behind ring)) ∙ set-append_left b f i y (omega (arith, near, b_len)) in
          ap (λ n. turned behind (set ring n y)) (is.later later)
          ∙ ap₂ (λ xs ys. xs ++ ys) (drop-set-lt behind ring i y near) (ap (take behind) inner ∙ take_at (set b i y) f behind (length-set b i y ∙ b_len))
          ∙ sym (set-append_right f b (count - behind) place y rest later)
    ]

-- The gap goes on over so many items, or back.
pub turned-on : {X : Type 0} (ring now : List X) (count behind next n : ℕ) → count ≡ length ring → behind ≤ count → n ≤ behind → next ≡ behind - n → now ≡ drop n ring ++ take n ring → turned next now ≡ turned behind ring
turned-on ring now count behind next n count_is within few next_is now_is =
    let m = behind - n in
    let r = drop n ring in
    let r_len : length r ≡ length ring - n = length-drop n ring in
    let fits : m ≤ length r = omega (arith, r_len, few, within, count_is) in
    let all : n + m ≡ behind = omega (arith, few) in
    ap₂ (λ k xs. turned k xs) next_is now_is
    ∙ ap₂ (λ xs ys. xs ++ ys) (drop-append-le m r (take n ring) fits) (take-append-le m r (take n ring) fits)
    ∙ append_assoc (drop m r) (take n ring) (take m r)
    ∙ ap₂ (λ xs ys. xs ++ ys) (drop-drop m n ring ∙ ap (λ k. drop k ring) all) (take-then-take n m ring ∙ ap (λ k. take k ring) all)

pub turned-back : {X : Type 0} (ring now : List X) (count behind next n : ℕ) → count ≡ length ring → behind ≤ count → n ≤ count - behind → next ≡ behind + n → now ≡ drop (count - n) ring ++ take (count - n) ring → turned next now ≡ turned behind ring
turned-back ring now count behind next n count_is within few next_is now_is =
    let k = count - n in
    let s = drop k ring in
    let p = take k ring in
    let s_len : length s ≡ n = omega (arith, length-drop k ring, few, within, count_is) in
    let p_len : length p ≡ k = length-take-le k ring (omega (arith, count_is)) in
    let all : next ≡ length s + behind = omega (arith, s_len, next_is) in
    ap₂ (λ i xs. turned i xs) all now_is
    ∙ ap₂ (λ xs ys. xs ++ ys) (drop-append-add s p behind) (take-append-add s p behind ∙ ap (λ xs. s ++ xs) (take-take behind k ring (omega (arith, few, within))))
    ∙ sym (append_assoc (drop behind p) s (take behind ring))
    ∙ ap (λ xs. xs ++ take behind ring) (sym (drop-append-le behind p s (omega (arith, p_len, few, within))) ∙ ap (drop behind) (take-append-drop k ring))

-- One more item of each list went to the other.
pub traded-one : {X : Type 0} (list items list_now items_now list_next items_next : List X) (from k : ℕ) (was come : X) → from + k < length list → k < length items
    → list_now ≡ exchanged list from (from + k) (take k items) → items_now ≡ slice_range list from (from + k) ++ drop k items
    → come ≡ get_or items_now k come → was ≡ get_or list_now (from + k) was → list_next ≡ set list_now (from + k) come → items_next ≡ set items_now k was
    → (list_next ≡ exchanged list from (from + (k + 1)) (take (k + 1) items)) × (items_next ≡ slice_range list from (from + (k + 1)) ++ drop (k + 1) items)
traded-one {X} list items list_now items_now list_next items_next from k was come low few list_is items_is come_is was_is list_set items_set =
    let a = take from list in
    let m = take k items in
    let r = take k (drop from list) in
    let z = drop (from + k + 1) list in
    let y = drop (k + 1) items in
    let x : X = get_or list (from + k) was in
    let c : X = get_or items k come in
    let a_len : length a ≡ from = length-take-le from list (omega (arith, low)) in
    let m_len : length m ≡ k = length-take-le k items (omega (arith, few)) in
    let r_len : length r ≡ k = length-take-le k (drop from list) (omega (arith, length-drop from list, low)) in
    let run : slice_range list from (from + k) ≡ r = ap (λ n. take n (drop from list)) (let same : from + k - from ≡ k = omega arith in same) in
    let am_len : length (a ++ m) ≡ from + k = omega (arith, length-append a m, a_len, m_len) in
    let behind : drop (from + k) list ≡ x ∷ z = drop-cons list (from + k) was low ∙ ap (λ n. x ∷ drop n list) (let same : suc (from + k) ≡ from + k + 1 = omega arith in same) in
    let others : drop k items ≡ c ∷ y = drop-cons items k come few ∙ ap (λ n. c ∷ drop n items) (let same : suc k ≡ k + 1 = omega arith in same) in
    let list_split : list_now ≡ (a ++ m) ++ x ∷ z = list_is ∙ ap (λ xs. a ++ (m ++ xs)) behind ∙ sym (append_assoc a m (x ∷ z)) in
    let items_split : items_now ≡ r ++ c ∷ y = items_is ∙ ap₂ (λ xs ys. xs ++ ys) run others in
    let was_x : was ≡ x = was_is ∙ ap (λ xs. get_or xs (from + k) was) list_split ∙ get_or_at (a ++ m) x z was (from + k) am_len in
    let come_c : come ≡ c = come_is ∙ ap (λ xs. get_or xs k come) items_split ∙ get_or_at r c y come k r_len in
    let more_items : take (k + 1) items ≡ m ++ c ∷ [] = take_more items k come few in
    let next : from + (k + 1) ≡ from + k + 1 = omega arith in
    let more_run : slice_range list from (from + (k + 1)) ≡ r ++ x ∷ [] =
    ap (λ n. take n (drop from list)) (let same : from + (k + 1) - from ≡ k + 1 = omega arith in same)
    ∙ take_more (drop from list) k was (omega (arith, length-drop from list, low)) ∙ ap (λ it. r ++ it ∷ []) (get_or-drop from list k was) in (
      list_set ∙ ap₂ (λ xs it. set xs (from + k) it) list_split come_c ∙ set_at (a ++ m) x z c (from + k) am_len ∙ append_assoc a m (c ∷ z)
          ∙ ap (λ xs. a ++ xs) (sym (append_assoc m (c ∷ []) z) ∙ ap₂ (λ xs n. xs ++ drop n list) (sym more_items) (sym next)),
      items_set ∙ ap₂ (λ xs it. set xs k it) items_split was_x ∙ set_at r c y x k r_len ∙ sym (append_assoc r (x ∷ []) y) ∙ ap (λ xs. xs ++ y) (sym more_run),
    )

-- What an exchange for more items makes behind the gap.
pub more-round : {X : Type 0} (list items traded left ring now out : List X) (from to run behind : ℕ) → from ≤ to → to ≤ length list → run ≡ to - from → run ≤ length items
    → traded ≡ exchanged list from (from + run) (take run items) → left ≡ slice_range list from (from + run) ++ drop run items
    → turned behind ring ≡ traded → length (drop behind ring) ≡ to → behind ≤ length ring
    → now ≡ ring ++ drop run left → out ≡ take run left
    → (turned behind now ≡ exchanged list from to items) × (out ≡ slice_range list from to)
more-round list items traded left ring now out from to run behind order within run_is enough traded_is left_is turned_is ahead_is behind_in now_is out_is =
    let a = take from list in
    let m = take run items in
    let d = drop run items in
    let f = drop behind ring in
    let b = take behind ring in
    let to_is : from + run ≡ to = omega (arith, run_is, order) in
    let a_len : length a ≡ from = length-take-le from list (omega (arith, order, within)) in
    let m_len : length m ≡ run = length-take-le run items enough in
    let am_len : length (a ++ m) ≡ to = omega (arith, length-append a m, a_len, m_len, to_is) in
    let r_is : slice_range list from (from + run) ≡ slice_range list from to = ap (slice_range list from) to_is in
    let r_len : length (slice_range list from to) ≡ run = length-take-le (to - from) (drop from list) (omega (arith, length-drop from list, within)) ∙ sym run_is in
    let parts : left ≡ slice_range list from to ++ d = left_is ∙ ap (λ xs. xs ++ d) r_is in
    let both : f ++ b ≡ (a ++ m) ++ drop to list = turned_is ∙ traded_is ∙ ap (λ n. a ++ (m ++ drop n list)) to_is ∙ sym (append_assoc a m (drop to list)) in
    let f_is : f ≡ a ++ m = sym (take_at f b to ahead_is) ∙ ap (take to) both ∙ take_at (a ++ m) (drop to list) to am_len in
    let b_is : b ≡ drop to list = sym (drop_at f b to ahead_is) ∙ ap (drop to) both ∙ drop_at (a ++ m) (drop to list) to am_len in
    let rest : drop run left ≡ d = ap (drop run) parts ∙ drop_at (slice_range list from to) d run r_len in (
      ap (turned behind) now_is
          ∙ ap₂ (λ xs ys. xs ++ ys) (drop-append-le behind ring (drop run left) behind_in) (take-append-le behind ring (drop run left) behind_in)
          ∙ ap₂ (λ xs ys. xs ++ ys) (ap₂ (λ xs ys. xs ++ ys) f_is rest ∙ append_assoc a m d ∙ ap (λ xs. a ++ xs) (take-append-drop run items)) b_is
          ∙ append_assoc a items (drop to list),
      out_is ∙ ap (take run) parts ∙ take_at (slice_range list from to) d run r_len,
    )

-- What an exchange for fewer items makes.
pub fewer-round : {X : Type 0} (list items traded left ring now out : List X) (from to count behind : ℕ) → from ≤ to → to ≤ length list → count ≡ length items → count ≤ to - from
    → traded ≡ exchanged list from (from + count) items → left ≡ slice_range list from (from + count)
    → turned behind ring ≡ traded → length (drop behind ring) ≡ to → behind ≤ length ring
    → now ≡ take (behind + (from + count)) ring → out ≡ left ++ drop (behind + (from + count)) ring
    → (turned behind now ≡ exchanged list from to items) × (out ≡ slice_range list from to)
fewer-round list items traded left ring now out from to count behind order within count_is few traded_is left_is turned_is ahead_is behind_in now_is out_is =
    let a = take from list in
    let mid = from + count in
    let f = drop behind ring in
    let b = take behind ring in
    let q = slice_range list mid to in
    let a_len : length a ≡ from = length-take-le from list (omega (arith, order, within)) in
    let ai_len : length (a ++ items) ≡ mid = omega (arith, length-append a items, a_len, count_is) in
    let q_len : length q ≡ to - mid = length-take-le (to - mid) (drop mid list) (omega (arith, length-drop mid list, within)) in
    let b_len : length b ≡ behind = length-take-le behind ring behind_in in
    let rest : drop mid list ≡ q ++ drop to list =
    sym (take-append-drop (to - mid) (drop mid list)) ∙ ap (λ xs. q ++ xs) (drop-drop (to - mid) mid list ∙ ap (λ n. drop n list) (let same : mid + (to - mid) ≡ to = omega (arith, few, order) in same)) in
    let both : f ++ b ≡ ((a ++ items) ++ q) ++ drop to list =
    turned_is ∙ traded_is ∙ ap (λ xs. a ++ (items ++ xs)) rest ∙ sym (append_assoc a items (q ++ drop to list)) ∙ sym (append_assoc (a ++ items) q (drop to list)) in
    let all_len : length ((a ++ items) ++ q) ≡ to = omega (arith, length-append (a ++ items) q, ai_len, q_len, few, order) in
    let f_is : f ≡ (a ++ items) ++ q = sym (take_at f b to ahead_is) ∙ ap (take to) both ∙ take_at ((a ++ items) ++ q) (drop to list) to all_len in
    let b_is : b ≡ drop to list = sym (drop_at f b to ahead_is) ∙ ap (drop to) both ∙ drop_at ((a ++ items) ++ q) (drop to list) to all_len in
    let ring_is : ring ≡ (b ++ (a ++ items)) ++ q = sym (take-append-drop behind ring) ∙ ap (λ xs. b ++ xs) f_is ∙ sym (append_assoc b (a ++ items) q) in
    let cut : length (b ++ (a ++ items)) ≡ behind + mid = omega (arith, length-append b (a ++ items), b_len, ai_len) in
    let now_parts : now ≡ b ++ (a ++ items) = now_is ∙ ap (take (behind + mid)) ring_is ∙ take_at (b ++ (a ++ items)) q (behind + mid) cut in (
      ap (turned behind) now_parts
          ∙ ap₂ (λ xs ys. xs ++ ys) (drop_at b (a ++ items) behind b_len) (take_at b (a ++ items) behind b_len ∙ b_is)
          ∙ append_assoc a items (drop to list),
      out_is ∙ ap₂ (λ xs ys. xs ++ ys) left_is (ap (drop (behind + mid)) ring_is ∙ drop_at (b ++ (a ++ items)) q (behind + mid) cut)
          ∙ slice-parts list from mid to (omega arith) (omega (arith, few, order)),
    )

pub HandedOver-one : {X : Type 0} (from to from_now to_now from_next to_next : List X) (count : ℕ) (x : X) → HandedOver from to from_now to_now count → from_now ≡ from_next ++ x ∷ [] → to_next ≡ x ∷ to_now → HandedOver from to from_next to_next (count + 1)
HandedOver-one from to from_now to_now from_next to_next count x handed taken put = record {
  moved = x ∷ handed.moved;
  count_is = omega (arith, handed.count_is);
  taken = handed.taken ∙ ap (λ xs. xs ++ handed.moved) taken ∙ append_assoc from_next (x ∷ []) handed.moved;
  put = put ∙ ap (λ xs. x ∷ xs) handed.put;
}

-- Turned round, so that they come last.
pub handed-behind : {X : Type 0} (from to from_now to_now all : List X) (count len : ℕ) → HandedOver from to from_now to_now count → len ≡ length from → all ≡ drop count to_now ++ take count to_now
    → (from_now ≡ take (len - count) from) × (all ≡ to ++ drop (len - count) from)
handed-behind from to from_now to_now all count len handed len_is all_is =
    let left : length from_now ≡ len - count = omega (arith, ap length handed.taken, length-append from_now handed.moved, handed.count_is, len_is) in (
      sym (ap (take (len - count)) handed.taken ∙ take_at from_now handed.moved (len - count) left),
      all_is
          ∙ ap₂ (λ xs ys. xs ++ ys) (ap (drop count) handed.put ∙ drop_at handed.moved to count handed.count_is) (ap (take count) handed.put ∙ take_at handed.moved to count handed.count_is)
          ∙ ap (λ xs. to ++ xs) (sym (ap (drop (len - count)) handed.taken ∙ drop_at from_now handed.moved (len - count) left)),
    )
