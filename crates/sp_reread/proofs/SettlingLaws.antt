-- Which stanzas of a list, and of two piles, settle who spoke before those behind them.
use Rattle.std.proofs.Common.{◌≡◌, ℕ, ◌+◌, ◌-◌, ◌<◌, ◌≤◌, true, false, ◌||◌, List, [], ◌∷◌, ◌++◌, length, map, take, drop, reverse, slice_get, slice_range, IfSome, Option, Some, None, refl, sym, ap, ap₂, ◌∙◌, inl, inr, arith, append_assoc}
use Rattle.std.specs.List.{list_any}
use Rattle.std.proofs.Math.Bool.{or-false}
use Rattle.std.proofs.lemmas.Bool.{cases_Bool, or_from, or_left, or_right}
use Rattle.std.proofs.lemmas.List.{drop_more, drop_at, take_at, take_rest, reverse-append, length-append, length-reverse, length-take, length-drop, take-append-le, drop-append-le, take-map, drop-map}
use Rattle.std.proofs.lemmas.List.Folds.{list_any-append}
use Rattle.std.proofs.lemmas.List.Sorted.{IsPermutation-reverse, list_any-IsPermutation}
use Rattle.std.proofs.lemmas.Option.{slice_get_within, get_or_from_slice_get}
use Rattle.sp_gap.proofs.RunLaws.{in-three, slice-parts}
use Rattle.spec_script.specs.BlockValues.{StanzaOf}
use Rattle.spec_edit.specs.Settling.{IsNextSettling, IsSettledBefore, stanza_settles}
use Rattle.sp_reread.specs.Gaps.{gap_list}

-- The item at a place, and those behind it.
pub drop-at : {X : Type 0} (xs : List X) (i : ℕ) (x : X) → slice_get xs i ≡ Some x → drop i xs ≡ x ∷ drop (i + 1) xs
drop-at {X} xs i x at =
    drop_more xs i x (slice_get_within xs i x at) ∙ ap (λ (it : X). it ∷ drop (i + 1) xs) (get_or_from_slice_get xs i x x at)

-- Whether one of them has a heading or a speech, up to a place and with the next one.
pub settles-none : (stanzas : List StanzaOf) (i : ℕ) → list_any stanza_settles (slice_range stanzas i i) ≡ false
settles-none stanzas i = let none : i - i ≡ 0 = omega arith in ap (λ n. list_any stanza_settles (take n (drop i stanzas))) none

pub settles-split : (stanzas : List StanzaOf) (i j k : ℕ) → i ≤ j → j ≤ k
    → list_any stanza_settles (slice_range stanzas i k) ≡ (list_any stanza_settles (slice_range stanzas i j) || list_any stanza_settles (slice_range stanzas j k))
settles-split stanzas i j k one two =
    ap (list_any stanza_settles) (sym (slice-parts stanzas i j k one two)) ∙ list_any-append stanza_settles (slice_range stanzas i j) (slice_range stanzas j k)

pub settles-one : (stanzas : List StanzaOf) (i : ℕ) (s : StanzaOf) → slice_get stanzas i ≡ Some s → list_any stanza_settles (slice_range stanzas i (i + 1)) ≡ stanza_settles s
settles-one stanzas i s at =
    let one : i + 1 - i ≡ 1 = omega arith in
    let own : slice_range stanzas i (i + 1) ≡ s ∷ [] = ap₂ (λ n (ss : List StanzaOf). take n ss) one (drop-at stanzas i s at) in
    ap (list_any stanza_settles) own ∙ or-false (stanza_settles s)

pub settles-next : (stanzas : List StanzaOf) (i j : ℕ) (s : StanzaOf) → i ≤ j → slice_get stanzas j ≡ Some s
    → list_any stanza_settles (slice_range stanzas i (j + 1)) ≡ (list_any stanza_settles (slice_range stanzas i j) || stanza_settles s)
settles-next stanzas i j s order at = settles-split stanzas i j (j + 1) order (omega arith) ∙ ap (λ b. list_any stanza_settles (slice_range stanzas i j) || b) (settles-one stanzas j s at)

-- A part that has one, within another part, and a part that has none, and parts within it.
pub settles-within : (stanzas : List StanzaOf) (i j k l : ℕ) → i ≤ j → j ≤ k → k ≤ l → list_any stanza_settles (slice_range stanzas j k) ≡ true → list_any stanza_settles (slice_range stanzas i l) ≡ true
settles-within stanzas i j k l one two three is =
    settles-split stanzas i k l (omega (arith, one, two)) three
    ∙ or_left _ (list_any stanza_settles (slice_range stanzas k l))
    (settles-split stanzas i j k one two ∙ or_right (list_any stanza_settles (slice_range stanzas i j)) (list_any stanza_settles (slice_range stanzas j k)) is)

pub none-within : (stanzas : List StanzaOf) (i j k l : ℕ) → i ≤ j → j ≤ k → k ≤ l → list_any stanza_settles (slice_range stanzas i l) ≡ false → list_any stanza_settles (slice_range stanzas j k) ≡ false
none-within stanzas i j k l one two three none = elim (cases_Bool (list_any stanza_settles (slice_range stanzas j k))) [
  | inl some ↦ cc (settles-within stanzas i j k l one two three some)
  | inr is ↦ is
]

pub none-parts : (stanzas : List StanzaOf) (i j k : ℕ) → i ≤ j → j ≤ k → list_any stanza_settles (slice_range stanzas i j) ≡ false → list_any stanza_settles (slice_range stanzas j k) ≡ false
    → list_any stanza_settles (slice_range stanzas i k) ≡ false
none-parts stanzas i j k one two left right = settles-split stanzas i j k one two ∙ or_from _ _ left right

-- The stanza at a place settles it for those round it.
pub settles-in : (stanzas : List StanzaOf) (i j k : ℕ) (s : StanzaOf) → i ≤ j → j < k → slice_get stanzas j ≡ Some s → stanza_settles s ≡ true → list_any stanza_settles (slice_range stanzas i k) ≡ true
settles-in stanzas i j k s low order at is =
    settles-within stanzas i j (j + 1) k low (omega arith) (omega (arith, order)) (settles-one stanzas j s at ∙ is)

pub none-behind : (stanzas : List StanzaOf) (i : ℕ) → list_any stanza_settles (slice_range stanzas i (length stanzas)) ≡ list_any stanza_settles (drop i stanzas)
none-behind stanzas i = ap (list_any stanza_settles) (take_rest stanzas i)

-- What the last one before a place tells of a part that ends there.
pub settled-past : (stanzas : List StanzaOf) (to place from : ℕ) → IsSettledBefore stanzas to place → from < place → list_any stanza_settles (slice_range stanzas from to) ≡ true
settled-past stanzas to place from s past = elim s.settles [
  | inl none ↦ absurd (omega (arith, none, past))
  | inr some ↦ settles-within stanzas from (place - 1) place to (omega (arith, past)) (omega arith) s.within some
]

pub settled-none : (stanzas : List StanzaOf) (to place from : ℕ) → IsSettledBefore stanzas to place → place ≤ from → from ≤ to → list_any stanza_settles (slice_range stanzas from to) ≡ false
settled-none stanzas to place from s low within = none-within stanzas place from to to low within (omega arith) s.last

-- The first stanzas of a list, where others come behind them.
slice-front : (xs ys : List StanzaOf) (i j : ℕ) → i ≤ j → j ≤ length xs → slice_range (xs ++ ys) i j ≡ slice_range xs i j
slice-front xs ys i j order within =
    ap (take (j - i)) (drop-append-le i xs ys (omega (arith, order, within))) ∙ take-append-le (j - i) (drop i xs) ys (omega (arith, length-drop i xs, within))

pub settled-more : (xs ys : List StanzaOf) (to place : ℕ) → to ≤ length xs → IsSettledBefore xs to place → IsSettledBefore (xs ++ ys) to place
settled-more xs ys to place low s = record {
  within = s.within;
  settles = elim s.settles [
    | inl none ↦ inl none
    | inr some ↦ inr (ap (list_any stanza_settles) (slice-front xs ys (place - 1) place (omega arith) (omega (arith, s.within, low))) ∙ some)
  ];
  last = ap (list_any stanza_settles) (slice-front xs ys place to s.within low) ∙ s.last;
}

pub settled-less : (xs ys : List StanzaOf) (to place : ℕ) → to ≤ length xs → IsSettledBefore (xs ++ ys) to place → IsSettledBefore xs to place
settled-less xs ys to place low s = record {
  within = s.within;
  settles = elim s.settles [
    | inl none ↦ inl none
    | inr some ↦ inr (ap (list_any stanza_settles) (sym (slice-front xs ys (place - 1) place (omega arith) (omega (arith, s.within, low)))) ∙ some)
  ];
  last = ap (list_any stanza_settles) (sym (slice-front xs ys place to s.within low)) ∙ s.last;
}

-- One more stanza.
slice-last : (xs : List StanzaOf) (s : StanzaOf) → slice_range (xs ++ s ∷ []) (length xs) (length xs + 1) ≡ s ∷ []
slice-last xs s =
    let one : length xs + 1 - length xs ≡ 1 = omega arith in
    ap₂ (λ n (ss : List StanzaOf). take n ss) one (drop_at xs (s ∷ []) (length xs) refl)

pub settles-push : (xs : List StanzaOf) (s : StanzaOf) → list_any stanza_settles (slice_range (xs ++ s ∷ []) (length xs) (length xs + 1)) ≡ stanza_settles s
settles-push xs s = ap (list_any stanza_settles) (slice-last xs s) ∙ or-false (stanza_settles s)

pub settled-with : (xs : List StanzaOf) (s : StanzaOf) → stanza_settles s ≡ true → IsSettledBefore (xs ++ s ∷ []) (length xs + 1) (length xs + 1)
settled-with xs s is =
    let own : length xs + 1 - 1 ≡ length xs = omega arith in
    record {
      within = omega arith;
      settles = inr (ap (λ n. list_any stanza_settles (slice_range (xs ++ s ∷ []) n (length xs + 1))) own ∙ settles-push xs s ∙ is);
      last = settles-none (xs ++ s ∷ []) (length xs + 1);
    }

pub settled-without : (xs : List StanzaOf) (s : StanzaOf) (place : ℕ) → stanza_settles s ≡ false → IsSettledBefore xs (length xs) place → IsSettledBefore (xs ++ s ∷ []) (length xs + 1) place
settled-without xs s place is old =
    let more = settled-more xs (s ∷ []) (length xs) place (omega arith) old in
    record {
      within = omega (arith, more.within);
      settles = more.settles;
      last = none-parts (xs ++ s ∷ []) place (length xs) (length xs + 1) more.within (omega arith) more.last (settles-push xs s ∙ is);
    }

-- The stanzas behind the gap stand backwards.
pub any-behind : (front back : List StanzaOf) (i j k l : ℕ) → i ≤ j → j ≤ length back → k ≡ length front + (length back - j) → l ≡ length front + (length back - i)
    → list_any stanza_settles (slice_range (gap_list front back) k l) ≡ list_any stanza_settles (slice_range back i j)
any-behind front back i j k l order within k_is l_is =
    let gone = reverse (drop j back) in
    let own = slice_range back i j in
    let rest = reverse (take i back) in
    let turned : reverse back ≡ gone ++ (reverse own ++ rest) =
    ap reverse (in-three back i j order) ∙ reverse-append (take i back) (own ++ drop j back) ∙ ap (λ xs. xs ++ rest) (reverse-append own (drop j back)) ∙ append_assoc gone (reverse own) rest
    in
    let whole : front ++ reverse back ≡ (front ++ gone) ++ (reverse own ++ rest) = ap (λ xs. front ++ xs) turned ∙ sym (append_assoc front gone (reverse own ++ rest)) in
    let many : length own ≡ j - i = omega (arith, length-take (j - i) (drop i back), length-drop i back, within) in
    let before : length (front ++ gone) ≡ k = omega (arith, length-append front gone, length-reverse (drop j back), length-drop j back, k_is) in
    let count : length (reverse own) ≡ l - k = omega (arith, length-reverse own, many, k_is, l_is, within, order) in
    let slice : slice_range (front ++ reverse back) k l ≡ reverse own =
    ap (λ xs. take (l - k) (drop k xs)) whole ∙ ap (take (l - k)) (drop_at (front ++ gone) (reverse own ++ rest) k before) ∙ take_at (reverse own) rest (l - k) count
    in
    ap (list_any stanza_settles) slice ∙ sym (list_any-IsPermutation stanza_settles own (reverse own) (IsPermutation-reverse own))

-- Whether stanzas settle it depends on nothing else of them.
any-flags : (xs ys : List StanzaOf) → map stanza_settles xs ≡ map stanza_settles ys → list_any stanza_settles xs ≡ list_any stanza_settles ys
any-flags xs ys same = any-map xs ∙ ap (list_any (λ b. b)) same ∙ sym (any-map ys)
  where
    any-map : (zs : List StanzaOf) → list_any stanza_settles zs ≡ list_any (λ b. b) (map stanza_settles zs)
    any-map [] = refl
    any-map (z ∷ zs) = ap (λ b. stanza_settles z || b) (any-map zs)

pub any-same : (xs ys : List StanzaOf) (i j : ℕ) → map stanza_settles xs ≡ map stanza_settles ys → list_any stanza_settles (slice_range xs i j) ≡ list_any stanza_settles (slice_range ys i j)
any-same xs ys i j same = any-flags (slice_range xs i j) (slice_range ys i j) (flags xs ∙ ap (λ bs. take (j - i) (drop i bs)) same ∙ sym (flags ys))
  where
    flags : (zs : List StanzaOf) → map stanza_settles (slice_range zs i j) ≡ take (j - i) (drop i (map stanza_settles zs))
    flags zs = sym (take-map stanza_settles (j - i) (drop i zs)) ∙ ap (take (j - i)) (sym (drop-map stanza_settles i zs))

pub settled-same : (xs ys : List StanzaOf) (to place : ℕ) → map stanza_settles xs ≡ map stanza_settles ys → IsSettledBefore xs to place → IsSettledBefore ys to place
settled-same xs ys to place same s = record {
  within = s.within;
  settles = elim s.settles [
    | inl none ↦ inl none
    | inr some ↦ inr (sym (any-same xs ys (place - 1) place same) ∙ some)
  ];
  last = sym (any-same xs ys place to same) ∙ s.last;
}

-- The first one of a part, where all before it have none.
pub settles-here : (stanzas : List StanzaOf) (i j k : ℕ) → i ≤ j → j ≤ k → list_any stanza_settles (slice_range stanzas i j) ≡ false → list_any stanza_settles (slice_range stanzas i k) ≡ true
    → list_any stanza_settles (slice_range stanzas j k) ≡ true
settles-here stanzas i j k one two none some =
    sym (ap (λ b. b || list_any stanza_settles (slice_range stanzas j k)) none) ∙ sym (settles-split stanzas i j k one two) ∙ some

-- What the pile before the gap and the one behind it tell of the stanzas of both.
module _ (front back : List StanzaOf) where
  pub past-gap : (to count next place : ℕ) → length front ≤ to → to ≤ length front + length back → count ≡ length back - (to - length front) → place ≡ length front + (length back - next) → IsNextSettling back count next
      → IsSettledBefore (gap_list front back) to place
  past-gap to count next place behind within count_is place_is n = record {
    within = omega (arith, n.behind, n.within);
    settles = inr (any-behind front back next (next + 1) (place - 1) place (omega arith) (omega (arith, n.within)) (omega (arith, n.within)) place_is ∙ n.settles);
    last = any-behind front back count next place to n.behind (omega (arith, n.within)) place_is (omega arith) ∙ n.first;
  }

  pub none-past-gap : (to count place : ℕ) → length front ≤ to → to ≤ length front + length back → count ≡ length back - (to - length front) → list_any stanza_settles (drop count back) ≡ false
      → IsSettledBefore front (length front) place → IsSettledBefore (gap_list front back) to place
  none-past-gap to count place behind within count_is none old =
      let more = settled-more front (reverse back) (length front) place (omega arith) old in
      let past : list_any stanza_settles (slice_range (gap_list front back) (length front) to) ≡ false =
      any-behind front back count (length back) (length front) to (omega arith) (omega arith) (omega arith) (omega arith) ∙ none-behind back count ∙ none
      in
      record {
        within = omega (arith, more.within);
        settles = more.settles;
        last = none-parts (gap_list front back) place (length front) to more.within behind more.last past;
      }

  pub next-past-gap : (from count settled place : ℕ) → length front ≤ from → from ≤ length front + length back → count ≡ length back - (from - length front) → 0 < settled → place ≡ length front + (length back - settled)
      → IsSettledBefore back count settled → IsNextSettling (gap_list front back) from place
  next-past-gap from count settled place behind within count_is some place_is s =
      let own : list_any stanza_settles (slice_range back (settled - 1) settled) ≡ true = elim s.settles [
        | inl none ↦ absurd (omega (arith, none, some))
        | inr is ↦ is
      ]
      in
      record {
        behind = omega (arith, s.within);
        within = omega (arith, s.within, length-append front (reverse back), length-reverse back);
        settles = any-behind front back (settled - 1) settled place (place + 1) (omega arith) (omega (arith, s.within)) place_is (omega (arith, s.within)) ∙ own;
        first = any-behind front back settled count from place s.within (omega arith) (omega arith) place_is ∙ s.last;
      }

  pub no-next-past-gap : (from count settled : ℕ) → length front ≤ from → from ≤ length front + length back → count ≡ length back - (from - length front) → settled ≡ 0 → IsSettledBefore back count settled
      → list_any stanza_settles (drop from (gap_list front back)) ≡ false
  no-next-past-gap from count settled behind within count_is none s =
      let all : length (gap_list front back) ≡ length front + length back = omega (arith, length-append front (reverse back), length-reverse back) in
      sym (none-behind (gap_list front back) from)
      ∙ any-behind front back settled count from (length (gap_list front back)) s.within (omega arith) (omega arith) (omega (arith, all, none))
      ∙ s.last

  gap-none : (from : ℕ) → from ≤ length front → list_any stanza_settles (drop from front) ≡ false → list_any stanza_settles (slice_range (gap_list front back) from (length front)) ≡ false
  gap-none from low none = ap (list_any stanza_settles) (slice-front front (reverse back) from (length front) low (omega arith)) ∙ none-behind front from ∙ none

  pub next-over-gap : (from : ℕ) (next : Option ℕ) → from ≤ length front → list_any stanza_settles (drop from front) ≡ false → IfSome next (IsNextSettling (gap_list front back) (length front))
      → IfSome next (IsNextSettling (gap_list front back) from)
  next-over-gap from None low none n = tt
  next-over-gap from (Some place) low none n = record {
    behind = omega (arith, n.behind, low);
    within = n.within;
    settles = n.settles;
    first = none-parts (gap_list front back) from (length front) place low n.behind (gap-none from low none) n.first;
  }
