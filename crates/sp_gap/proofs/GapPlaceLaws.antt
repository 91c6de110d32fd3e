-- Places round a gap.
use Rattle.std.proofs.Common.{◌≡◌, ℕ, ◌+◌, ◌-◌, ◌<◌, ◌≤◌, ◌^◌, List, [], ◌∷◌, ◌++◌, All, length, take, drop, map, reverse, slice_range, refl, sym, ap, ap₂, ◌∙◌, arith, append_assoc, length-drop}
use Rattle.std.proofs.Math.Seq.{take-append_seam, drop-append_seam}
use Rattle.std.proofs.lemmas.List.{reverse-append, reverse-reverse, map-append, drop-map, take-map, take-append-le, drop-append-le}
use Rattle.std.proofs.lemmas.List.Elements.{All-nil, All-cons, All-head, All-tail, All-append, All-push, All-map, All-weaker, All-take, All-drop, All-same, All-get_or, All-from_get_or}
use Rattle.std.proofs.lemmas.Simd.{map-map}
use Rattle.sp_gap.specs.Runs.{exchanged}
use Rattle.sp_gap.specs.Moves.{shifted, CanShift}
use Rattle.sp_gap.specs.Gaps.{CanExchangePlaces, mirrored, round_gap, with_places}
use Rattle.sp_gap.proofs.GapLaws.{behind-exchanged}

-- A place goes over the gap: the list read from its side, and read from the other.
pub poured-same : (to from to_next from_next : List ℕ) (place end : ℕ) → from ≡ from_next ++ place ∷ [] → to_next ≡ to ++ (end - place) ∷ [] → round_gap to_next from_next end ≡ round_gap to from end
poured-same to from to_next from_next place end from_is next_is =
    ap (λ xs. round_gap xs from_next end) next_is ∙ append_assoc to ((end - place) ∷ []) (map (mirrored end) (reverse from_next))
    ∙ ap (λ xs. to ++ map (mirrored end) xs) (sym (reverse-append from_next (place ∷ []))) ∙ ap (λ xs. round_gap to xs end) (sym from_is)

pub poured-back : (to from to_next from_next : List ℕ) (place end : ℕ) → place ≤ end → from ≡ from_next ++ place ∷ [] → to_next ≡ to ++ (end - place) ∷ [] → round_gap from_next to_next end ≡ round_gap from to end
poured-back to from to_next from_next place end low from_is next_is =
    let again : end - (end - place) ≡ place = omega (arith, low) in
    ap (λ xs. round_gap from_next xs end) next_is
    ∙ ap (λ xs. from_next ++ map (mirrored end) xs) (reverse-append to ((end - place) ∷ []))
    ∙ ap (λ n. from_next ++ n ∷ map (mirrored end) (reverse to)) again
    ∙ sym (append_assoc from_next (place ∷ []) (map (mirrored end) (reverse to)))
    ∙ ap (λ xs. round_gap xs to end) (sym from_is)

pub All-reverse : {X : Type 0} (P : X → Type 0) (xs : List X) → All P xs → All P (reverse xs)
All-reverse P [] all = All-nil P
All-reverse P (x ∷ xs) all = All-same P (reverse (x ∷ xs)) (reverse xs ++ x ∷ []) (reverse-append (x ∷ []) xs) (All-push P (reverse xs) x (All-reverse P xs (All-tail P x xs all)) (All-head P x xs all))

pub All-turned : {X : Type 0} (P : X → Type 0) (xs : List X) → All P (reverse xs) → All P xs
All-turned P xs all = All-same P xs (reverse (reverse xs)) (sym (reverse-reverse xs)) (All-reverse P (reverse xs) all)

-- What holds of a place wherever it is holds of each.
each : (P : ℕ → Type 0) → ((n : ℕ) → P n) → (xs : List ℕ) → All P xs
each P holds xs = All-from_get_or P xs 0 (λ i inside. holds _)

-- Maps that agree on each place of a list.
same-map : (P : ℕ → Type 0) (f g : ℕ → ℕ) → ((n : ℕ) → P n → f n ≡ g n) → (xs : List ℕ) → All P xs → map f xs ≡ map g xs
same-map P f g same [] all = refl
same-map P f g same (x ∷ xs) all = ap₂ (λ y ys. y ∷ ys) (same x (All-head P x xs all)) (same-map P f g same xs (All-tail P x xs all))

map-stays : (P : ℕ → Type 0) (f : ℕ → ℕ) → ((n : ℕ) → P n → f n ≡ n) → (xs : List ℕ) → All P xs → map f xs ≡ xs
map-stays P f same [] all = refl
map-stays P f same (x ∷ xs) all = ap₂ (λ y ys. y ∷ ys) (same x (All-head P x xs all)) (map-stays P f same xs (All-tail P x xs all))

pub map-slice : (f : ℕ → ℕ) (xs : List ℕ) (from to : ℕ) → slice_range (map f xs) from to ≡ map f (slice_range xs from to)
map-slice f xs from to = ap (take (to - from)) (drop-map f from xs) ∙ take-map f (to - from) (drop from xs)

pub mirrored-low : (end rest : ℕ) → rest ≤ end → (xs : List ℕ) → All (λ place. place ≤ end) (map (mirrored rest) xs)
mirrored-low end rest low xs = All-map (λ place. place ≤ end) (mirrored rest) xs (each (λ n. rest - n ≤ end) (λ n. omega (arith, low)) xs)

-- Places that are from a base on when they count from an end are as much before that end.
pub mirrored-base : (base end : ℕ) (xs : List ℕ) → All (λ place. place ≤ end) xs → All (λ place. base ≤ place) (map (mirrored end) xs) → All (λ place. place ≤ end - base) xs
mirrored-base base end [] low from = All-nil _
mirrored-base base end (x ∷ xs) low from =
    let one : x ≤ end = All-head (λ place. place ≤ end) x xs low in
    let other : base ≤ end - x = All-head (λ place. base ≤ place) (end - x) (map (mirrored end) xs) from in
    All-cons (λ place. place ≤ end - base) x xs (omega (arith, one, other))
    (mirrored-base base end xs (All-tail (λ place. place ≤ end) x xs low) (All-tail (λ place. base ≤ place) (end - x) (map (mirrored end) xs) from))

-- What an exchange behind the gap makes, where places count from an end.
pub traded-back : (places items came now : List ℕ) (end base from to : ℕ) → base ≤ end → All (λ place. place ≤ end - base) items → came ≡ map (mirrored (end - base)) items → now ≡ exchanged places from to came
    → map (mirrored end) now ≡ exchanged (map (mirrored end) places) from to (map (shifted 0 base) items)
traded-back places items came now end base from to base_low low came_is now_is =
    let f = mirrored end in
    let same : map f came ≡ map (shifted 0 base) items =
    ap (map f) came_is ∙ map-map f (mirrored (end - base)) items
    ∙ same-map (λ place. place ≤ end - base) (λ n. end - (end - base - n)) (shifted 0 base) (λ n n_low. omega (arith, n_low, base_low)) items low in
    ap (map f) now_is ∙ map-append f (take from places) (came ++ drop to places) ∙ ap (λ xs. map f (take from places) ++ xs) (map-append f came (drop to places))
    ∙ ap₂ (λ xs ys. xs ++ (map f came ++ ys)) (sym (take-map f from places)) (sym (drop-map f to places))
    ∙ ap (λ xs. take from (map f places) ++ (xs ++ drop to (map f places))) same

pub traded-items : (places : List ℕ) (end base from to : ℕ) → map (mirrored (end - base)) (slice_range places from to) ≡ map (shifted base 0) (slice_range (map (mirrored end) places) from to)
traded-items places end base from to =
    let run = slice_range places from to in
    sym (ap (map (shifted base 0)) (map-slice (mirrored end) places from to) ∙ map-map (shifted base 0) (mirrored end) run
    ∙ same-map (λ n. n ≤ n) (λ n. shifted base 0 (end - n)) (mirrored (end - base)) (λ n it. omega arith) run (each (λ n. n ≤ n) (λ n. omega arith) run))

-- The list with a run of it and what is behind, where the run and what is before it stand before the gap.
pub record BeforeGap (front rest : List ℕ) (from to : ℕ) : Type 0 where
  pub begin : take from (front ++ rest) ≡ take from front
  pub run : slice_range (front ++ rest) from to ≡ slice_range front from to
  pub behind : drop to (front ++ rest) ≡ drop to front ++ rest

pub before-gap : (front rest : List ℕ) (from to : ℕ) → from ≤ to → to ≤ length front → BeforeGap front rest from to
before-gap front rest from to order within =
    let inner : drop from (front ++ rest) ≡ drop from front ++ rest = drop-append-le from front rest (omega (arith, order, within)) in
    record {
      begin = take-append-le from front rest (omega (arith, order, within));
      run = ap (take (to - from)) inner ∙ take-append-le (to - from) (drop from front) rest (omega (arith, length-drop from front, within));
      behind = drop-append-le to front rest within;
    }

-- All places behind the gap move with the end.
pub moved-behind : (back : List ℕ) (end less more : ℕ) → less ≤ end → All (λ place. place ≤ end) back → All (λ place. less ≤ place) (map (mirrored end) (reverse back))
    → map (mirrored (end - less + more)) (reverse back) ≡ map (shifted less more) (map (mirrored end) (reverse back))
moved-behind back end less more low all later =
    let turned = reverse back in
    let near = mirrored-base less end turned (All-reverse (λ place. place ≤ end) back all) later in
    sym (map-map (shifted less more) (mirrored end) turned
    ∙ same-map (λ place. place ≤ end - less) (λ n. shifted less more (end - n)) (mirrored (end - less + more)) (λ n n_low. omega (arith, n_low, low)) turned near)

-- The parts of a list of which something holds.
all-left : (P : ℕ → Type 0) (xs ys : List ℕ) → All P (xs ++ ys) → All P xs
all-left P xs ys all = All-same P xs (take (length xs) (xs ++ ys)) (sym (take-append_seam xs ys)) (All-take P (length xs) (xs ++ ys) all)

all-right : (P : ℕ → Type 0) (xs ys : List ℕ) → All P (xs ++ ys) → All P ys
all-right P xs ys all = All-same P ys (drop (length xs) (xs ++ ys)) (sym (drop-append_seam xs ys)) (All-drop P (length xs) (xs ++ ys) all)

both : (P Q R : ℕ → Type 0) → ((n : ℕ) → P n → Q n → R n) → (xs : List ℕ) → All P xs → All Q xs → All R xs
both P Q R holds xs ps qs = All-from_get_or R xs 0 (λ i inside. holds _ (All-get_or P xs i 0 inside ps) (All-get_or Q xs i 0 inside qs))

pub taken-low : (base less : ℕ) (xs : List ℕ) → All (λ place. place ≤ less) xs → All (λ place. place ≤ less - base) (map (shifted base 0) xs)
taken-low base less xs low = All-map (λ place. place ≤ less - base) (shifted base 0) xs (All-weaker (λ place. place ≤ less) (λ place. shifted base 0 place ≤ less - base) (λ n n_low. omega (arith, n_low)) xs low)

-- An exchange of places behind the gap, where none moves.
module _ (front back : List ℕ) (ahead end from to : ℕ) (ahead_is : ahead ≡ length front) (behind : ahead ≤ from) (order : from ≤ to) where
  abbrev rest : List ℕ
  rest = map (mirrored end) (reverse back)

  pub run-behind : slice_range rest (from - ahead) (to - ahead) ≡ slice_range (round_gap front back end) from to
  run-behind = (behind-exchanged front rest [] (exchanged rest (from - ahead) (to - ahead) []) ahead from to ahead_is behind order refl).1

  pub exchanged-behind : (items now : List ℕ) (base less more others_end : ℕ) → less ≡ more → CanExchangePlaces (round_gap front back end) end from to base less more others_end
      → map (mirrored end) (reverse now) ≡ exchanged rest (from - ahead) (to - ahead) (map (shifted 0 base) items)
      → round_gap front now (end - less + more) ≡ with_places (round_gap front back end) from to items base less more
  exchanged-behind items now base less more others_end same can now_is =
      let all = round_gap front back end in
      let end_is : end - less + more ≡ end = omega (arith, same, can.inside) in
      ap (round_gap front now) end_is
      ∙ (behind-exchanged front rest (map (shifted 0 base) items) (map (mirrored end) (reverse now)) ahead from to ahead_is behind order now_is).0
      ∙ ap (λ xs. take from all ++ (map (shifted 0 base) items ++ xs)) (sym (map-stays (λ place. less ≤ place) (shifted less more) (λ n low. omega (arith, low, same)) (drop to all) can.later))

-- An exchange of places before the gap.
module _ (list front back : List ℕ) (end from to base less more others_end : ℕ) (order : from ≤ to) (within : to ≤ length front) (same : round_gap front back end ≡ list)
    (front_low : All (λ place. place ≤ end) front) (back_low : All (λ place. place ≤ end) back) (can : CanExchangePlaces list end from to base less more others_end) where
  abbrev mirrors : List ℕ
  mirrors = map (mirrored end) (reverse back)

  parts : BeforeGap front mirrors from to
  parts = before-gap front mirrors from to order within

  later : All (λ place. less ≤ place) (drop to front ++ mirrors)
  later = All-same (λ place. less ≤ place) (drop to front ++ mirrors) (drop to list) (sym parts.behind ∙ ap (drop to) same) can.later

  pub run-ahead : slice_range front from to ≡ slice_range list from to
  run-ahead = sym parts.run ∙ ap (λ xs. slice_range xs from to) same

  pub can-go : end < 2 ^ 64 → All (CanShift base 0) (slice_range front from to)
  can-go fits =
      let run = slice_range front from to in
      let inside = can.inside in
      both (λ place. base ≤ place) (λ place. place ≤ less) (CanShift base 0) (λ n low high. record { from = low; fits = omega (arith, high, inside, fits) }) run
      (All-same (λ place. base ≤ place) run (slice_range list from to) run-ahead can.from_base) (All-same (λ place. place ≤ less) run (slice_range list from to) run-ahead can.to_less)

  pub can-move : All (CanShift less more) (drop to front)
  can-move =
      let fits = can.fits in
      both (λ place. less ≤ place) (λ place. place ≤ end) (CanShift less more) (λ n low high. record { from = low; fits = omega (arith, low, high, fits) }) (drop to front)
      (all-left (λ place. less ≤ place) (drop to front) mirrors later) (All-drop (λ place. place ≤ end) to front front_low)

  pub exchanged-ahead : (items now : List ℕ) → now ≡ with_places front from to items base less more → round_gap now back (end - less + more) ≡ with_places list from to items base less more
  exchanged-ahead items now now_is =
      let come = map (shifted 0 base) items in
      let move = shifted less more in
      let behind : drop to list ≡ drop to front ++ mirrors = ap (drop to) (sym same) ∙ parts.behind in
      let begin : take from list ≡ take from front = ap (take from) (sym same) ∙ parts.begin in
      ap₂ (λ xs ys. xs ++ ys) now_is (moved-behind back end less more can.inside back_low (all-right (λ place. less ≤ place) (drop to front) mirrors later))
      ∙ append_assoc (take from front) (come ++ map move (drop to front)) (map move mirrors)
      ∙ ap (λ xs. take from front ++ xs) (append_assoc come (map move (drop to front)) (map move mirrors) ∙ ap (λ xs. come ++ xs) (sym (map-append move (drop to front) mirrors)))
      ∙ sym (ap₂ (λ xs ys. xs ++ (come ++ map move ys)) begin behind)

  pub front-low : (items now : List ℕ) → All (λ place. place ≤ others_end) items → now ≡ with_places front from to items base less more → All (λ place. place ≤ end - less + more) now
  front-low items now low now_is =
      let P = λ (place : ℕ). place ≤ end - less + more in
      let come = can.come in
      let inside = can.inside in
      let above = can.above in
      let begin = All-same (λ place. place ≤ base) (take from front) (take from list) (sym parts.begin ∙ ap (take from) same) can.before in
      All-same P now (with_places front from to items base less more) now_is
      (All-append P (take from front) (map (shifted 0 base) items ++ map (shifted less more) (drop to front))
      (All-weaker (λ place. place ≤ base) P (λ n n_low. omega (arith, n_low, come, inside)) (take from front) begin)
      (All-append P (map (shifted 0 base) items) (map (shifted less more) (drop to front))
      (All-map P (shifted 0 base) items (All-weaker (λ place. place ≤ others_end) (λ place. P (shifted 0 base place)) (λ n n_low. omega (arith, n_low, come, inside)) items low))
      (All-map P (shifted less more) (drop to front)
      (both (λ place. less ≤ place) (λ place. place ≤ end) (λ place. P (shifted less more place)) (λ n n_low n_high. omega (arith, n_low, n_high)) (drop to front)
      (all-left (λ place. less ≤ place) (drop to front) mirrors later) (All-drop (λ place. place ≤ end) to front front_low)))))

  pub back-low : All (λ place. place ≤ end - less + more) back
  back-low =
      let inside = can.inside in
      All-turned (λ place. place ≤ end - less + more) back
      (All-weaker (λ place. place ≤ end - less) (λ place. place ≤ end - less + more) (λ n low. omega (arith, low)) (reverse back)
      (mirrored-base less end (reverse back) (All-reverse (λ place. place ≤ end) back back_low) (all-right (λ place. less ≤ place) (drop to front) mirrors later)))
