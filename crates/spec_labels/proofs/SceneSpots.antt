-- Where the labels of headings stand among the records, so that no label is given twice.
use Rattle.std.proofs.Common.{◌≡◌, ℕ, zero, suc, ◌+◌, ◌<◌, ◌≤◌, ◌⊎◌, true, false, List, [], ◌∷◌, length, map, get_or, ltb-true, ltb-false, inl, inr, ⊎_elim, refl, ap, ap₂, sym, ◌∙◌, subst, arith}
use Rattle.std.specs.Prelude.{Option, Some, None, nat_lt, unwrap_or, option_map}
use Rattle.std.proofs.lemmas.Bool.{cases_Bool}
use Rattle.std.proofs.lemmas.Option.{slice_get-get_or}
use Rattle.spec_labels.specs.Labels.{LabelOf, plain_label, IsLabel, Below, between}
use Rattle.spec_labels.specs.Scenes.{SceneRecordOf, AreSceneRecords, first_place, label_at, label_before, label_between, labels_since}
use Rattle.spec_labels.proofs.LabelOrder.{Below-irreflexive, Below-transitive}
use Rattle.spec_labels.proofs.LabelsBetween.{between-above, between-below, between-rises}

-- The label of the record at a place.
abbrev pub label_of : List SceneRecordOf → ℕ → LabelOf
label_of records place = unwrap_or (label_at records place) (plain_label 0)

-- What stands at a place of the list.
pub label_at-within : (records : List SceneRecordOf) (place : ℕ) (d : SceneRecordOf) → place < length records → label_at records place ≡ Some (get_or records place d).label
label_at-within records place d within = ap (option_map (λ (it : SceneRecordOf). it.label)) (slice_get-get_or records place d within)

pub label_of-within : (records : List SceneRecordOf) (place : ℕ) (d : SceneRecordOf) → place < length records → label_of records place ≡ (get_or records place d).label
label_of-within records place d within = ap (λ o. unwrap_or o (plain_label 0)) (label_at-within records place d within)

pub label_at-is : (records : List SceneRecordOf) (place : ℕ) → place < length records → label_at records place ≡ Some (label_of records place)
label_at-is records place within =
    let d : SceneRecordOf = record { label = plain_label 0; line = 0 } in
    label_at-within records place d within ∙ ap (λ (it : LabelOf). Some it) (sym (label_of-within records place d within))

-- The labels of records rise.
pub label_of-rises : (records : List SceneRecordOf) (low high : ℕ) → AreSceneRecords records → low < high → high < length records → Below (label_of records low) (label_of records high)
label_of-rises records low high are less within =
    let d : SceneRecordOf = record { label = plain_label 0; line = 0 } in
    let P : LabelOf → LabelOf → Type 0 = λ a b. Below a b in
    subst (λ a. P a (label_of records high)) (sym (label_of-within records low d (omega arith)))
    (subst (λ b. P (get_or records low d).label b) (sym (label_of-within records high d within)) (are.rising low high d less within))

pub label_before-below : (records : List SceneRecordOf) (place : ℕ) → AreSceneRecords records → place < length records → Below (label_before records place) (label_of records place)
label_before-below records zero are within =
    let d : SceneRecordOf = record { label = plain_label 0; line = 0 } in
    subst (λ b. Below (plain_label 0) b) (sym (label_of-within records 0 d within)) (are.above 0 d within)
label_before-below records (suc place) are within = label_of-rises records place (suc place) are (omega arith) within

-- A label between is above the record before its place, below the record there, and rises.
pub label_between-above : (records : List SceneRecordOf) (place m : ℕ) → 0 < m → Below (label_before records place) (label_between records place m)
label_between-above records place m some = between-above (label_before records place) (label_at records place) m some

pub label_between-below : (records : List SceneRecordOf) (place m : ℕ) → AreSceneRecords records → place < length records → Below (label_between records place m) (label_of records place)
label_between-below records place m are within =
    let d : SceneRecordOf = record { label = plain_label 0; line = 0 } in
    let is_label : IsLabel (label_of records place) = subst IsLabel (sym (label_of-within records place d within)) (are.labels place d within) in
    subst (λ next. Below (between (label_before records place) next m) (label_of records place)) (sym (label_at-is records place within))
    (between-below (label_before records place) (label_of records place) m (label_before-below records place are within) is_label)

pub label_between-rises : (records : List SceneRecordOf) (place m n : ℕ) → m < n → Below (label_between records place m) (label_between records place n)
label_between-rises records place m n less = between-rises (label_before records place) (label_at records place) m n less

-- Where a label stands: it is that of the record at a place, or the m-th before it.
pub data Spot : Type 0 where
  at : ℕ → Spot
  before : ℕ → ℕ → Spot

abbrev pub place_of : Spot → ℕ
place_of (at place) = place
place_of (before place m) = place

abbrev pub spot_label : List SceneRecordOf → Spot → LabelOf
spot_label records (at place) = label_of records place
spot_label records (before place m) = label_between records place m

-- Spots at records, and counted ones before records or the end.
abbrev pub IsSpot : ℕ → Spot → Type 0
IsSpot end (at place) = place < end
IsSpot end (before place m) = (place ≤ end) × (0 < m)

-- The spots of the labels of headings.
abbrev pub spots_since : ℕ → ℕ → List (Option ℕ) → List Spot
spots_since end since [] = []
spots_since end since (Some place ∷ later) = at place ∷ spots_since end 0 later
spots_since end since (None ∷ later) = before (first_place end later) (since + 1) ∷ spots_since end (since + 1) later

pub labels-spots : (records : List SceneRecordOf) (since : ℕ) (places : List (Option ℕ)) → labels_since records since places ≡ map (spot_label records) (spots_since (length records) since places)
labels-spots records since [] = refl
labels-spots records since (Some place ∷ later) = ap (λ (ls : List LabelOf). label_of records place ∷ ls) (labels-spots records 0 later)
labels-spots records since (None ∷ later) = ap (λ (ls : List LabelOf). label_between records (first_place (length records) later) (since + 1) ∷ ls) (labels-spots records (since + 1) later)

-- Two places in order are one, or the first is lower.
same-or-lower : (a b : ℕ) → a ≤ b → (a ≡ b) ⊎ (a < b)
same-or-lower a b upto = ⊎_elim (λ less. inr (ltb-true a b less)) (λ past. inl (omega (arith, upto, ltb-false a b past))) (cases_Bool (nat_lt a b))

-- A label at a lower place is at most that of the record there.
at_most : (records : List SceneRecordOf) (spot : Spot) → AreSceneRecords records → IsSpot (length records) spot → place_of spot < length records
    → (spot_label records spot ≡ label_of records (place_of spot)) ⊎ Below (spot_label records spot) (label_of records (place_of spot))
at_most records (at place) are is within = inl refl
at_most records (before place m) are is within = inr (label_between-below records place m are within)

-- A label is above the record directly before its place.
above_before : (records : List SceneRecordOf) (spot : Spot) → AreSceneRecords records → IsSpot (length records) spot → Below (label_before records (place_of spot)) (spot_label records spot)
above_before records (at place) are is = label_before-below records place are is
above_before records (before place m) are is = label_between-above records place m is.1

-- So labels rise with their places.
spots-rise : (records : List SceneRecordOf) (low high : Spot) → AreSceneRecords records → IsSpot (length records) low → IsSpot (length records) high
    → place_of low < place_of high → place_of high ≤ length records → Below (spot_label records low) (spot_label records high)
spots-rise records low high are is is' less within = by (place_of high) refl less within (above_before records high are is')
  where
    to : (place : ℕ) → place_of low ≤ place → place < length records → Below (label_of records place) (spot_label records high) → Below (spot_label records low) (spot_label records high)
    to place upto inside above =
        let here : Below (label_of records (place_of low)) (spot_label records high) = ⊎_elim
        (λ (same : place_of low ≡ place). subst (λ p. Below (label_of records p) (spot_label records high)) (sym same) above)
        (λ (lower : place_of low < place). Below-transitive (label_of-rises records (place_of low) place are lower inside) above)
        (same-or-lower (place_of low) place upto) in
        ⊎_elim
        (λ same. subst (λ l. Below l (spot_label records high)) (sym same) here)
        (λ lower. Below-transitive lower here)
        (at_most records low are is (omega arith))

    by : (place : ℕ) → place_of high ≡ place → place_of low < place → place ≤ length records → Below (label_before records place) (spot_label records high) → Below (spot_label records low) (spot_label records high)
    by zero same lower inside above = absurd (omega (arith, lower))
    by (suc place) same lower inside above = to place (omega (arith, lower)) (omega (arith, inside)) above

-- No label stands at two spots.
pub spot_label-injective : (records : List SceneRecordOf) (one other : Spot) → AreSceneRecords records → IsSpot (length records) one → IsSpot (length records) other
    → spot_label records one ≡ spot_label records other → one ≡ other
spot_label-injective records one other are is is' same = ⊎_elim lower not_lower (cases_Bool (nat_lt (place_of one) (place_of other)))
  where
    end : (spot : Spot) → IsSpot (length records) spot → place_of spot ≤ length records
    end (at place) within = omega (arith, within)
    end (before place m) within = within.0

    apart : Below (spot_label records one) (spot_label records other) → one ≡ other
    apart below = absurd (Below-irreflexive (spot_label records other) (subst (λ l. Below l (spot_label records other)) same below))

    apart' : Below (spot_label records other) (spot_label records one) → one ≡ other
    apart' below = absurd (Below-irreflexive (spot_label records other) (subst (λ l. Below (spot_label records other) l) same below))

    lower : nat_lt (place_of one) (place_of other) ≡ true → one ≡ other
    lower less = apart (spots-rise records one other are is is' (ltb-true (place_of one) (place_of other) less) (end other is'))

    at_one : (a b : Spot) → IsSpot (length records) a → IsSpot (length records) b → place_of a ≡ place_of b
        → (Below (spot_label records a) (spot_label records b) → one ≡ other) → (Below (spot_label records b) (spot_label records a) → one ≡ other)
        → (a ≡ b → one ≡ other) → one ≡ other
    at_one (at p) (at q) a b place up down equal = equal (ap at place)
    at_one (at p) (before q m) a b place up down equal =
        down (subst (λ k. Below (label_between records q m) (label_of records k)) (sym place) (label_between-below records q m are (omega (arith, place, a))))
    at_one (before p m) (at q) a b place up down equal =
        up (subst (λ k. Below (label_between records p m) (label_of records k)) place (label_between-below records p m are (omega (arith, place, b))))
    at_one (before p m) (before q n) a b place up down equal =
        ⊎_elim
        (λ less. up (subst (λ k. Below (label_between records p m) (label_between records k n)) place (label_between-rises records p m n (ltb-true m n less))))
        (λ not_less. ⊎_elim
        (λ is. equal (ap₂ before place is))
        (λ more. down (subst (λ k. Below (label_between records k n) (label_between records p m)) place (label_between-rises records p n m more)))
        (same-or-other m n (ltb-false m n not_less)))
        (cases_Bool (nat_lt m n))
      where
        same-or-other : (m n : ℕ) → n ≤ m → (m ≡ n) ⊎ (n < m)
        same-or-other m n upto = ⊎_elim (λ e. inl (sym e)) (λ less. inr less) (same-or-lower n m upto)

    not_lower : nat_lt (place_of one) (place_of other) ≡ false → one ≡ other
    not_lower past = ⊎_elim
        (λ place. at_one one other is is' (sym place) apart apart' (λ e. e))
        (λ less. apart' (spots-rise records other one are is' is less (end one is)))
        (same-or-lower (place_of other) (place_of one) (ltb-false (place_of one) (place_of other) past))
