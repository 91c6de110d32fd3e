-- Extended records keep what records keep.
use Rattle.std.proofs.Common.{◌≡◌, ◌≢◌, ℕ, zero, suc, ◌+◌, ◌<◌, ◌≤◌, ◌==◌, true, false, not, cond, List, [], ◌∷◌, ◌++◌, length, get_or, ⊎_elim, refl, ap, sym, ◌∙◌, subst, eq-eqb, ltb-false, arith}
use Rattle.std.specs.Prelude.{Option, Some, None, All, AllPairs, IsPermutation, filter, is_some, option_map, slice_get, unwrap_or, nat_lt}
use Rattle.std.specs.List.{position_or_len}
use Rattle.std.specs.List.Sorted.{IsSortedBy}
use Rattle.std.proofs.lemmas.Bool.{cases_Bool}
use Rattle.std.proofs.lemmas.List.Elements.{All-nil, All-cons, All-head, All-tail, All-filter, All-append, filter_passes}
use Rattle.std.proofs.lemmas.List.Kept.{AllPairs-filter}
use Rattle.std.proofs.lemmas.List.Sorted.{All-permutation, IsPermutation-sym, IsPermutation-trans}
use Rattle.std.proofs.lemmas.Option.{slice_get_within, get_or_from_slice_get}
use Rattle.std.proofs.lemmas.List.Sums.{prefix_len_passes}
use Rattle.spec_labels.specs.Labels.{LabelOf, IsLabel, plain_label, Below, between}
use Rattle.spec_labels.specs.Scenes.{HeadingOf, SceneRecordOf, AreHeadings, AreSceneRecords, first_place, label_at, label_before, label_between, labels_since, line_place, locked_labels, record_place, record_places, records_of, new_records, extended_records}
use Rattle.spec_labels.proofs.LabelOrder.{Below-transitive}
use Rattle.spec_labels.proofs.SceneLabels.{Within, record_places-Within}
use Rattle.spec_labels.proofs.SceneRecordLaws.{extended_records-permutation, extended_records-rise, all_records-Differ, length-extended_records}
use Rattle.spec_labels.proofs.SceneSpots.{label_of-within, label_between-above}
use Rattle.spec_labels.specs.Scenes.{is_before}
use Rattle.spec_labels.specs.Scenes.{AreWithin}
use Rattle.spec_labels.proofs.Distinct.{Apart, apart-append, apart-permutation, labels-apart, numbers-apart}
use Rattle.spec_labels.proofs.HeadingLabels.{locked_labels-IsLabel, length-locked_labels}
use Rattle.spec_labels.proofs.OneOrder.{one-order, sorted-rises}
use Rattle.spec_labels.proofs.RecordsOf.{labels-All, lines-distinct}

-- The old records and the new ones, sorted, are the extended ones.
pub sorted-extended : (records sorted : List SceneRecordOf) (headings : List HeadingOf) → AreSceneRecords records → AreHeadings headings
    → IsPermutation (records ++ new_records records headings) sorted → IsSortedBy is_before sorted → sorted ≡ extended_records records headings
sorted-extended records sorted headings are known permuted in_order =
    let all = records ++ new_records records headings in
    let extended = extended_records records headings in
    one-order extended sorted
    (IsPermutation-trans extended all sorted (IsPermutation-sym all extended (extended_records-permutation records headings)) permuted)
    (extended_records-rise records headings are known)
    (sorted-rises sorted in_order
    (apart-permutation _ labels-apart (λ (it : SceneRecordOf). it.label) all sorted permuted (all_records-Differ records headings are known)))

-- What holds of all old records and of all locked labels holds of the extended records.
extended-All : (P : SceneRecordOf → Type 0) (records : List SceneRecordOf) (headings : List HeadingOf) → All P records → All P (new_records records headings) → All P (extended_records records headings)
extended-All P records headings old new =
    All-permutation P (records ++ new_records records headings) (extended_records records headings) (extended_records-permutation records headings)
    (All-append P records (new_records records headings) old new)

new-All : (P : LabelOf → Type 0) (records : List SceneRecordOf) (headings : List HeadingOf) → All P (locked_labels records headings) → All (λ (it : SceneRecordOf). P it.label) (new_records records headings)
new-All P records headings all =
    All-filter (λ (new : SceneRecordOf). not (is_some (line_place records new.line))) (λ (it : SceneRecordOf). P it.label) (records_of headings (locked_labels records headings))
    (labels-All P headings (locked_labels records headings) all)

-- All labels are above label 0.
label_before-above : (records : List SceneRecordOf) (place m : ℕ) → AreSceneRecords records → 0 < m → Below (plain_label 0) (label_between records place m)
label_before-above records zero m are some = label_between-above records zero m some
label_before-above records (suc place) m are some = by (slice_get records place) refl
  where
    label_in : Option SceneRecordOf → LabelOf
    label_in o = unwrap_or (option_map (λ (it : SceneRecordOf). it.label) o) (plain_label 0)

    above : Below (label_in (slice_get records place)) (label_between records (suc place) m)
    above = label_between-above records (suc place) m some

    by : (o : Option SceneRecordOf) → slice_get records place ≡ o → Below (plain_label 0) (label_between records (suc place) m)
    by None is = subst (λ o. Below (label_in o) (label_between records (suc place) m)) is above
    by (Some it) is =
        let within : place < length records = slice_get_within records place it is in
        let first : Below (plain_label 0) it.label = subst (λ (r : SceneRecordOf). Below (plain_label 0) r.label) (get_or_from_slice_get records place it it is) (are.above place it within) in
        Below-transitive first (subst (λ o. Below (label_in o) (label_between records (suc place) m)) is above)

labels_since-above : (records : List SceneRecordOf) (since : ℕ) (places : List (Option ℕ)) → AreSceneRecords records → All (Within (length records)) places
    → All (Below (plain_label 0)) (labels_since records since places)
labels_since-above records since [] are within = All-nil (Below (plain_label 0))
labels_since-above records since (Some place ∷ later) are within =
    let d : SceneRecordOf = record { label = plain_label 0; line = 0 } in
    let inside : place < length records = All-head (Within (length records)) (Some place) later within in
    All-cons (Below (plain_label 0)) (unwrap_or (label_at records place) (plain_label 0)) (labels_since records 0 later)
    (subst (Below (plain_label 0)) (sym (label_of-within records place d inside)) (are.above place d inside))
    (labels_since-above records 0 later are (All-tail (Within (length records)) (Some place) later within))
labels_since-above records since (None ∷ later) are within =
    All-cons (Below (plain_label 0)) (label_between records (first_place (length records) later) (since + 1)) (labels_since records (since + 1) later)
    (label_before-above records (first_place (length records) later) (since + 1) are (omega arith))
    (labels_since-above records (since + 1) later are (All-tail (Within (length records)) None later within))

locked_labels-above : (records : List SceneRecordOf) (headings : List HeadingOf) → AreSceneRecords records → All (Below (plain_label 0)) (locked_labels records headings)
locked_labels-above records headings are = labels_since-above records 0 (record_places records headings) are (record_places-Within records headings)

-- How many headings are new. The numbers of the labels pass those of the records by no more.
abbrev pub new_count : List (Option ℕ) → ℕ
new_count [] = 0
new_count (Some place ∷ later) = new_count later
new_count (None ∷ later) = new_count later + 1

abbrev IsLow : ℕ → SceneRecordOf → Type 0
IsLow limit it = it.label.number ≤ limit

label_before-low : (records : List SceneRecordOf) (place limit : ℕ) → All (IsLow limit) records → (label_before records place).number ≤ limit
label_before-low records zero limit low = omega arith
label_before-low records (suc place) limit low = by (slice_get records place) refl
  where
    label_in : Option SceneRecordOf → LabelOf
    label_in o = unwrap_or (option_map (λ (it : SceneRecordOf). it.label) o) (plain_label 0)

    by : (o : Option SceneRecordOf) → slice_get records place ≡ o → (label_in (slice_get records place)).number ≤ limit
    by None is = subst (λ o. (label_in o).number ≤ limit) (sym is) (omega arith)
    by (Some it) is =
        let within : place < length records = slice_get_within records place it is in
        subst (λ o. (label_in o).number ≤ limit) (sym is) (subst (IsLow limit) (get_or_from_slice_get records place it it is) (low place it within))

label_between-low : (records : List SceneRecordOf) (place m limit : ℕ) → All (IsLow limit) records → (label_between records place m).number ≤ limit + m
label_between-low records place m limit low = by (label_at records place)
  where
    first : (label_before records place).number ≤ limit
    first = label_before-low records place limit low

    by : (next : Option LabelOf) → (between (label_before records place) next m).number ≤ limit + m
    by None = omega (arith, first)
    by (Some next) = omega (arith, first)

labels_since-low : (records : List SceneRecordOf) (since : ℕ) (places : List (Option ℕ)) (limit top : ℕ) → All (IsLow limit) records → All (Within (length records)) places
    → limit + since + new_count places ≤ top → All (λ (it : LabelOf). it.number ≤ top) (labels_since records since places)
labels_since-low records since [] limit top low within few = All-nil (λ (it : LabelOf). it.number ≤ top)
labels_since-low records since (Some place ∷ later) limit top low within few =
    let d : SceneRecordOf = record { label = plain_label 0; line = 0 } in
    let inside : place < length records = All-head (Within (length records)) (Some place) later within in
    let here : (get_or records place d).label.number ≤ top = omega (arith, low place d inside, few) in
    All-cons (λ (it : LabelOf). it.number ≤ top) (unwrap_or (label_at records place) (plain_label 0)) (labels_since records 0 later)
    (subst (λ (it : LabelOf). it.number ≤ top) (sym (label_of-within records place d inside)) here)
    (labels_since-low records 0 later limit top low (All-tail (Within (length records)) (Some place) later within) (omega (arith, few)))
labels_since-low records since (None ∷ later) limit top low within few =
    let place = first_place (length records) later in
    All-cons (λ (it : LabelOf). it.number ≤ top) (label_between records place (since + 1)) (labels_since records (since + 1) later)
    (omega (arith, label_between-low records place (since + 1) limit low, few))
    (labels_since-low records (since + 1) later limit top low (All-tail (Within (length records)) None later within) (omega (arith, few)))

length-new : (records : List SceneRecordOf) (headings : List HeadingOf) (labels : List LabelOf) → length labels ≡ length headings
    → length (filter (λ (new : SceneRecordOf). not (is_some (line_place records new.line))) (records_of headings labels)) ≡ new_count (record_places records headings)
length-new records [] labels same = refl
length-new records (heading ∷ headings) [] same = absurd (omega (arith, same))
length-new records (heading ∷ headings) (label ∷ labels) same = by (record_place records heading) (length-new records headings labels (omega (arith, same)))
  where
    rest : List SceneRecordOf
    rest = filter (λ (new : SceneRecordOf). not (is_some (line_place records new.line))) (records_of headings labels)

    by : (place : Option ℕ) → length rest ≡ new_count (record_places records headings)
        → length (cond (not (is_some place)) (record { label = label; line = heading.id } ∷ rest) rest) ≡ new_count (place ∷ record_places records headings)
    by None count = omega (arith, count)
    by (Some place) count = count

pub length-new_records : (records : List SceneRecordOf) (headings : List HeadingOf) → length (new_records records headings) ≡ new_count (record_places records headings)
length-new_records records headings = length-new records headings (locked_labels records headings) (length-locked_labels records headings)

pub extended_records-within : (limit : ℕ) (records : List SceneRecordOf) (headings : List HeadingOf) → AreWithin limit records → AreWithin limit (extended_records records headings)
extended_records-within limit records headings are =
    let top : ℕ = limit + length (extended_records records headings) in
    let count : length (extended_records records headings) ≡ length records + length (new_records records headings) = length-extended_records records headings in
    let new : length (new_records records headings) ≡ new_count (record_places records headings) = length-new_records records headings in
    record {
      low =
          extended-All (IsLow top) records headings
          (λ k d within. let low = are.low k d within in omega (arith, low, count))
          (new-All (λ (it : LabelOf). it.number ≤ top) records headings
          (labels_since-low records 0 (record_places records headings) (limit + length records) top are.low (record_places-Within records headings) (omega (arith, count, new))));
    }

-- So the numbers of few records stay below the greatest one that is recorded.
pub within-low : (records : List SceneRecordOf) → length records ≤ 100000 → AreWithin 999999999 records → All (λ (it : SceneRecordOf). it.label.number ≤ 2000000000) records
within-low records few are = λ k d within. let low = are.low k d within in omega (arith, low, few)

-- A line of a record has a place.
line_place-some : (records : List SceneRecordOf) (line j : ℕ) (d : SceneRecordOf) → j < length records → (get_or records j d).line ≡ line → is_some (line_place records line) ≡ true
line_place-some records line j d within same = ⊎_elim
    (λ found. ap (λ b. is_some (cond b (Some place) None)) found)
    (λ past.
    let lower : j < place = omega (arith, within, ltb-false place (length records) past) in
    let other : not ((get_or records j d).line == line) ≡ true = prefix_len_passes (λ (it : SceneRecordOf). not (it.line == line)) records j d lower in
    let no_more : false ≡ true = sym (ap not (eq-eqb (get_or records j d).line line same)) ∙ other in cc)
    (cases_Bool (nat_lt place (length records)))
  where
    place : ℕ
    place = position_or_len (λ (it : SceneRecordOf). it.line == line) records

extended_records-distinct : (records : List SceneRecordOf) (headings : List HeadingOf) → AreSceneRecords records → AreHeadings headings
    → AllPairs (λ (one other : SceneRecordOf). one.line ≢ other.line) (extended_records records headings)
extended_records-distinct records headings are known =
    let line = λ (it : SceneRecordOf). it.line in
    let is_new = λ (new : SceneRecordOf). not (is_some (line_place records new.line)) in
    let all = records_of headings (locked_labels records headings) in
    apart-permutation _ numbers-apart line (records ++ new_records records headings) (extended_records records headings) (extended_records-permutation records headings)
    (apart-append line records (new_records records headings) are.distinct
    (AllPairs-filter (Apart line) is_new all (lines-distinct headings (locked_labels records headings) known.distinct))
    (λ k d within j e inside same.
    let found : is_some (line_place records (get_or (filter is_new all) k d).line) ≡ true = line_place-some records (get_or (filter is_new all) k d).line j e inside same in
    let no_more : false ≡ true = sym (ap not found) ∙ filter_passes is_new all k d within in cc))

pub extended_records-kept : (records : List SceneRecordOf) (headings : List HeadingOf) → AreSceneRecords records → AreHeadings headings
    → All (λ (it : SceneRecordOf). it.label.number ≤ 2000000000) (extended_records records headings) → AreSceneRecords (extended_records records headings)
extended_records-kept records headings are known low = record {
  labels = extended-All (λ it. IsLabel it.label) records headings are.labels (new-All IsLabel records headings (locked_labels-IsLabel records headings are));
  above = extended-All (λ it. Below (plain_label 0) it.label) records headings are.above (new-All (Below (plain_label 0)) records headings (locked_labels-above records headings are));
  low = low;
  rising = extended_records-rise records headings are known;
  distinct = extended_records-distinct records headings are known;
}
