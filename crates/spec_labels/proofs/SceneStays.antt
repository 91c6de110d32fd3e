-- Records for all headings leave each heading its label.
use Rattle.std.proofs.Common.{◌≡◌, ◌≢◌, ℕ, zero, suc, ◌+◌, ◌<◌, Bool, true, false, not, ◌==◌, cond, ltb, Option, Some, None, List, [], ◌∷◌, ◌++◌, length, get_or, unwrap_or, inl, inr, refl, sym, ap, ap₂, subst, ◌∙◌, arith}
use Rattle.std.specs.Prelude.{All, AllPairs, filter, option_map, is_some}
use Rattle.std.specs.List.{position_or_len}
use Rattle.std.proofs.lemmas.Bool.{cases_Bool, cases_lt, eq-eqb, eqb-true, ltb-false}
use Rattle.std.proofs.lemmas.List.{length-map, get_or-map, get_or_default}
use Rattle.std.proofs.lemmas.List.Elements.{All-nil, All-cons, All-head, All-tail, All-append, All-filter}
use Rattle.std.proofs.lemmas.List.Quantifiers.{position-Some}
use Rattle.std.proofs.lemmas.List.Sorted.{IsPermutation-sym, All-permutation}
use Rattle.std.proofs.lemmas.List.Sums.{prefix_len_passes}
use Rattle.std.proofs.lemmas.Option.{slice_get-get_or, slice_get_within, get_or_from_slice_get}
use Rattle.spec_labels.specs.Labels.{LabelOf, plain_label}
use Rattle.spec_labels.specs.Scenes.{HeadingOf, SceneRecordOf, AreSceneRecords, AreHeadings, line_place, record_place, record_places, label_at, labels_since, locked_labels, records_of, new_records, extended_records}
use Rattle.spec_labels.proofs.SceneLabels.{record_place-Some}
use Rattle.spec_labels.proofs.HeadingLabels.{length-locked_labels}
use Rattle.spec_labels.proofs.SceneRecordLaws.{records_of-Paired, extended_records-permutation}

abbrev pub no_record : SceneRecordOf
no_record = record { label = plain_label 0; line = 0 }

abbrev pub no_heading : HeadingOf
no_heading = record { place = 0; id = 0; written = false; number = None }

-- The label of a heading that has a record.
since-at : (records : List SceneRecordOf) (since : ℕ) (places : List (Option ℕ)) (k place : ℕ) (d : Option ℕ) (e : LabelOf) → k < length places → get_or places k d ≡ Some place
    → get_or (labels_since records since places) k e ≡ unwrap_or (label_at records place) (plain_label 0)
since-at records since [] k place d e inside is = absurd (omega (arith, inside))
since-at records since (Some p ∷ places) zero place d e inside is = let same : p ≡ place = cc in ap (λ q. unwrap_or (label_at records q) (plain_label 0)) same
since-at records since (None ∷ places) zero place d e inside is = cc
since-at records since (Some p ∷ places) (suc k) place d e inside is = since-at records 0 places k place d e (omega (arith, inside)) is
since-at records since (None ∷ places) (suc k) place d e inside is = since-at records (since + 1) places k place d e (omega (arith, inside)) is

-- All records of a heading's line have its label.
abbrev pub HasLabel : ℕ → LabelOf → SceneRecordOf → Type 0
HasLabel line label it = it.line ≡ line → it.label ≡ label

-- The line's record is found, and has this label.
pub record Found (records : List SceneRecordOf) (line : ℕ) (label : LabelOf) : Type 0 where
  pub place : ℕ
  pub at : line_place records line ≡ Some place
  pub label_is : label_at records place ≡ Some label

position-none : (records : List SceneRecordOf) (line k : ℕ) (d : SceneRecordOf) → line_place records line ≡ None → k < length records → (get_or records k d).line ≢ line
position-none records line k d none inside same =
    elim (cases_Bool (ltb place (length records))) [
      | inl found ↦ let e : Some place ≡ None = sym (ap (λ b. cond b (Some place) None) found) ∙ none in cc
      | inr past ↦
          let within : k < place = omega (arith, inside, ltb-false place (length records) past) in
          let other : not ((get_or records k d).line == line) ≡ true = prefix_len_passes (λ (r : SceneRecordOf). not (r.line == line)) records k d within in
          let no_more : false ≡ true = sym (ap not (eq-eqb (get_or records k d).line line same)) ∙ other in
          cc
    ]
  where
    place : ℕ
    place = position_or_len (λ (r : SceneRecordOf). r.line == line) records

pub found-by : (records : List SceneRecordOf) (line : ℕ) (label : LabelOf) → ((All (λ (it : SceneRecordOf). it.line ≢ line) records) → ⊥) → All (HasLabel line label) records → Found records line label
found-by records line label some all = by (line_place records line) refl
  where
    by : (o : Option ℕ) → line_place records line ≡ o → Found records line label
    by None is = absurd (some (λ k d inside. position-none records line k d is inside))
    by (Some place) is =
        let at = position-Some (λ (it : SceneRecordOf). it.line == line) records place no_record is in
        record {
          place = place;
          at = is;
          label_is = ap (option_map (λ (it : SceneRecordOf). it.label)) (slice_get-get_or records place no_record at.0)
              ∙ ap (λ l. Some l) (all place no_record at.0 (eqb-true (get_or records place no_record).line line at.1));
        }

-- ---- old records and new ones

-- The heading at a place, and its label.
pub record HeadingAt (records : List SceneRecordOf) (headings : List HeadingOf) (k : ℕ) (heading : HeadingOf) (label : LabelOf) : Type 0 where
  pub inside : k < length headings
  pub heading_is : get_or headings k no_heading ≡ heading
  pub label_is : get_or (locked_labels records headings) k (plain_label 0) ≡ label

-- A heading with a record has that record's label.
own-label : (records : List SceneRecordOf) (headings : List HeadingOf) (k place : ℕ) (heading : HeadingOf) (label : LabelOf) → HeadingAt records headings k heading label
    → record_place records heading ≡ Some place → (get_or records place no_record).label ≡ label
own-label records headings k place heading label is at =
    let inside = is.inside in
    let places = record_places records headings in
    let count = length-map headings (record_place records) in
    let there : get_or places k None ≡ Some place =
    get_or-map (record_place records) headings k no_heading None inside ∙ ap (record_place records) is.heading_is ∙ at in
    let found = (record_place-Some records heading place no_record at).0 in
    let label_there : unwrap_or (label_at records place) (plain_label 0) ≡ (get_or records place no_record).label =
    ap (λ o. unwrap_or (option_map (λ (it : SceneRecordOf). it.label) o) (plain_label 0)) (slice_get-get_or records place no_record found) in
    sym label_there ∙ sym (since-at records 0 places k place None (plain_label 0) (omega (arith, inside, count)) there) ∙ is.label_is

-- Two records of one line are the same record.
same-record : (records : List SceneRecordOf) (i j : ℕ) → AllPairs (λ (one other : SceneRecordOf). one.line ≢ other.line) records → i < length records → j < length records
    → (get_or records i no_record).line ≡ (get_or records j no_record).line → i ≡ j
same-record records i j distinct a b same = elim (cases_lt i j) [
  | inl less ↦ absurd (distinct i j no_record less b same)
  | inr more ↦ elim (cases_lt j i) [ inl less ↦ absurd (distinct j i no_record less a (sym same)) | inr le ↦ omega (arith, more, le) ]
]

-- Old records of a heading's line have its label.
old-labels : (records : List SceneRecordOf) (headings : List HeadingOf) (k : ℕ) (heading : HeadingOf) (label : LabelOf) → AreSceneRecords records → HeadingAt records headings k heading label
    → All (HasLabel heading.id label) records
old-labels records headings k heading label are is j d inside same =
    by (record_place records heading) refl
  where
    default : get_or records j d ≡ get_or records j no_record
    default = get_or_default records j d no_record inside

    by : (o : Option ℕ) → record_place records heading ≡ o → (get_or records j d).label ≡ label
    by None none = absurd (position-none records heading.id j d none inside same)
    by (Some place) at =
        let found = record_place-Some records heading place no_record at in
        let e : j ≡ place = same-record records j place are.distinct inside found.0 (sym (ap (λ (r : SceneRecordOf). r.line) default) ∙ same ∙ sym found.1) in
        ap (λ (r : SceneRecordOf). r.label) default ∙ ap (λ n. (get_or records n no_record).label) e ∙ own-label records headings k place heading label is at

-- New records of a heading's line have its label.
pairs-labels : (records : List SceneRecordOf) (headings : List HeadingOf) (k : ℕ) (heading : HeadingOf) (label : LabelOf) → AreHeadings headings → HeadingAt records headings k heading label
    → All (HasLabel heading.id label) (records_of headings (locked_labels records headings))
pairs-labels records headings k heading label known is j d inside same =
    let labels = locked_labels records headings in
    let it = get_or (records_of headings labels) j d in
    let paired = records_of-Paired headings labels j it (slice_get-get_or (records_of headings labels) j d inside) in
    let there = slice_get_within headings j paired.heading paired.there in
    let at_j : get_or headings j no_heading ≡ paired.heading = get_or_from_slice_get headings j paired.heading no_heading paired.there in
    let ids : (get_or headings j no_heading).id ≡ (get_or headings k no_heading).id =
    ap (λ (h : HeadingOf). h.id) at_j ∙ sym paired.line ∙ same ∙ sym (ap (λ (h : HeadingOf). h.id) is.heading_is) in
    let e : j ≡ k = elim (cases_lt j k) [
      | inl less ↦ absurd ((known.distinct) j k no_heading less is.inside ids)
      | inr more ↦ elim (cases_lt k j) [ inl less ↦ absurd ((known.distinct) k j no_heading less there (sym ids)) | inr le ↦ omega (arith, more, le) ]
    ] in
    sym (get_or_from_slice_get labels j it.label (plain_label 0) paired.label) ∙ ap (λ n. get_or labels n (plain_label 0)) e ∙ is.label_is

-- A heading without a record gets one.
pairs-has : (records : List SceneRecordOf) (headings : List HeadingOf) (labels : List LabelOf) (k : ℕ) (heading : HeadingOf) (test : SceneRecordOf → Bool) → k < length headings → length labels ≡ length headings
    → get_or headings k no_heading ≡ heading → ((label : LabelOf) → test (record { label = label; line = heading.id }) ≡ true)
    → All (λ (it : SceneRecordOf). it.line ≢ heading.id) (filter test (records_of headings labels)) → ⊥
pairs-has records [] labels k heading test inside count is passes none = absurd (omega (arith, inside))
pairs-has records (h ∷ headings) [] k heading test inside count is passes none = absurd (omega (arith, count))
pairs-has records (h ∷ headings) (l ∷ labels) zero heading test inside count is passes none =
    let new : SceneRecordOf = record { label = l; line = h.id } in
    let rest = filter test (records_of headings labels) in
    let passed : test new ≡ true = ap (λ (x : HeadingOf). test (record { label = l; line = x.id })) is ∙ passes l in
    let all : All (λ (it : SceneRecordOf). it.line ≢ heading.id) (new ∷ rest) = subst (All (λ (it : SceneRecordOf). it.line ≢ heading.id)) (ap (λ b. cond b (new ∷ rest) rest) passed) none in
    All-head (λ (it : SceneRecordOf). it.line ≢ heading.id) new rest all (ap (λ (x : HeadingOf). x.id) is)
pairs-has records (h ∷ headings) (l ∷ labels) (suc k) heading test inside count is passes none =
    pairs-has records headings labels k heading test (omega (arith, inside)) (omega (arith, count)) is passes (by (test (record { label = l; line = h.id })) none)
  where
    by : (b : Bool) → All (λ (it : SceneRecordOf). it.line ≢ heading.id) (cond b (record { label = l; line = h.id } ∷ filter test (records_of headings labels)) (filter test (records_of headings labels)))
        → All (λ (it : SceneRecordOf). it.line ≢ heading.id) (filter test (records_of headings labels))
    by true all = All-tail (λ (it : SceneRecordOf). it.line ≢ heading.id) (record { label = l; line = h.id }) (filter test (records_of headings labels)) all
    by false all = all

abbrev is_new_line : List SceneRecordOf → SceneRecordOf → Bool
is_new_line records new = not (is_some (line_place records new.line))

-- So each heading has a record with its label in the extended list.
pub extended-found : (records : List SceneRecordOf) (headings : List HeadingOf) (k : ℕ) (heading : HeadingOf) (label : LabelOf) → AreSceneRecords records → AreHeadings headings
    → HeadingAt records headings k heading label → Found (extended_records records headings) heading.id label
extended-found records headings k heading label are known is =
    let news = new_records records headings in
    let permuted = extended_records-permutation records headings in
    let labels = locked_labels records headings in
    let P = λ (it : SceneRecordOf). it.line ≢ heading.id in
    found-by (extended_records records headings) heading.id label
    (λ none. let both = All-permutation P (extended_records records headings) (records ++ news) (IsPermutation-sym (records ++ news) (extended_records records headings) permuted) none in
    missing (front records news both) (back records news both))
    (All-permutation (HasLabel heading.id label) (records ++ news) (extended_records records headings) permuted
    (All-append (HasLabel heading.id label) records news (old-labels records headings k heading label are is)
    (All-filter (is_new_line records) (HasLabel heading.id label) (records_of headings labels) (pairs-labels records headings k heading label known is))))
  where
    front : (xs ys : List SceneRecordOf) → All (λ (it : SceneRecordOf). it.line ≢ heading.id) (xs ++ ys) → All (λ (it : SceneRecordOf). it.line ≢ heading.id) xs
    front [] ys all = All-nil (λ (it : SceneRecordOf). it.line ≢ heading.id)
    front (x ∷ xs) ys all =
        All-cons (λ (it : SceneRecordOf). it.line ≢ heading.id) x xs (All-head (λ (it : SceneRecordOf). it.line ≢ heading.id) x (xs ++ ys) all)
        (front xs ys (All-tail (λ (it : SceneRecordOf). it.line ≢ heading.id) x (xs ++ ys) all))

    back : (xs ys : List SceneRecordOf) → All (λ (it : SceneRecordOf). it.line ≢ heading.id) (xs ++ ys) → All (λ (it : SceneRecordOf). it.line ≢ heading.id) ys
    back [] ys all = all
    back (x ∷ xs) ys all = back xs ys (All-tail (λ (it : SceneRecordOf). it.line ≢ heading.id) x (xs ++ ys) all)

    missing : All (λ (it : SceneRecordOf). it.line ≢ heading.id) records → All (λ (it : SceneRecordOf). it.line ≢ heading.id) (new_records records headings) → ⊥
    missing old new = by (line_place records heading.id) refl
      where
        by : (o : Option ℕ) → line_place records heading.id ≡ o → ⊥
        by (Some place) at = let found = record_place-Some records heading place no_record at in old place no_record found.0 found.1
        by None at =
            pairs-has records headings (locked_labels records headings) k heading (is_new_line records) is.inside (length-locked_labels records headings) is.heading_is
            (λ l. ap (λ (o : Option ℕ). not (is_some o)) at) new

-- Labels where each heading has a record.
labels-found : (records : List SceneRecordOf) (since : ℕ) (headings : List HeadingOf) (labels : List LabelOf) → length labels ≡ length headings
    → ((k : ℕ) → k < length headings → Found records (get_or headings k no_heading).id (get_or labels k (plain_label 0)))
    → labels_since records since (record_places records headings) ≡ labels
labels-found records since [] [] count each = refl
labels-found records since [] (l ∷ labels) count each = absurd (omega (arith, count))
labels-found records since (h ∷ headings) [] count each = absurd (omega (arith, count))
labels-found records since (h ∷ headings) (l ∷ labels) count each =
    let here = each 0 (omega arith) in
    ap (λ o. labels_since records since (o ∷ record_places records headings)) here.at
    ∙ ap₂ (λ o (ls : List LabelOf). unwrap_or o (plain_label 0) ∷ ls) here.label_is
    (labels-found records 0 headings labels (omega (arith, count)) (λ k inside. each (suc k) (omega (arith, inside))))

-- Records for all headings give each heading the label that it had.
pub extended-labels : (records : List SceneRecordOf) (headings : List HeadingOf) → AreSceneRecords records → AreHeadings headings
    → locked_labels (extended_records records headings) headings ≡ locked_labels records headings
extended-labels records headings are known =
    labels-found (extended_records records headings) 0 headings (locked_labels records headings) (length-locked_labels records headings)
    (λ k inside. extended-found records headings k (get_or headings k no_heading) (get_or (locked_labels records headings) k (plain_label 0)) are known
    (record { inside = inside; heading_is = refl; label_is = refl }))
