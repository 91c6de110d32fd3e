-- The labels of headings, as far as they are given out.
use Rattle.std.proofs.Common.{◌≡◌, ℕ, zero, suc, ◌+◌, ◌<◌, List, [], ◌∷◌, ◌++◌, length, get_or, drop, drop-cons, add-one, refl, ap, ap₂, sym, ◌∙◌, append_assoc, append-nil, arith}
use Rattle.std.specs.Prelude.{Option, Some, None, replicate}
use Rattle.spec_labels.specs.Labels.{LabelOf}
use Rattle.spec_labels.specs.Scenes.{HeadingOf, SceneRecordOf, first_place, label_between, labels_since, line_place, locked_labels, record_place, record_places}
use Rattle.spec_labels.proofs.SceneSpots.{label_of}
use Rattle.sp_scenes.specs.NewLabels.{new_labels}

-- One new heading more.
pub new_labels-push : (records : List SceneRecordOf) (place since count m : ℕ) → m ≡ since + count + 1
    → new_labels records place since (suc count) ≡ new_labels records place since count ++ label_between records place m ∷ []
new_labels-push records place since zero m is = ap (λ k. label_between records place k ∷ []) (omega (arith, is))
new_labels-push records place since (suc count) m is =
    ap (λ (ls : List LabelOf). label_between records place (since + 1) ∷ ls) (new_labels-push records place (since + 1) count m (omega (arith, is)))

-- Headings without a record don't change which one comes first.
first_place-waiting : (end count : ℕ) (places : List (Option ℕ)) → first_place end (replicate count None ++ places) ≡ first_place end places
first_place-waiting end zero places = refl
first_place-waiting end (suc count) places = first_place-waiting end count places

-- Headings without a record stand directly before the others.
labels_since-waiting : (records : List SceneRecordOf) (since count : ℕ) (places : List (Option ℕ))
    → labels_since records since (replicate count None ++ places) ≡ new_labels records (first_place (length records) places) since count ++ labels_since records (since + count) places
labels_since-waiting records since zero places = ap (λ k. labels_since records k places) (omega arith)
labels_since-waiting records since (suc count) places =
    let next = first_place (length records) places in
    ap₂ (λ (p : ℕ) (ls : List LabelOf). label_between records p (since + 1) ∷ ls) (first_place-waiting (length records) count places)
    (labels_since-waiting records (since + 1) count places
    ∙ ap (λ k. new_labels records next (since + 1) count ++ labels_since records k places) (omega arith))

waiting-push : (count : ℕ) (places : List (Option ℕ)) → replicate (suc count) None ++ places ≡ replicate count None ++ None ∷ places
waiting-push zero places = refl
waiting-push (suc count) places = ap (λ (ps : List (Option ℕ)). None ∷ ps) (waiting-push count places)

-- The headings from a place on begin with the one there.
record_places-step : (records : List SceneRecordOf) (headings : List HeadingOf) (i : ℕ) (d : HeadingOf) → i < length headings
    → record_places records (drop i headings) ≡ record_place records (get_or headings i d) ∷ record_places records (drop (i + 1) headings)
record_places-step records headings i d within =
    ap (record_places records) (drop-cons headings i d within ∙ ap (λ k. get_or headings i d ∷ drop k headings) (sym (add-one i)))

-- These labels were given out, and so many headings wait for the next record.
pub record Labelled (records : List SceneRecordOf) (headings : List HeadingOf) (labels : List LabelOf) (count i : ℕ) (all : List LabelOf) : Type 0 where
  pub so_far : labels ++ labels_since records 0 (replicate count None ++ record_places records (drop i headings)) ≡ all

pub Labelled-none : (records : List SceneRecordOf) (headings : List HeadingOf) (labels : List LabelOf) → labels ≡ [] → Labelled records headings labels 0 0 (locked_labels records headings)
Labelled-none records headings labels none = record { so_far = ap (λ (ls : List LabelOf). ls ++ locked_labels records headings) none }

pub Labelled-waiting : (records : List SceneRecordOf) (headings : List HeadingOf) (labels labels' : List LabelOf) (count count' i id : ℕ) (all : List LabelOf) (d : HeadingOf) → i < length headings
    → id ≡ (get_or headings i d).id → line_place records id ≡ None → labels' ≡ labels → count' ≡ count + 1
    → Labelled records headings labels count i all → Labelled records headings labels' count' (i + 1) all
Labelled-waiting records headings labels labels' count count' i id all d within here none same more labelled = record {
  so_far =
      let rest = record_places records (drop (i + 1) headings) in
      ap₂ (λ (ls : List LabelOf) (k : ℕ). ls ++ labels_since records 0 (replicate k None ++ rest)) same (more ∙ add-one count)
      ∙ ap (λ (ps : List (Option ℕ)). labels ++ labels_since records 0 ps)
      (waiting-push count rest
      ∙ ap (λ (ps : List (Option ℕ)). replicate count None ++ ps)
      (ap (λ (p : Option ℕ). p ∷ rest) (sym none ∙ ap (line_place records) here) ∙ sym (record_places-step records headings i d within)))
      ∙ labelled.so_far;
}

pub Labelled-recorded : (records : List SceneRecordOf) (headings : List HeadingOf) (labels labels' : List LabelOf) (count count' i id place : ℕ) (all : List LabelOf) (d : HeadingOf) → i < length headings
    → id ≡ (get_or headings i d).id → line_place records id ≡ Some place
    → labels' ≡ (labels ++ new_labels records place 0 count) ++ label_of records place ∷ [] → count' ≡ 0
    → Labelled records headings labels count i all → Labelled records headings labels' count' (i + 1) all
Labelled-recorded records headings labels labels' count count' i id place all d within here found pushed none labelled = record {
  so_far =
      let rest = record_places records (drop (i + 1) headings) in
      let front = new_labels records place 0 count in
      let own = label_of records place in
      ap₂ (λ (ls : List LabelOf) (k : ℕ). ls ++ labels_since records 0 (replicate k None ++ rest)) pushed none
      ∙ append_assoc (labels ++ front) (own ∷ []) (labels_since records 0 rest)
      ∙ append_assoc labels front (own ∷ labels_since records 0 rest)
      ∙ ap (λ (ls : List LabelOf). labels ++ ls)
      (sym (labels_since-waiting records 0 count (Some place ∷ rest))
      ∙ ap (λ (ps : List (Option ℕ)). labels_since records 0 (replicate count None ++ ps))
      (ap (λ (p : Option ℕ). p ∷ rest) (sym found ∙ ap (line_place records) here) ∙ sym (record_places-step records headings i d within)))
      ∙ labelled.so_far;
}

pub Labelled-all : (records : List SceneRecordOf) (headings : List HeadingOf) (labels : List LabelOf) (count i : ℕ) (all : List LabelOf) → drop i headings ≡ []
    → Labelled records headings labels count i all → labels ++ new_labels records (length records) 0 count ≡ all
Labelled-all records headings labels count i all end labelled =
    ap (λ (ls : List LabelOf). labels ++ ls)
    (sym (append-nil (new_labels records (length records) 0 count))
    ∙ sym (labels_since-waiting records 0 count [])
    ∙ ap (λ (hs : List HeadingOf). labels_since records 0 (replicate count None ++ record_places records hs)) (sym end))
    ∙ labelled.so_far
