-- Locks of scenes, and records of further headings, keep what scene records keep.
use Rattle.std.proofs.Common.{◌≡◌, ℕ, ◌+◌, ◌<◌, ◌≤◌, Option, Some, None, List, ◌++◌, length, get_or, arith}
use Rattle.std.specs.Prelude.{All, IfSome, not, is_some}
use Rattle.std.proofs.lemmas.List.Elements.{All-append, All-filter}
use Rattle.std.proofs.lemmas.List.Sorted.{All-permutation}
use Rattle.spec_labels.specs.Labels.{LabelOf}
use Rattle.spec_labels.specs.Scenes.{HeadingOf, SceneRecordOf, AreHeadings, scene_record_limit, scene_step_limit, unlockable_place, disordered_place, unlocked_labels, locked_labels, locked_records, records_of, new_records, extended_records, line_place}
use Rattle.spec_labels.proofs.SceneRecordLaws.{extended_records-permutation}
use Rattle.spec_labels.proofs.HeadingLabels.{length-unlocked_labels}
use Rattle.spec_labels.proofs.RecordsOf.{lines-All, length-records_of}
use Rattle.spec_labels.proofs.LockedRecords.{locked_records-kept}
use Rattle.spec_labels.proofs.ExtendedRecords.{extended_records-kept}
use Rattle.spec_records.specs.Bounds.{locked_step_limit}
use Rattle.spec_records.specs.Kept.{AreKeptScenes}
use Rattle.spec_records.proofs.BoundLaws.{AreBounded, HasLowSteps, locked_records-Bounded, extended_records-Bounded, IsBounded-weaker}
use Rattle.spec_state.proofs.HeadingLaws.{HasLetters}
use Rattle.spec_state.proofs.SoundLaws.{kept-records}

low-steps : (heading : HeadingOf) → HasLetters heading → HasLowSteps heading
low-steps heading has = record { low = by heading.number has.low }
  where
    by : (number : Option LabelOf) → IfSome number (λ label. All (λ step. step ≤ 24) label.path) → IfSome number (λ label. All (λ step. step ≤ locked_step_limit) label.path)
    by None low = tt
    by (Some it) low = λ k d h. (let l = low k d h in omega (arith, l))

-- Ids of headings are below the next.
pub record AreBelow (next : ℕ) (headings : List HeadingOf) : Type 0 where
  pub all : All (λ (h : HeadingOf). h.id < next) headings

-- The records of a lock.
pub locked-kept : (next steps : ℕ) (headings : List HeadingOf) → AreHeadings headings → All HasLetters headings → AreBelow next headings → unlockable_place headings ≡ None → disordered_place headings ≡ None
    → length headings ≤ scene_record_limit → scene_step_limit ≤ steps → AreKeptScenes next steps (locked_records headings)
locked-kept next steps headings known letters low form order few long =
    let kept = locked_records-kept headings known form order in
    let count : length (locked_records headings) ≡ length headings = length-records_of headings (unlocked_labels headings) (length-unlocked_labels headings) in
    let bounded = locked_records-Bounded headings known (λ k d h. low-steps (get_or headings k d) (letters k d h)) in
    record {
      few = omega (arith, few, count);
      locked = λ k d h. record {
        is_label = kept.labels k d h;
        above = kept.above k d h;
        bounded = IsBounded-weaker (omega (arith, count)) long (bounded.all k d h);
      };
      rising = kept.rising;
      distinct = kept.distinct;
      below = lines-All (λ id. id < next) headings (unlocked_labels headings) low.all;
    }

-- The records of all headings.
pub extended-kept : (next steps longer : ℕ) (records : List SceneRecordOf) (headings : List HeadingOf) → AreKeptScenes next steps records → AreHeadings headings → AreBelow next headings
    → length (extended_records records headings) ≤ scene_record_limit → steps + 1 ≤ longer → AreKeptScenes next longer (extended_records records headings)
extended-kept next steps longer records headings are known low few long =
    let old = kept-records next steps records are in
    let bounded : AreBounded (length (extended_records records headings)) (steps + 1) (extended_records records headings) =
    extended_records-Bounded records headings steps old (record { all = λ k d h. (are.locked k d h).bounded }) few in
    let numbers : All (λ (it : SceneRecordOf). it.label.number ≤ 2000000000) (extended_records records headings) =
    λ k d h. (let b = bounded.all k d h in let n = b.number in omega (arith, n, few)) in
    let kept = extended_records-kept records headings old known numbers in
    let below : All (λ (it : SceneRecordOf). it.line < next) (extended_records records headings) =
    All-permutation (λ (it : SceneRecordOf). it.line < next) (records ++ new_records records headings) (extended_records records headings) (extended_records-permutation records headings)
    (All-append (λ (it : SceneRecordOf). it.line < next) records (new_records records headings) are.below
    (All-filter (λ (new : SceneRecordOf). not (is_some (line_place records new.line))) (λ (it : SceneRecordOf). it.line < next) (records_of headings (locked_labels records headings))
    (lines-All (λ id. id < next) headings (locked_labels records headings) low.all))) in
    record {
      few = few;
      locked = λ k d h. record {
        is_label = kept.labels k d h;
        above = kept.above k d h;
        bounded = IsBounded-weaker (omega arith) long (bounded.all k d h);
      };
      rising = kept.rising;
      distinct = kept.distinct;
      below = below;
    }
