-- The labels of headings are labels.
use Rattle.std.proofs.Common.{◌≡◌, ℕ, suc, ◌+◌, ◌<◌, List, [], ◌∷◌, length, refl, ap, sym, ◌∙◌, subst, arith}
use Rattle.std.specs.Prelude.{Option, Some, None, All, IfSome, unwrap_or}
use Rattle.std.proofs.lemmas.List.{length-map}
use Rattle.std.proofs.lemmas.List.Elements.{All-nil, All-cons, All-head, All-tail}
use Rattle.spec_labels.specs.Labels.{LabelOf, IsLabel, plain_label}
use Rattle.spec_labels.specs.Scenes.{HeadingOf, SceneRecordOf, IsSceneLabel, IsNumbered, AreSceneRecords, first_place, label_at, label_before, labels_since, numbers_after, record_place, record_places, locked_labels, unlocked_labels}
use Rattle.spec_labels.proofs.LabelsBetween.{IsLabel-plain, between-IsLabel}
use Rattle.spec_labels.proofs.SceneSpots.{label_of-within}
use Rattle.spec_labels.proofs.SceneLabels.{Within, record_places-Within}

-- The label of a heading behind a number.
abbrev pub own_label : ℕ → HeadingOf → LabelOf
own_label before heading = unwrap_or heading.number (plain_label (before + 1))

own_label-IsLabel : (before : ℕ) (number : Option LabelOf) → IfSome number IsSceneLabel → IsLabel (unwrap_or number (plain_label (before + 1)))
own_label-IsLabel before None is = IsLabel-plain (before + 1)
own_label-IsLabel before (Some label) is = is.is_label

numbers_after-IsLabel : (before : ℕ) (headings : List HeadingOf) → All IsNumbered headings → All IsLabel (numbers_after before headings)
numbers_after-IsLabel before [] all = All-nil IsLabel
numbers_after-IsLabel before (heading ∷ later) all =
    let own = own_label before heading in
    All-cons IsLabel own (numbers_after own.number later)
    (own_label-IsLabel before heading.number (All-head IsNumbered heading later all).is_label)
    (numbers_after-IsLabel own.number later (All-tail IsNumbered heading later all))

pub unlocked_labels-IsLabel : (headings : List HeadingOf) → All IsNumbered headings → All IsLabel (unlocked_labels headings)
unlocked_labels-IsLabel headings all = numbers_after-IsLabel 0 headings all

labels_since-IsLabel : (records : List SceneRecordOf) (since : ℕ) (places : List (Option ℕ)) → AreSceneRecords records → All (Within (length records)) places
    → All IsLabel (labels_since records since places)
labels_since-IsLabel records since [] are within = All-nil IsLabel
labels_since-IsLabel records since (Some place ∷ later) are within =
    let d : SceneRecordOf = record { label = plain_label 0; line = 0 } in
    let inside : place < length records = All-head (Within (length records)) (Some place) later within in
    All-cons IsLabel (unwrap_or (label_at records place) (plain_label 0)) (labels_since records 0 later)
    (subst IsLabel (sym (label_of-within records place d inside)) (are.labels place d inside))
    (labels_since-IsLabel records 0 later are (All-tail (Within (length records)) (Some place) later within))
labels_since-IsLabel records since (None ∷ later) are within =
    let place = first_place (length records) later in
    All-cons IsLabel _ (labels_since records (since + 1) later)
    (between-IsLabel (label_before records place) (label_at records place) (since + 1) (omega arith))
    (labels_since-IsLabel records (since + 1) later are (All-tail (Within (length records)) None later within))

pub locked_labels-IsLabel : (records : List SceneRecordOf) (headings : List HeadingOf) → AreSceneRecords records → All IsLabel (locked_labels records headings)
locked_labels-IsLabel records headings are = labels_since-IsLabel records 0 (record_places records headings) are (record_places-Within records headings)

-- There is a label for each heading.
length-numbers_after : (before : ℕ) (headings : List HeadingOf) → length (numbers_after before headings) ≡ length headings
length-numbers_after before [] = refl
length-numbers_after before (heading ∷ later) = ap suc (length-numbers_after (own_label before heading).number later)

pub length-unlocked_labels : (headings : List HeadingOf) → length (unlocked_labels headings) ≡ length headings
length-unlocked_labels headings = length-numbers_after 0 headings

pub length-labels_since : (records : List SceneRecordOf) (since : ℕ) (places : List (Option ℕ)) → length (labels_since records since places) ≡ length places
length-labels_since records since [] = refl
length-labels_since records since (Some place ∷ later) = ap suc (length-labels_since records 0 later)
length-labels_since records since (None ∷ later) = ap suc (length-labels_since records (since + 1) later)

pub length-locked_labels : (records : List SceneRecordOf) (headings : List HeadingOf) → length (locked_labels records headings) ≡ length headings
length-locked_labels records headings = length-labels_since records 0 (record_places records headings) ∙ length-map headings (record_place records)
