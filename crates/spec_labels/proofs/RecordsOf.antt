-- Records of headings and labels.
use Rattle.std.proofs.Common.{◌≡◌, ◌≢◌, ℕ, suc, List, [], ◌∷◌, length, refl, ap, arith}
use Rattle.std.specs.Prelude.{All, AllPairs}
use Rattle.std.proofs.lemmas.List.Elements.{All-nil, All-cons, All-head, All-tail}
use Rattle.std.proofs.lemmas.List.Kept.{AllPairs-cons}
use Rattle.spec_text.proofs.ListLaws.{pairs-head, pairs-tail}
use Rattle.spec_labels.specs.Labels.{LabelOf}
use Rattle.spec_labels.specs.Scenes.{HeadingOf, SceneRecordOf, records_of}

-- What holds of all labels holds of the records.
pub labels-All : (P : LabelOf → Type 0) (headings : List HeadingOf) (labels : List LabelOf) → All P labels → All (λ (it : SceneRecordOf). P it.label) (records_of headings labels)
labels-All P [] labels all = All-nil (λ (it : SceneRecordOf). P it.label)
labels-All P (heading ∷ headings) [] all = All-nil (λ (it : SceneRecordOf). P it.label)
labels-All P (heading ∷ headings) (label ∷ labels) all =
    All-cons (λ (it : SceneRecordOf). P it.label) (record { label = label; line = heading.id }) (records_of headings labels)
    (All-head P label labels all) (labels-All P headings labels (All-tail P label labels all))

pub labels-AllPairs : (R : LabelOf → LabelOf → Type 0) (headings : List HeadingOf) (labels : List LabelOf) → AllPairs R labels
    → AllPairs (λ (one other : SceneRecordOf). R one.label other.label) (records_of headings labels)
labels-AllPairs R [] labels pairs = λ i j d less within. absurd (omega (arith, less, within))
labels-AllPairs R (heading ∷ headings) [] pairs = λ i j d less within. absurd (omega (arith, less, within))
labels-AllPairs R (heading ∷ headings) (label ∷ labels) pairs =
    AllPairs-cons (λ (one other : SceneRecordOf). R one.label other.label) (record { label = label; line = heading.id }) (records_of headings labels)
    (labels-All (R label) headings labels (pairs-head R label labels pairs))
    (labels-AllPairs R headings labels (pairs-tail R label labels pairs))

-- What holds of all ids holds of the lines.
pub lines-All : (P : ℕ → Type 0) (headings : List HeadingOf) (labels : List LabelOf) → All (λ (it : HeadingOf). P it.id) headings → All (λ (it : SceneRecordOf). P it.line) (records_of headings labels)
lines-All P [] labels all = All-nil (λ (it : SceneRecordOf). P it.line)
lines-All P (heading ∷ headings) [] all = All-nil (λ (it : SceneRecordOf). P it.line)
lines-All P (heading ∷ headings) (label ∷ labels) all =
    All-cons (λ (it : SceneRecordOf). P it.line) (record { label = label; line = heading.id }) (records_of headings labels)
    (All-head (λ (it : HeadingOf). P it.id) heading headings all) (lines-All P headings labels (All-tail (λ (it : HeadingOf). P it.id) heading headings all))

pub lines-distinct : (headings : List HeadingOf) (labels : List LabelOf) → AllPairs (λ (one other : HeadingOf). one.id ≢ other.id) headings
    → AllPairs (λ (one other : SceneRecordOf). one.line ≢ other.line) (records_of headings labels)
lines-distinct [] labels pairs = λ i j d less within. absurd (omega (arith, less, within))
lines-distinct (heading ∷ headings) [] pairs = λ i j d less within. absurd (omega (arith, less, within))
lines-distinct (heading ∷ headings) (label ∷ labels) pairs =
    AllPairs-cons (λ (one other : SceneRecordOf). one.line ≢ other.line) (record { label = label; line = heading.id }) (records_of headings labels)
    (lines-All (λ line. heading.id ≢ line) headings labels (pairs-head (λ (one other : HeadingOf). one.id ≢ other.id) heading headings pairs))
    (lines-distinct headings labels (pairs-tail (λ (one other : HeadingOf). one.id ≢ other.id) heading headings pairs))

-- There are as many records as headings, where there is a label for each.
pub length-records_of : (headings : List HeadingOf) (labels : List LabelOf) → length labels ≡ length headings → length (records_of headings labels) ≡ length headings
length-records_of [] labels same = refl
length-records_of (heading ∷ headings) [] same = absurd (omega (arith, same))
length-records_of (heading ∷ headings) (label ∷ labels) same = ap suc (length-records_of headings labels (omega (arith, same)))
