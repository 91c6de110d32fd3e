-- Headings and their labels, rows and records.
use Rattle.std.proofs.Common.{◌≡◌, ℕ, ◌+◌, Bool, true, false, cond, Option, Some, None, List, [], ◌∷◌, ◌++◌, length, map, filter, refl, ap, ◌∙◌, arith}
use Rattle.std.specs.Prelude.{All, AllPairs, IfSome}
use Rattle.std.proofs.lemmas.List.Elements.{All-nil, All-cons, All-head, All-tail}
use Rattle.std.proofs.lemmas.List.Kept.{AllPairs-filter, AllPairs-cons}
use Rattle.spec_text.proofs.ListLaws.{pairs-head, pairs-tail}
use Rattle.spec_labels.specs.Labels.{LabelOf, Below}
use Rattle.spec_labels.specs.Scenes.{HeadingOf, SceneRecordOf, AreSceneRecords, scene_labels}
use Rattle.spec_labels.proofs.HeadingLabels.{length-unlocked_labels, length-locked_labels}
use Rattle.spec_pages.specs.declared.Shape.{Shape}
use Rattle.spec_pages.specs.Pages.{begins_heading}
use Rattle.spec_machine.specs.Outlines.{heading_rows, is_gone, gone_labels}

-- Each heading has one label.
pub label-count : (headings : List HeadingOf) (scenes : Option (List SceneRecordOf)) → length (scene_labels headings scenes) ≡ length headings
label-count headings None = length-unlocked_labels headings
label-count headings (Some records) = length-locked_labels records headings

-- One more row.
pub heading_rows-push : (row : ℕ) (shapes : List Shape) (shape : Shape) → heading_rows row (shapes ++ shape ∷ []) ≡ heading_rows row shapes ++ cond (begins_heading shape) ((row + length shapes) ∷ []) []
heading_rows-push row [] shape = by (begins_heading shape)
  where
    by : (b : Bool) → cond b (row ∷ []) [] ≡ cond b ((row + 0) ∷ []) []
    by true = ap (λ n. n ∷ []) (omega arith)
    by false = refl
heading_rows-push row (first ∷ shapes) shape =
    by (begins_heading first) (heading_rows-push (row + 1) shapes shape)
    ∙ ap (λ n. heading_rows row (first ∷ shapes) ++ cond (begins_heading shape) (n ∷ []) []) (omega arith)
  where
    behind : List ℕ
    behind = cond (begins_heading shape) ((row + 1 + length shapes) ∷ []) []

    by : (b : Bool) → heading_rows (row + 1) (shapes ++ shape ∷ []) ≡ heading_rows (row + 1) shapes ++ behind
        → cond b (row ∷ heading_rows (row + 1) (shapes ++ shape ∷ [])) (heading_rows (row + 1) (shapes ++ shape ∷ [])) ≡ cond b (row ∷ heading_rows (row + 1) shapes) (heading_rows (row + 1) shapes) ++ behind
    by true rest = ap (λ rows. row ∷ rows) rest
    by false rest = rest

all-mapped : (f : SceneRecordOf → LabelOf) (one : LabelOf) (xs : List SceneRecordOf) → All (λ (it : SceneRecordOf). Below one (f it)) xs → All (Below one) (map f xs)
all-mapped f one [] all = All-nil (Below one)
all-mapped f one (x ∷ xs) all =
    All-cons (Below one) (f x) (map f xs) (All-head (λ (it : SceneRecordOf). Below one (f it)) x xs all) (all-mapped f one xs (All-tail (λ (it : SceneRecordOf). Below one (f it)) x xs all))

mapped : (f : SceneRecordOf → LabelOf) (xs : List SceneRecordOf) → AllPairs (λ (one other : SceneRecordOf). Below (f one) (f other)) xs → AllPairs Below (map f xs)
mapped f [] pairs = λ i j d low below. absurd (omega (arith, below))
mapped f (x ∷ xs) pairs =
    let R : SceneRecordOf → SceneRecordOf → Type 0 = λ one other. Below (f one) (f other) in
    AllPairs-cons Below (f x) (map f xs) (all-mapped f (f x) xs (pairs-head R x xs pairs)) (mapped f xs (pairs-tail R x xs pairs))

-- The labels of scenes that are gone rise.
pub gone-rising : (headings : List HeadingOf) (scenes : Option (List SceneRecordOf)) → IfSome scenes AreSceneRecords → AllPairs Below (gone_labels headings scenes)
gone-rising headings None are = λ i j d low below. absurd (omega (arith, below))
gone-rising headings (Some records) are =
    mapped (λ (it : SceneRecordOf). it.label) (filter (is_gone headings) records) (AllPairs-filter (λ (one other : SceneRecordOf). Below one.label other.label) (is_gone headings) records are.rising)
