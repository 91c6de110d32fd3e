-- The labels of sheets, each once, and their texts.
use Rattle.std.proofs.Common.{◌≡◌, ℕ, ◌+◌, ◌<◌, Bool, true, false, not, cond, Option, Some, slice_get, List, [], ◌∷◌, ◌++◌, length, map, take, get_or, append-nil, refl, ap, ap₂, sym, ◌∙◌}
use Rattle.std.specs.List.{flat_map, join_by, list_any}
use Rattle.std.proofs.lemmas.List.{map-append, take_more}
use Rattle.std.proofs.lemmas.List.Concat.{flat_map-append}
use Rattle.indexmap.specs.IndexSet.{insert_key}
use Rattle.spec_labels.specs.Labels.{LabelOf, label_text}
use Rattle.spec_cast.specs.Sides.{SaidOf, each_once, label_eq, sheet_of, if_label, sheets_in}
use Rattle.spec_cast.specs.Groups.{with_head}
use Rattle.spec_cast.proofs.Counts.{labels-tell}
use Rattle.spec_cast.proofs.Inserting.{each_once-more}
use Rattle.sp_cast.specs.declared.keys.LabelKey.{LabelKey}
use Rattle.sp_cast.specs.Keys.{label_of}
use Rattle.sp_cast.proofs.KeyLaws.{any-of, insert-of, key_eq}

-- One more speech.
sheets-grown : (all : List SaidOf) (i : ℕ) (item : SaidOf) (label : LabelOf) → i < length all → item ≡ get_or all i item → item.sheet ≡ Some label
    → sheets_in (take (i + 1) all) ≡ insert_key label_eq (sheets_in (take i all)) label
sheets-grown all i item label inside here shown =
    let labels = flat_map if_label (map sheet_of (take i all)) in
    ap sheets_in (take_more all i item inside ∙ ap (λ (x : SaidOf). take i all ++ x ∷ []) (sym here))
    ∙ ap (λ (those : List (Option LabelOf)). each_once label_eq (flat_map if_label those)) (map-append sheet_of (take i all) (item ∷ []))
    ∙ ap (each_once label_eq) (flat_map-append if_label (map sheet_of (take i all)) (item.sheet ∷ []) ∙ ap (λ (it : Option LabelOf). labels ++ (if_label it ++ [])) shown)
    ∙ each_once-more label_eq labels-tell labels label

pub labels-step : (all : List SaidOf) (i : ℕ) (item : SaidOf) (label : LabelOf) (keys more : List LabelKey) (key : LabelKey) → i < length all → item ≡ get_or all i item → item.sheet ≡ Some label → label_of key ≡ label
    → more ≡ insert_key key_eq keys key → map label_of keys ≡ sheets_in (take i all) → map label_of more ≡ sheets_in (take (i + 1) all)
labels-step all i item label keys more key inside here shown is inserted so_far =
    ap (map label_of) inserted ∙ insert-of key_eq label_eq label_of (λ one other. refl) keys key ∙ ap₂ (insert_key label_eq) so_far is ∙ sym (sheets-grown all i item label inside here shown)

-- Its label's text is added where the label is new.
text-if : (labels : List LabelOf) (label : LabelOf) (texts next : List (List ℕ)) (t : Bool) → list_any (label_eq label) labels ≡ t → texts ≡ map label_text labels
    → next ≡ texts ++ cond (not t) (label_text label ∷ []) [] → next ≡ map label_text (cond t labels (labels ++ label ∷ []))
text-if labels label texts next true there so_far is = is ∙ append-nil texts ∙ so_far
text-if labels label texts next false there so_far is = is ∙ ap (λ ts. ts ++ label_text label ∷ []) so_far ∙ sym (map-append label_text labels (label ∷ []))

pub texts-step : (all : List SaidOf) (i : ℕ) (item : SaidOf) (label : LabelOf) (keys : List LabelKey) (key : LabelKey) (texts next : List (List ℕ)) (added : Bool) → i < length all → item ≡ get_or all i item
    → item.sheet ≡ Some label → label_of key ≡ label → added ≡ not (list_any (key_eq key) keys) → map label_of keys ≡ sheets_in (take i all) → texts ≡ map label_text (sheets_in (take i all))
    → next ≡ texts ++ cond added (label_text label ∷ []) [] → next ≡ map label_text (sheets_in (take (i + 1) all))
texts-step all i item label keys key texts next added inside here shown is test labels so_far grown =
    let known : list_any (key_eq key) keys ≡ list_any (label_eq label) (sheets_in (take i all)) =
    any-of key_eq label_eq label_of (λ one other. refl) key keys ∙ ap₂ (λ l ls. list_any (label_eq l) ls) is labels in
    text-if (sheets_in (take i all)) label texts next (list_any (label_eq label) (sheets_in (take i all))) refl so_far
    (grown ∙ ap (λ t. texts ++ cond t (label_text label ∷ []) []) (test ∙ ap not known))
    ∙ sym (ap (map label_text) (sheets-grown all i item label inside here shown))

-- Texts that are joined.
joined-map : {X : Type 0} (f : X → List ℕ) (separator : List ℕ) (xs : List X) → join_by f separator xs ≡ join_by (λ text. text) separator (map f xs)
joined-map f separator [] = refl
joined-map {X = X} f separator (x ∷ xs) = ap (λ rest. f x ++ rest) (later xs)
  where
    later : (ys : List X) → flat_map (λ y. separator ++ f y) ys ≡ flat_map (λ text. separator ++ text) (map f ys)
    later [] = refl
    later (y ∷ ys) = ap (λ rest. (separator ++ f y) ++ rest) (later ys)

pub joined-same : {X Y : Type 0} (f : X → List ℕ) (g : Y → List ℕ) (separator : List ℕ) (xs : List X) (ys : List Y) → map f xs ≡ map g ys → join_by f separator xs ≡ join_by g separator ys
joined-same f g separator xs ys same = joined-map f separator xs ∙ ap (join_by (λ text. text) separator) same ∙ sym (joined-map g separator ys)

-- A group that isn't empty.
pub group-begins : {K : Type 0} (value : SaidOf → K) (made : K → List SaidOf → List ℕ) (group : List SaidOf) (first : SaidOf) → Some first ≡ slice_get group 0 → with_head value made group ≡ made (value first) group
group-begins value made [] first is = cc
group-begins value made (said ∷ group) first is = let same : first ≡ said = cc in ap (λ (it : SaidOf). made (value it) (said ∷ group)) (sym same)
