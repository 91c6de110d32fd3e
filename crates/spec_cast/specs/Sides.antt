-- Cast sides (docs/RULES.md, "Cast sides").
use Rattle.std.specs.Prelude.{ℕ, ◌==◌, ◌&&◌, not, nat_eq, bytes_eq, Bool, true, false, Option, None, Some, List, [], ◌∷◌, ◌++◌, length, map, filter, sum_by, codes, decimal}
use Rattle.std.specs.List.{flat_map, join_by}
use Rattle.std.specs.Cmp.Lexicographic.{pointwise}
use Rattle.spec_labels.specs.Labels.{LabelOf, label_text}

-- A speech: the name of its speaker, its scene where it has one, and the first label of the sheet that it begins on, where it
-- begins on one.
pub record SaidOf : Type 0 where
  pub name : List ℕ
  pub scene : Option LabelOf
  pub sheet : Option LabelOf

abbrev pub name_of : SaidOf → List ℕ
name_of said = said.name

abbrev pub scene_of : SaidOf → Option LabelOf
scene_of said = said.scene

abbrev pub sheet_of : SaidOf → Option LabelOf
sheet_of said = said.sheet

-- A label, where there is one.
abbrev pub if_label : Option LabelOf → List LabelOf
if_label None = []
if_label (Some it) = it ∷ []

abbrev pub label_eq : LabelOf → LabelOf → Bool
label_eq one other = (one.number == other.number) && pointwise nat_eq one.path other.path

abbrev pub scene_eq : Option LabelOf → Option LabelOf → Bool
scene_eq None None = true
scene_eq None (Some other) = false
scene_eq (Some one) None = false
scene_eq (Some one) (Some other) = label_eq one other

-- Each value once, in order of its first place.
abbrev pub each_once : {X : Type 0} → (X → X → Bool) → List X → List X
each_once same [] = []
each_once same (x ∷ xs) = x ∷ filter (λ y. not (same x y)) (each_once same xs)

-- The speeches with a value, in order.
abbrev pub with_value : {X : Type 0} → (X → X → Bool) → (SaidOf → X) → List SaidOf → X → List SaidOf
with_value same value all x = filter (λ said. same x (value said)) all

-- The names in order of first speech, and the scenes and sheets of some speeches likewise.
abbrev pub names_in : List SaidOf → List (List ℕ)
names_in all = each_once bytes_eq (map name_of all)

abbrev pub scenes_in : List SaidOf → List (Option LabelOf)
scenes_in all = each_once scene_eq (map scene_of all)

abbrev pub sheets_in : List SaidOf → List LabelOf
sheets_in all = each_once label_eq (flat_map if_label (map sheet_of all))

abbrev pub spoken_by : List SaidOf → List ℕ → List SaidOf
spoken_by all name = with_value bytes_eq name_of all name

abbrev pub spoken_in : List SaidOf → Option LabelOf → List SaidOf
spoken_in all scene = with_value scene_eq scene_of all scene

abbrev pub scene_text : Option LabelOf → List ℕ
scene_text None = codes "-"
scene_text (Some it) = label_text it

-- Labels joined by `, `.
abbrev pub joined_labels : List LabelOf → List ℕ
joined_labels labels = join_by label_text (codes ", ") labels

-- A scene of a side by the speeches of the name there: its label, their number, and the labels of their sheets.
abbrev pub scene_bytes : Option LabelOf → List SaidOf → List ℕ
scene_bytes scene there = codes "\t" ++ (scene_text scene ++ (codes "\t" ++ (decimal (length there) ++ (codes "\t" ++ (joined_labels (sheets_in there) ++ codes "\n")))))

-- A side by the speeches of its name: the name, and the scenes in which it speaks.
abbrev pub side_bytes : List ℕ → List SaidOf → List ℕ
side_bytes name spoken = name ++ (codes "\n" ++ flat_map (λ scene. scene_bytes scene (spoken_in spoken scene)) (scenes_in spoken))

-- The sides of all names.
abbrev pub sides_of : List SaidOf → List ℕ
sides_of all = flat_map (λ name. side_bytes name (spoken_by all name)) (names_in all)

-- The numbers of speeches of a name, scene by scene, added up, and those of all names.
abbrev pub side_count : List SaidOf → ℕ
side_count spoken = sum_by (λ scene. length (spoken_in spoken scene)) (scenes_in spoken)

abbrev pub sides_count : List SaidOf → ℕ
sides_count all = sum_by (λ name. side_count (spoken_by all name)) (names_in all)
