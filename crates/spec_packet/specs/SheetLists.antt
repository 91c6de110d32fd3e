-- Printed sheets, and lists of them (docs/RULES.md, "Collation").
use Rattle.std.specs.Prelude.{◌≡◌, ◌⊎◌, ℕ, List, [], ◌∷◌, ◌++◌}
use Rattle.std.specs.List.{flat_map}
use Rattle.spec_labels.specs.Labels.{LabelOf, Below}
use Rattle.spec_sheets.specs.Sheets.{SheetLabelOf}

-- A printed sheet with labels: the first and the last that it stands for, and its bytes.
pub record PrintedOf : Type 0 where
  pub label : SheetLabelOf
  pub bytes : List ℕ

-- A list of sheets: title sheets, which come first and have no label, and the others.
pub record SheetListOf : Type 0 where
  pub titles : List (List ℕ)
  pub labelled : List PrintedOf

abbrev pub bytes_of : PrintedOf → List ℕ
bytes_of sheet = sheet.bytes

-- The bytes of a list of sheets.
abbrev pub list_bytes : SheetListOf → List ℕ
list_bytes sheets = flat_map (λ (title : List ℕ). title) sheets.titles ++ flat_map bytes_of sheets.labelled

-- One of a list.
abbrev pub IsIn : {X : Type 0} → X → List X → Type 0
IsIn it [] = ⊥
IsIn it (one ∷ others) = (one ≡ it) ⊎ IsIn it others

-- Each stands so to each later one.
abbrev pub InOrder : {X : Type 0} → (X → X → Type 0) → List X → Type 0
InOrder R [] = Unit {0}
InOrder {X} R (x ∷ xs) = ((y : X) → IsIn y xs → R x y) × InOrder R xs

-- One label is another one or below it.
abbrev pub UpTo : LabelOf → LabelOf → Type 0
UpTo one other = (one ≡ other) ⊎ Below one other

-- One sheet stands before another: all its labels are below those of the other.
pub record Before (one other : PrintedOf) : Type 0 where
  pub below : Below one.label.last other.label.first

-- Sheets rise: none ends below its first label, and each is behind all of those before it.
pub record AreRising (sheets : List PrintedOf) : Type 0 where
  pub spans : (sheet : PrintedOf) → IsIn sheet sheets → UpTo sheet.label.first sheet.label.last
  pub order : InOrder Before sheets
