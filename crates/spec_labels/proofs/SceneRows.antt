-- Telling headings and their labels (docs/RULES.md, "Scene numbers").
use Rattle.std.proofs.Common.{◌≡◌, ℕ, ◌+◌, true, false, List, [], ◌∷◌, Some, None, map, refl}
use Rattle.std.specs.Prelude.{codes}
use Rattle.std.specs.Fmt.{digits}
use Rattle.spec_labels.specs.Labels.{LabelOf, plain_label, label_text}
use Rattle.spec_labels.specs.Scenes.{HeadingOf, SceneRecordOf, unlocked_labels, locked_labels, unlockable_place, disordered_place, extended_records}

-- Headings without a written number, with a label, and with something that is no label. The id of a heading's line is 100 more than its place.
abbrev plain : ℕ → HeadingOf
plain place = record { place = place; id = 100 + place; written = false; number = None }

abbrev numbered : ℕ → LabelOf → HeadingOf
numbered place label = record { place = place; id = 100 + place; written = true; number = Some label }

abbrev misnumbered : ℕ → HeadingOf
misnumbered place = record { place = place; id = 100 + place; written = true; number = None }

abbrev label : ℕ → List ℕ → LabelOf
label number path = record { number = number; path = path }

abbrev recorded : LabelOf → ℕ → SceneRecordOf
recorded label place = record { label = label; line = 100 + place }

abbrev texts : List LabelOf → List (List ℕ)
texts labels = map label_text labels

-- Without records: 1, 2; the number after a written label; a written label again.
pub unlocked_row : texts (unlocked_labels (plain 0 ∷ plain 2 ∷ numbered 4 (label 5 (1 ∷ [])) ∷ plain 6 ∷ misnumbered 8 ∷ numbered 9 (plain_label 6) ∷ []))
    ≡ codes "1" ∷ codes "2" ∷ codes "5A" ∷ codes "6" ∷ codes "7" ∷ codes "6" ∷ []
unfolding digits
unlocked_row = refl

-- A heading between two that have records, and two after the last.
pub locked_row : texts (locked_labels (recorded (plain_label 1) 0 ∷ recorded (plain_label 2) 4 ∷ []) (plain 0 ∷ plain 2 ∷ plain 4 ∷ plain 6 ∷ plain 8 ∷ []))
    ≡ codes "1" ∷ codes "1A" ∷ codes "2" ∷ codes "3" ∷ codes "4" ∷ []
unfolding digits
locked_row = refl

-- Headings before the first record, and no record at all.
pub front_row : texts (locked_labels (recorded (plain_label 1) 4 ∷ []) (plain 0 ∷ plain 2 ∷ plain 4 ∷ [])) ≡ codes "0A" ∷ codes "0B" ∷ codes "1" ∷ []
unfolding digits
front_row = refl

pub first_row : texts (locked_labels [] (plain 0 ∷ plain 2 ∷ [])) ≡ codes "1" ∷ codes "2" ∷ []
unfolding digits
first_row = refl

-- The label of a removed heading is given to none: 2 stays, so a heading behind it is 2A.
pub removed_row : texts (locked_labels (recorded (plain_label 1) 0 ∷ recorded (plain_label 2) 50 ∷ recorded (plain_label 3) 4 ∷ []) (plain 0 ∷ plain 2 ∷ plain 4 ∷ []))
    ≡ codes "1" ∷ codes "2A" ∷ codes "3" ∷ []
unfolding digits
removed_row = refl

-- Headings whose records stand out of their order.
pub turned_row : texts (locked_labels (recorded (plain_label 1) 4 ∷ recorded (plain_label 2) 0 ∷ []) (plain 0 ∷ plain 2 ∷ plain 4 ∷ plain 6 ∷ []))
    ≡ codes "2" ∷ codes "0A" ∷ codes "1" ∷ codes "3" ∷ []
unfolding digits
turned_row = refl

-- What locking refuses: a number that is no label, label 0 but not 0A, a label that isn't above the one before.
pub form_row : unlockable_place (plain 0 ∷ numbered 1 (plain_label 1) ∷ misnumbered 3 ∷ numbered 5 (plain_label 0) ∷ []) ≡ Some 3
form_row = refl

pub zero_row : unlockable_place (numbered 1 (label 0 (1 ∷ [])) ∷ numbered 5 (plain_label 0) ∷ []) ≡ Some 5
zero_row = refl

pub order_row : disordered_place (numbered 0 (plain_label 2) ∷ numbered 2 (plain_label 1) ∷ []) ≡ Some 2
order_row = refl

pub automatic_order_row : disordered_place (numbered 0 (plain_label 5) ∷ plain 1 ∷ numbered 2 (plain_label 6) ∷ []) ≡ Some 2
automatic_order_row = refl

pub no_order_row : disordered_place (plain 0 ∷ numbered 2 (label 1 (1 ∷ [])) ∷ plain 4 ∷ []) ≡ None
no_order_row = refl

-- New records go into the list by label.
pub extended_row : extended_records (recorded (plain_label 1) 4 ∷ recorded (plain_label 2) 0 ∷ []) (plain 0 ∷ plain 2 ∷ plain 4 ∷ plain 6 ∷ [])
    ≡ recorded (label 0 (1 ∷ [])) 2 ∷ recorded (plain_label 1) 4 ∷ recorded (plain_label 2) 0 ∷ recorded (plain_label 3) 6 ∷ []
extended_row = refl
