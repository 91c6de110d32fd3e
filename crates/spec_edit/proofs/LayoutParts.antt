-- Layouts of elements, part by part.
use Rattle.std.proofs.Common.{◌≡◌, ℕ, Bool, true, false, cond, List, [], ◌∷◌, ◌++◌, map, filter, refl, ap, ap₂, ◌∙◌, arith}
use Rattle.std.specs.Prelude.{All}
use Rattle.std.proofs.lemmas.List.{map-append}
use Rattle.std.proofs.lemmas.List.Elements.{All-cons, All-head, All-tail, filter-append}
use Rattle.spec_text.specs.Lines.{LineState}
use Rattle.spec_script.specs.LongestRuns.{Group}
use Rattle.spec_script.specs.Stanzas.{PlacedBlock}
use Rattle.spec_pages.specs.Rows.{ElementOf}
use Rattle.spec_sheets.specs.Shown.{row_key}
use Rattle.spec_sheets.specs.Speakers.{Spoken}
use Rattle.spec_sheets.specs.Layout.{laid_out, placed_in}
use Rattle.spec_edit.specs.Moved.{moved_place, moved_block, moved_spoken, moved_group, moved_laid}
use Rattle.spec_edit.proofs.MovedElements.{GroupStays, all-stay, keys-stay}

-- The elements of a title page or of a body among these, laid out.
abbrev pub laid_of : (Group Spoken → Bool) → List LineState → List (Group Spoken) → List ElementOf
laid_of among lines groups = map (laid_out lines) (filter among groups)

pub laid-append : (among : Group Spoken → Bool) (lines : List LineState) (xs ys : List (Group Spoken)) → laid_of among lines (xs ++ ys) ≡ laid_of among lines xs ++ laid_of among lines ys
laid-append among lines xs ys = ap (map (laid_out lines)) (filter-append among xs ys) ∙ map-append (laid_out lines) (filter among xs) (filter among ys)

pub laid-three : (among : Group Spoken → Bool) (lines : List LineState) (xs ys zs : List (Group Spoken)) → laid_of among lines (xs ++ (ys ++ zs)) ≡ laid_of among lines xs ++ (laid_of among lines ys ++ laid_of among lines zs)
laid-three among lines xs ys zs = laid-append among lines xs (ys ++ zs) ∙ ap (λ (those : List ElementOf). laid_of among lines xs ++ those) (laid-append among lines ys zs)

module _ (less more : ℕ) (lines later : List LineState) where
  filter-moved : (among : Group Spoken → Bool) → ((g : Group Spoken) → among (moved_group less more g) ≡ among g) → (groups : List (Group Spoken)) → filter among (map (moved_group less more) groups) ≡ map (moved_group less more) (filter among groups)
  filter-moved among same [] = refl
  filter-moved among same (g ∷ groups) =
      ap (λ b. cond b (moved_group less more g ∷ filter among (map (moved_group less more) groups)) (filter among (map (moved_group less more) groups))) (same g) ∙ by (among g) (filter-moved among same groups)
    where
      by : (b : Bool) → filter among (map (moved_group less more) groups) ≡ map (moved_group less more) (filter among groups)
          → cond b (moved_group less more g ∷ filter among (map (moved_group less more) groups)) (filter among (map (moved_group less more) groups)) ≡ map (moved_group less more) (cond b (g ∷ filter among groups) (filter among groups))
      by true rest = ap (λ (those : List (Group Spoken)). moved_group less more g ∷ those) rest
      by false rest = rest

  pub filter-stay : (among : Group Spoken → Bool) (groups : List (Group Spoken)) → All (GroupStays less more lines later) groups → All (GroupStays less more lines later) (filter among groups)
  filter-stay among [] all = all
  filter-stay among (g ∷ groups) all = by (among g) (filter-stay among groups (All-tail (GroupStays less more lines later) g groups all))
    where
      by : (b : Bool) → All (GroupStays less more lines later) (filter among groups) → All (GroupStays less more lines later) (cond b (g ∷ filter among groups) (filter among groups))
      by true rest = All-cons (GroupStays less more lines later) g (filter among groups) (All-head (GroupStays less more lines later) g groups all) rest
      by false rest = rest

  -- Elements that stay are those before, moved, and so are their keys.
  pub laid-moved : (among : Group Spoken → Bool) → ((g : Group Spoken) → among (moved_group less more g) ≡ among g) → (groups : List (Group Spoken)) → All (GroupStays less more lines later) groups
      → laid_of among later (map (moved_group less more) groups) ≡ map (moved_laid less more) (laid_of among lines groups)
  laid-moved among same groups all = ap (map (laid_out later)) (filter-moved among same groups) ∙ all-stay less more lines later (filter among groups) (filter-stay among groups all)

  pub keys-moved : (among : Group Spoken → Bool) (groups : List (Group Spoken)) → All (GroupStays less more lines later) groups
      → map (row_key later) (placed_in (map (moved_laid less more) (laid_of among lines groups))) ≡ map (row_key lines) (placed_in (laid_of among lines groups))
  keys-moved among groups all = keys-stay less more lines later (filter among groups) (filter-stay among groups all)

-- Elements of a text that stay where they are are the same.
pub still-place : (place : ℕ) → moved_place 0 0 place ≡ place
still-place place = omega arith

pub still-blocks : (blocks : List PlacedBlock) → map (moved_block 0 0) blocks ≡ blocks
still-blocks [] = refl
still-blocks (block ∷ blocks) = ap₂ (λ place (those : List PlacedBlock). record { first = place; block = block.block } ∷ those) (still-place block.first) (still-blocks blocks)

still-spoken : (those : List Spoken) → map (moved_spoken 0 0) those ≡ those
still-spoken [] = refl
still-spoken (it ∷ those) = ap₂ (λ place (rest : List Spoken). record { placed = record { first = place; block = it.placed.block }; continued = it.continued } ∷ rest) (still-place it.placed.first) (still-spoken those)

pub still-groups : (groups : List (Group Spoken)) → map (moved_group 0 0) groups ≡ groups
still-groups [] = refl
still-groups (group ∷ groups) =
    let it = group.first in
    ap₂ (λ place (rest : List (Group Spoken)). record { first = record { placed = record { first = place; block = it.placed.block }; continued = it.continued }; more = map (moved_spoken 0 0) group.more } ∷ rest) (still-place it.placed.first) (still-groups groups)
    ∙ ap (λ (those : List Spoken). record { first = it; more = those } ∷ groups) (still-spoken group.more)

pub still-laid : (elements : List ElementOf) → map (moved_laid 0 0) elements ≡ elements
still-laid [] = refl
still-laid (element ∷ elements) = ap₂ (λ place (rest : List ElementOf). record { first = place; rows = element.rows } ∷ rest) (still-place element.first) (still-laid elements)
